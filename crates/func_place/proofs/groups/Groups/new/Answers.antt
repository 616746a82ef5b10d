use Rattle.std.proofs.Common.{ℕ, ◌≡◌, [], ◌∷◌, refl, Global}
use Rattle.std.proofs.lemmas.List.{map-append}
use Rattle.std.specs.declared.collections.VecDeque.{VecDeque}
use Rattle.func_place.proofs.GroupMoves.{apart_more}
use Rattle.func_place.proofs.groups.Groups.new.Goals as goal

pub loop-member-preserved : goal.loop-member-preserved
loop-member-preserved c =
    let own : c.push_back.new.self.items ≡ c.loop-member.member ∷ [] =
    rw (c.in_ok-push_back.ensures.items, c.new-own.ensures.items) refl in
    let lists = map-append (λ (d : VecDeque ℕ Global). d.items) c.loop-member.lists.items (c.push_back.new.self ∷ []) in
    rw (c.in_ok-push.ensures.items, c.in_ok-push-2.ensures.items, lists, own) (apart_more c.loop-member.invariant)
