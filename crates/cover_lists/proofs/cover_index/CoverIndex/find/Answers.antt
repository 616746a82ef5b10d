use Rattle.std.proofs.Common.{◌≡◌, ◌∙◌, ◌==◌, ◌++◌, ℕ, List, ap, map, filter, length}
use Rattle.std.specs.List.{list_any}
use Rattle.std.proofs.lemmas.List.Filters.{dedup_is}
use Rattle.std.proofs.lemmas.Map.Keys.{IsStrictlyIncreasing-dedup}
use Rattle.answer_runs.proofs.Ascending.{among_kept}
use Rattle.cover_lists.specs.declared.cover_tree.Cover.{Cover}
use Rattle.cover_lists.specs.CoverIndex.{is_held}
use Rattle.cover_lists.specs.CoverTree.{holds}
use Rattle.cover_lists.proofs.MemberLists.{among_found, numbers_are, held_within}
use Rattle.cover_lists.proofs.cover_index.CoverIndex.find.Goals as goal

pub returns : goal.returns
returns c = λ covers ranged is.
    let t = c.args.self.now in
    let numbers : List ℕ = c.in_ok-numbers.numbers.items in
    let groups : c.deref.result.now ≡ map (λ (x : Cover). x.group) (filter (holds c.args.a) t.tree) = c.deref.ensures.value
    ∙ c.in_ok-find.ensures
    ∙ ap (λ (l : List ℕ). l ++ map (λ (x : Cover). x.group) (filter (holds c.args.a) t.tree)) c.new-groups.ensures.items in
    let kept = dedup_is _ _ _ c.dedup.ensures.filtered in
    numbers_are (is_held covers ranged c.args.a) (length ranged) c.dedup.new.self.items
    (rw kept (IsStrictlyIncreasing-dedup _ c.sort_unstable.ensures.sorted))
    (λ k. ap (list_any (λ o. o == k)) kept ∙ among_kept k _ _ c.sort_unstable.ensures.permutation
    ∙ among_found covers t.tree ranged t.members.items c.args.a k c.deref.result.now numbers is.held is.members groups
    c.in_ok-numbers.ensures)
    (held_within covers ranged c.args.a)
