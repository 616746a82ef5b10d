use Rattle.std.proofs.Common.{◌≡◌, ◌∙◌, ◌<◌, ◌++◌, ◌∷◌, [], ℕ, List, None, ap, sym, arith, length, get_or, take}
use Rattle.std.proofs.lemmas.List.{take_more}
use Rattle.std.proofs.lemmas.Option.{slice_get-get_or}
use Rattle.std.specs.Prelude.{if◌then◌else◌, ◌==◌}
use Rattle.std.proofs.lemmas.Grind.{common_steps}
use Rattle.cover_lists.specs.declared.groups.RangedEntry.{RangedEntry}
use Rattle.cover_lists.specs.CoverIndex.{members_in, is_member}
use Rattle.cover_lists.proofs.MemberLists.{members_more}
use Rattle.cover_lists.proofs.cover_index.members_of.Goals as goal

abbrev nobody : RangedEntry
nobody = record { place = 0; group = 0; own = 0; index = None; entry = None; first = None }

pub loop-number-preserved : goal.loop-number-preserved
loop-number-preserved c =
    let i : ℕ = c.loop-number.number in
    let ranged : List RangedEntry = c.args.ranged.now in
    let r : RangedEntry = get_or ranged i nobody in
    let group = c.group_of.ensures r (slice_get-get_or ranged i nobody c.loop-number-test.true) in
    let size : i ≡ length (take i ranged) = grind (arith, common_steps) in (
      c.in_ok-add_member.ensures.count ∙ c.loop-number.invariant.0,
      λ g k. members_more (take i ranged) r c.loop-number.members.items c.add_member.new.members.items i size c.loop-number.invariant.1
          (λ g. c.in_ok-add_member.ensures.more g
          ∙ ap (λ (n : ℕ). if g == n then members_in c.loop-number.members.items g ++ i ∷ [] else members_in c.loop-number.members.items g)
          group) g k
          ∙ ap (λ (l : List RangedEntry). is_member l g k) (sym (take_more ranged i nobody c.loop-number-test.true)),
    )

pub add_member-requires : goal.add_member-requires
add_member-requires c =
    let i : ℕ = c.loop-number.number in
    let r : RangedEntry = get_or c.args.ranged.now i nobody in
    let group : c.group_of.result ≡ r.group =
    c.group_of.ensures r (slice_get-get_or c.args.ranged.now i nobody c.loop-number-test.true) in
    let below : r.group < c.args.count = c.requires i nobody c.loop-number-test.true in
    omega (arith, group, below, c.loop-number.invariant.0)

pub returns-clause-each : goal.returns-clause-each
returns-clause-each c = grind (arith, common_steps)
