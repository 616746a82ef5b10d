use Rattle.std.proofs.Common.{◌≡◌, ◌∙◌, Some, List, ℕ, ap, sym, refl, arith}
use Rattle.std.proofs.lemmas.Grind.{common_steps}
use Rattle.std.specs.Prelude.{is_some}
use Rattle.answer_runs.specs.Choices.{lower}
use Rattle.dw_lists.specs.Faults.{table_place}
use Rattle.dw_lists.specs.Lists.{ranges_kind, list_offset}
use Rattle.dw_lists.proofs.NotedLists.{noted_sound, noted_bad}
use Rattle.dw_lists.proofs.unit_ranges.note_list.Goals as goal

pub returns-in-Some-2 : goal.returns-in-Some-2
returns-in-Some-2 c = λ s u attrs b r n k noted.
    let p = c.in_ok-group_at.ensures s u b r n k in
    let offset : list_offset ranges_kind s.ranges u c.args.attr ≡ Some c.in-Some.at =
    ap (λ (l : List ℕ). list_offset ranges_kind l u c.args.attr) (sym b) ∙ sym (c.list_offset.ensures u r.lists) ∙ c.in-Some.is in (
      p.grow,
      p.known_are,
      noted_sound ranges_kind s.ranges s.units.addr u attrs c.args.attr c.args.others c.args.others noted c.in-Some.at
          (sym c.has_list.ensures
          ∙ c.if-not-has_list.false) offset
          (sym p.is.some ∙ ap is_some c.in-Some-2.is) refl,
    )

pub returns-in-None : goal.returns-in-None
returns-in-None c = λ s u attrs b r n k noted.
    let p = c.in_ok-group_at.ensures s u b r n k in
    let offset : list_offset ranges_kind s.ranges u c.args.attr ≡ Some c.in-Some.at =
    ap (λ (l : List ℕ). list_offset ranges_kind l u c.args.attr) (sym b) ∙ sym (c.list_offset.ensures u r.lists) ∙ c.in-Some.is in (
      p.grow,
      p.known_are,
      noted_bad ranges_kind s.ranges s.units.addr u attrs c.args.attr c.args.others
          (record { lacks_offset = c.args.others.lacks_offset; bad = c.lower.result }) noted
          c.in-Some.at
          (sym c.has_list.ensures ∙ c.if-not-has_list.false) offset
          (sym p.is.some ∙ ap is_some c.in-None.is) refl
          (c.lower.ensures ∙ ap (λ (n : ℕ). lower c.args.others.bad (Some n)) (c.table_place.ensures
          ∙ ap (λ (l : List ℕ). table_place l c.in-Some.at) b)),
    )

pub returns-then-not-has_list : goal.returns-then-not-has_list
returns-then-not-has_list c = grind (arith, common_steps)

pub returns-in_default : goal.returns-in_default
returns-in_default c = grind (arith, common_steps)
