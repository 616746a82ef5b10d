use Rattle.std.proofs.Common.{◌≡◌, ◌∙◌, Some, None, List, ℕ, ap, sym, refl, subst}
use Rattle.std.specs.Prelude.{is_some}
use Rattle.answer_runs.specs.Choices.{lower}
use Rattle.dw_lists.specs.Faults.{table_place}
use Rattle.dw_lists.specs.Lists.{locations_kind, list_offset}
use Rattle.list_units.specs.ReadLists.{AreListed, offsets_in}
use Rattle.list_units.proofs.ReadListFacts.{offsets_past, offsets_none, offsets_one}
use Rattle.dw_lists.proofs.NotedLists.{noted_sound, noted_bad}
use Rattle.list_units.proofs.unit_locations.note_list.Goals as goal

pub returns-in-Some-2-clause-read : goal.returns-in-Some-2-clause-read
returns-in-Some-2-clause-read c = λ s u attrs r k noted.
    let p = c.in_ok-number_at.ensures.read s u r k in
    let offset : list_offset locations_kind s.locations u c.args.attr ≡ Some c.in-Some.at =
    ap (λ (l : List ℕ). list_offset locations_kind l u c.args.attr) (sym r.section) ∙ sym (c.list_offset.ensures u r.lists.lists)
    ∙ c.in-Some.is in (
      p.0,
      noted_sound locations_kind s.locations s.units.addr u attrs c.args.attr c.args.others c.args.others noted c.in-Some.at
          (sym c.has_list.ensures ∙ c.if-not-has_list.false) offset (sym p.1.some ∙ ap is_some c.in-Some-2.is) refl,
    )

pub returns-in-None-clause-read : goal.returns-in-None-clause-read
returns-in-None-clause-read c = λ s u attrs r k noted.
    let p = c.in_ok-number_at.ensures.read s u r k in
    let offset : list_offset locations_kind s.locations u c.args.attr ≡ Some c.in-Some.at =
    ap (λ (l : List ℕ). list_offset locations_kind l u c.args.attr) (sym r.section) ∙ sym (c.list_offset.ensures u r.lists.lists)
    ∙ c.in-Some.is in (
      p.0,
      noted_bad locations_kind s.locations s.units.addr u attrs c.args.attr c.args.others
          (record { lacks_offset = c.args.others.lacks_offset; bad = c.lower.result }) noted c.in-Some.at
          (sym c.has_list.ensures ∙ c.if-not-has_list.false) offset (sym p.1.some ∙ ap is_some c.in-None.is) refl
          (c.lower.ensures ∙ ap (λ (n : ℕ). lower c.args.others.bad (Some n)) (c.table_place.ensures
          ∙ ap (λ (l : List ℕ). table_place l c.in-Some.at) r.section)),
    )

pub returns-then-not-has_list-clause-listed : goal.returns-then-not-has_list-clause-listed
returns-then-not-has_list-clause-listed c = λ s u attrs first r x.
    subst (λ (l : List ℕ). AreListed s u l first c.args.lists.now.items c.args.known.now)
    (sym (offsets_past s u attrs c.args.attr (sym c.has_list.ensures ∙ c.if-not-has_list.true))) x

pub returns-in_default-clause-listed : goal.returns-in_default-clause-listed
returns-in_default-clause-listed c = λ s u attrs first r x.
    let offset : list_offset locations_kind s.locations u c.args.attr ≡ None =
    ap (λ (l : List ℕ). list_offset locations_kind l u c.args.attr) (sym r.section) ∙ sym (c.list_offset.ensures u r.lists.lists)
    ∙ c.in_default.is in
    subst (λ (l : List ℕ). AreListed s u l first c.args.lists.now.items c.args.known.now)
    (sym (offsets_none s u attrs c.args.attr (sym c.has_list.ensures ∙ c.if-not-has_list.false) offset)) x

pub returns-in-Some-2-clause-listed : goal.returns-in-Some-2-clause-listed
returns-in-Some-2-clause-listed c = λ s u attrs first r x.
    let offset : list_offset locations_kind s.locations u c.args.attr ≡ Some c.in-Some.at =
    ap (λ (l : List ℕ). list_offset locations_kind l u c.args.attr) (sym r.section) ∙ sym (c.list_offset.ensures u r.lists.lists)
    ∙ c.in-Some.is in
    subst (λ (l : List ℕ). AreListed s u l first c.number_at.new.lists.items c.number_at.new.known)
    (sym (offsets_one s u attrs c.args.attr c.in-Some.at (sym c.has_list.ensures ∙ c.if-not-has_list.false) offset))
    (c.in_ok-number_at.ensures.listed s u (offsets_in s u attrs) first r x)

pub returns-in-None-clause-listed : goal.returns-in-None-clause-listed
returns-in-None-clause-listed c = λ s u attrs first r x.
    let offset : list_offset locations_kind s.locations u c.args.attr ≡ Some c.in-Some.at =
    ap (λ (l : List ℕ). list_offset locations_kind l u c.args.attr) (sym r.section) ∙ sym (c.list_offset.ensures u r.lists.lists)
    ∙ c.in-Some.is in
    subst (λ (l : List ℕ). AreListed s u l first c.number_at.new.lists.items c.number_at.new.known)
    (sym (offsets_one s u attrs c.args.attr c.in-Some.at (sym c.has_list.ensures ∙ c.if-not-has_list.false) offset))
    (c.in_ok-number_at.ensures.listed s u (offsets_in s u attrs) first r x)
