use Rattle.std.proofs.Common.{rules, ◌≡◌, ◌∙◌, ℕ, List, None, Some, ap, sym, subst, refl}
use Rattle.dw_unit.specs.ListedEntries.{ListedEntry}
use Rattle.list_units.specs.declared.place_reading.PlaceProgress.{PlaceProgress}
use Rattle.list_units.specs.PlaceReading.{IsUnitAdded}
use Rattle.list_units.proofs.PlaceProgress.{bad_kept, bad_first, unit_added}
use Rattle.list_units.proofs.ReadProgress.{none_of}
use Rattle.list_units.proofs.place_reading.add_reading.Goals as goal

pub returns-then-is_some : goal.returns-then-is_some
returns-then-is_some c = λ s ws w place i a b l are is.
    bad_kept s ws w c.args.progress.now _ c.args.reading.now are is c.lower-progress.ensures c.lower-progress-2.ensures
    c.lower-progress-3.ensures
    are.numbered (sym c.is_some.ensures ∙ c.if-is_some.true) refl

pub returns-in_ok-add_entries-in-Some : goal.returns-in_ok-add_entries-in-Some
returns-in_ok-add_entries-in-Some c = λ s ws w place i a b l are is.
    let before : c.args.progress.now.bad ≡ None = none_of c.args.progress.now.bad (sym c.is_some.ensures ∙ c.if-is_some.false) in
    let old : PlaceProgress = c.args.progress.now in
    let mid : PlaceProgress = record {
      groups = old.groups;
      kept = old.kept;
      named = old.named;
      bad_form = c.lower-progress.result;
      bad_high = c.lower-progress-2.result;
      unformed = c.lower-progress-3.result;
      bad = old.bad;
      bad_ranges = old.bad_ranges;
      bad_locations = old.bad_locations;
      indexed = old.indexed;
    } in
    let new : PlaceProgress = c.add_entries.new.progress in
    let items : c.deref.result.now ≡ c.in-Some.entries.items = search (rules, c.deref.ensures.value) in
    let added : IsUnitAdded s c.in-Some.entries.items w.place mid new =
    subst (λ (n : ℕ). IsUnitAdded s c.in-Some.entries.items n mid new) (sym place)
    (subst (λ (l : List ListedEntry). IsUnitAdded s l c.args.place mid new) items
    (c.in_ok-add_entries-in-Some.ensures s i a b l are.numbered (are.gathered before).held)) in
    unit_added s ws w old mid new c.args.reading.now c.in-Some.entries are is c.lower-progress.ensures c.lower-progress-2.ensures
    c.lower-progress-3.ensures refl refl refl refl refl refl refl before c.in-Some.is added

pub returns-in-None : goal.returns-in-None
returns-in-None c = λ s ws w place i a b l are is.
    bad_first s ws w c.args.progress.now _ c.args.reading.now are is c.lower-progress.ensures c.lower-progress-2.ensures
    c.lower-progress-3.ensures
    are.numbered (none_of c.args.progress.now.bad (sym c.is_some.ensures ∙ c.if-is_some.false)) c.in-None.is
    (ap (λ (n : ℕ). Some n) (sym place))
