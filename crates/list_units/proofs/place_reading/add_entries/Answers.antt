use Rattle.std.proofs.Common.{◌∙◌, ℕ, Bool, Option, Some, refl, sym, ap}
use Rattle.std.specs.Prelude.{if◌then◌else◌}
use Rattle.list_units.proofs.place_reading.add_entries.Goals as goal
use Rattle.list_units.proofs.place_reading.add_entries.Goals.{then-lacks_offset, else-lacks_offset}

-- The offset of a unit with a bad offset of a list, or else the old value.
abbrev kept_or : ℕ → Option ℕ → Bool → Option ℕ
kept_or place bad lacks = if lacks then Some place else bad

pub returns : goal.returns
returns c = λ s i a b l numbered held. record {
  faults = c.in_ok-faults.faults;
  placed = c.in_ok-faults.ensures s i a b l numbered held;
  ranges = c.lower-progress.ensures;
  locations = c.lower-progress-2.ensures;
  indexes = c.in_ok-put_indexed.ensures;
  bad = elim c.if-lacks_offset.branch [
    | then-lacks_offset w ↦ w.progress-is
        ∙ sym (ap (kept_or c.args.place c.args.progress.now.bad) (sym c.lacks_offset.ensures ∙ w.if-lacks_offset.true))
    | else-lacks_offset w ↦ w.progress-is
        ∙ sym (ap (kept_or c.args.place c.args.progress.now.bad) (sym c.lacks_offset.ensures ∙ w.if-lacks_offset.false))
  ];
  form = refl;
  high = refl;
  unformed_is = refl;
}
