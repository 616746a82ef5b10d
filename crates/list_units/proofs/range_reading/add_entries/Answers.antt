use Rattle.std.proofs.Common.{Bool, Some, refl, sym, ap}
use Rattle.std.specs.Prelude.{if◌then◌else◌}
use Rattle.list_units.proofs.range_reading.add_entries.Goals as goal

pub returns-then-faults : goal.returns-then-faults
returns-then-faults c = λ s b a n within. record {
  faults = c.in_ok-faults.faults;
  gathered = c.in_ok-faults.ensures s b a n within;
  table = c.lower-progress.ensures;
  indexes = c.in_ok-put_indexed.ensures;
  bad = sym (ap (λ (t : Bool). if t then Some c.args.place else c.args.progress.now.bad) c.if-faults.true);
  form = refl;
  high = refl;
  unformed_is = refl;
}

pub returns-else-faults : goal.returns-else-faults
returns-else-faults c = λ s b a n within. record {
  faults = c.in_ok-faults.faults;
  gathered = c.in_ok-faults.ensures s b a n within;
  table = c.lower-progress.ensures;
  indexes = c.in_ok-put_indexed.ensures;
  bad = sym (ap (λ (t : Bool). if t then Some c.args.place else c.args.progress.now.bad) c.if-faults.false);
  form = refl;
  high = refl;
  unformed_is = refl;
}
