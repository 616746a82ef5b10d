use Rattle.std.proofs.Common.{◌≡◌}
use Rattle.answer_runs.specs.Choices.{least}
use Rattle.dw_unit.specs.Declarations.{has_bad_form, has_bad_high}
use Rattle.dw_unit.specs.Faults.{places_with}
use Rattle.dw_unit.specs.MapKeys.{KeepsKeys}
use Rattle.dw_unit.specs.TableStarts.{AreMarked, table_from}
use Rattle.dw_unit.specs.Told.{told_table}
use Rattle.dw_unit.proofs.tables.mark.Given as goal

abbrev pub invariant-marks : goal.invariant-marks
invariant-marks l = record {
  form : l.form ≡ least (places_with has_bad_form (table_from l.index (told_table l.table)).list);
  high : l.high ≡ least (places_with has_bad_high (table_from l.index (told_table l.table)).list);
  marks : AreMarked (told_table l.table) l.number l.fn.starts l.starts;
  keeps : KeepsKeys l.fn.starts l.starts;
}
