use Rattle.std.proofs.Common.{take}
use Rattle.line_rewrite.specs.KeptEntries.{texts_strings}
use Rattle.line_rewrite.specs.UnitLists.{AreUnits}
use Rattle.line_rewrite.proofs.unit_list.units_in.Given as goal

abbrev pub invariant-loop-unit : goal.invariant-loop-unit
invariant-loop-unit l = AreUnits (texts_strings l.texts) (take l.unit-index l.walked) l.units.items
