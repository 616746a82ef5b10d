use Rattle.std.proofs.Common.{drop}
use Rattle.dw_unit.specs.ListKeys.{Offsets}
use Rattle.dw_unit.proofs.list_offsets.first_offsets.Given as goal

abbrev pub invariant-lists : goal.invariant-lists
invariant-lists l = Offsets (drop l.index l.lists) l.offsets
