use Rattle.std.proofs.Common.{◌-◌}
use Rattle.code_starts.specs.LoadedMemory.{AreBytesFrom}
use Rattle.func_find.proofs.Placing.{ArePlacedTo}
use Rattle.func_find.proofs.inst_lists.insts_of.Given as goal

abbrev pub invariant-loop-address : goal.invariant-loop-address
invariant-loop-address l = record {
  placed : ArePlacedTo l.elf l.part.start l.part.end l.address l.insts.items;
  bytes : AreBytesFrom l.elf l.address l.bytes;
}

abbrev pub decreases-loop-address : goal.decreases-loop-address
decreases-loop-address l = l.part.end - l.address
