use Rattle.std.proofs.Common.{take}
use Rattle.rv_reloc.specs.Finds.{AreFound}
use Rattle.rv_reloc.specs.Pairs.{IsFar}
use Rattle.rv_reloc.proofs.pairs.read_far.Given as goal

abbrev pub invariant-loop-low : goal.invariant-loop-low
invariant-loop-low l = AreFound (IsFar l.elf) (take l.low-index l.lows) l.far.items
