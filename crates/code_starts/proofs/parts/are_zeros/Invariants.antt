use Rattle.code_starts.specs.Parts.{AreZeros}
use Rattle.code_starts.proofs.parts.are_zeros.Given as goal

abbrev pub invariant-loop-address : goal.invariant-loop-address
invariant-loop-address l = AreZeros l.elf l.start l.address
