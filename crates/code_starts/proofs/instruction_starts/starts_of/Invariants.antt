use Rattle.std.proofs.Common.{◌≡◌, take}
use Rattle.code_starts.specs.Starts.{starts_of}
use Rattle.code_starts.proofs.instruction_starts.starts_of.Given as goal

abbrev pub invariant-loop-part : goal.invariant-loop-part
invariant-loop-part l = l.starts.items ≡ starts_of l.elf (take l.part-index l.parts)
