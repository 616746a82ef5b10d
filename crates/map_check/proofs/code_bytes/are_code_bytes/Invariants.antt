use Rattle.std.proofs.Common.{ℕ, ◌+◌, ◌<◌}
use Rattle.elf_image.specs.memory.Executables.{IsCodeByte, executable_read}
use Rattle.map_check.proofs.code_bytes.are_code_bytes.Given as goal

abbrev pub invariant-loop-i : goal.invariant-loop-i
invariant-loop-i l = (k : ℕ) → k < l.i → IsCodeByte (executable_read l.elf) (l.start + k)
