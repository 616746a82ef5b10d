use Rattle.std.proofs.Common.{ℕ, ◌<◌, ◌+◌}
use Rattle.rv_reloc.specs.Candidates.{IsFreeByte}
use Rattle.rv_reloc.proofs.candidates.are_free.Given as goal

abbrev pub invariant-loop-index : goal.invariant-loop-index
invariant-loop-index l = (i : ℕ) → i < l.index → IsFreeByte l.elf (l.place + i)
