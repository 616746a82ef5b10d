use Rattle.std.proofs.Common.{ℕ, ◌<◌, slice_index_or}
use Rattle.elf_code.specs.Functions.{IsNopPart}
use Rattle.code_starts.specs.declared.parts.Part.{Part}
use Rattle.func_find.proofs.function_parts.have_nops.Given as goal

abbrev pub invariant-loop-part : goal.invariant-loop-part
invariant-loop-part l =
    (k : ℕ) (d : Part) → k < l.part-index →
    IsNopPart l.elf (slice_index_or l.parts k d).start (slice_index_or l.parts k d).end → ⊥
