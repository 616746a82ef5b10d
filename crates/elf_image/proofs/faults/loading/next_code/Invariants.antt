use Rattle.std.proofs.Common.{ℕ, ◌<◌, ◌≤◌}
use Rattle.elf_image.specs.faults.SegmentLayout.{IsCode}
use Rattle.elf_image.proofs.faults.loading.next_code.Given as goal

abbrev pub invariant-loop-index : goal.invariant-loop-index
invariant-loop-index l = (k : ℕ) → IsCode l.segments.file.now k → l.from ≤ k → k < l.index → ⊥
