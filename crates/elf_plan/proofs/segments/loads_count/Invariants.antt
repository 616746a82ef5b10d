use Rattle.std.proofs.Common.{◌≡◌, ◌≤◌, ◌<◌, ◌-◌, ℕ, true, false}
use Rattle.std.specs.Prelude.{slice_index_or}
use Rattle.elf_image.specs.declared.segment.Segment.{Segment}
use Rattle.elf_image.specs.memory.Image.{is_load}
use Rattle.elf_plan.proofs.segments.loads_count.Given as goal

abbrev pub invariant-loop-i : goal.invariant-loop-i
invariant-loop-i l =
    (l.count ≤ l.i)
    × ((k : ℕ) (d : Segment) → l.count ≤ k → k < l.i → is_load (slice_index_or l.segments k d) ≡ false)
    × (0 < l.count → (d : Segment) → is_load (slice_index_or l.segments (l.count - 1) d) ≡ true)
