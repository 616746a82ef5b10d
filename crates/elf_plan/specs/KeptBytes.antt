-- The bytes of the input that keep their offsets in a written file, or move with the segments after the executable one.
use Rattle.std.specs.Prelude.{ℕ, ◌≤◌, ◌<◌, ◌⊎◌, ◌↔◌, IsTrue, List}
use Rattle.elf_image.specs.declared.extent.Extent.{Extent}
use Rattle.elf_image.specs.declared.segment.Segment.{Segment}
use Rattle.elf_image.specs.internal.Extents.{IsInOneExtent}
use Rattle.elf_plan.specs.declared.area.Area.{Area}
use Rattle.elf_plan.specs.declared.area.Shift.{Shift}
use Rattle.elf_plan.specs.declared.kept_bytes.KeptBytes.{KeptBytes}
use Rattle.elf_plan.specs.Contents.{stays}

-- The bytes from `start` to before `end` are before `front`, or in one range of `moved`.
abbrev pub IsKeptBy : ℕ → List Extent → ℕ → ℕ → Type 0
IsKeptBy front moved start end = (end ≤ front) ⊎ IsInOneExtent moved start end

abbrev pub Keeps : List Segment → Area → Shift → KeptBytes → Type 0
Keeps segments area shift kept = (start end : ℕ) → start < end →
    IsTrue (stays segments area shift start end) ↔ IsKeptBy kept.front kept.moved.items start end
