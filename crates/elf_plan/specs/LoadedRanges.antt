-- The bytes of a file that its segments load, as ranges.
use Rattle.std.specs.Prelude.{◌≡◌, ℕ, ◌<◌, nat_lt, max, min, Bool, List, All}
use Rattle.std.specs.List.{list_any}
use Rattle.std.specs.List.Sorted.{IsNonDecreasingBy}
use Rattle.elf_image.specs.declared.extent.Extent.{Extent}
use Rattle.elf_image.specs.declared.segment.Segment.{Segment}
use Rattle.elf_plan.specs.HeaderPlaces.{loads_one}
use Rattle.elf_plan.specs.RangeTree.{IsReachOf}

-- The range has at least one of the numbers from `start` to before `end`.
abbrev pub meets : ℕ → ℕ → Extent → Bool
meets start end range = nat_lt (max start range.start) (min end range.end)

-- Ranges that aren't empty, sorted by start, and the running maxima of their ends.
pub record AreInOrder (sorted reaches : List Extent) : Type 0 where
  pub rising : IsNonDecreasingBy (λ s. s.start) sorted
  pub full : All (λ s. s.start < s.end) sorted
  pub reach : IsReachOf reaches sorted

-- The ranges have exactly the bytes that segments load.
abbrev pub HaveLoaded : List Segment → List Extent → Type 0
HaveLoaded segments ranges = (start end : ℕ) →
    list_any (meets start end) ranges ≡ list_any (loads_one start end) segments
