-- The addresses of loaded segments, and their bytes of the file, as ranges.
use Rattle.std.specs.Prelude.{◌≡◌, ◌<◌, ◌+◌, ℕ, List, Contains, AllPairs, IsTrue}
use Rattle.elf_image.specs.declared.extent.Extent.{Extent}
use Rattle.elf_image.specs.declared.faults.segment_extents.ExtentKind.{ExtentKind}
use Rattle.elf_image.specs.declared.faults.segment_extents.ExtentKind.TheVariants.{Addresses, CodeAddresses, FileBytes}
use Rattle.elf_image.specs.file.Header.{segment, segment_place}
use Rattle.elf_image.specs.memory.Image.{is_load, end_of}
use Rattle.elf_image.specs.faults.SegmentLayout.{is_code_segment}

-- The range of the segment with an index, if it isn't empty.
abbrev pub IsAddressExtent : List ℕ → ℕ → Extent → Type 0
IsAddressExtent file i s =
    let p = segment file i in
    IsTrue (is_load p) × (s.start ≡ p.vaddr) × (s.end ≡ end_of p) × (s.start < s.end) × (s.place ≡ segment_place file i)

abbrev pub IsFileExtent : List ℕ → ℕ → Extent → Type 0
IsFileExtent file i s =
    let p = segment file i in
    IsTrue (is_load p) × (s.start ≡ p.offset) × (s.end ≡ p.offset + p.filesz) × (s.start < s.end)
    × (s.place ≡ segment_place file i)

abbrev pub IsCodeExtent : List ℕ → ℕ → Extent → Type 0
IsCodeExtent file i s = IsTrue (is_code_segment (segment file i)) × IsAddressExtent file i s

abbrev pub IsExtentOf : ExtentKind → List ℕ → ℕ → Extent → Type 0
IsExtentOf Addresses file = IsAddressExtent file
IsExtentOf CodeAddresses file = IsCodeExtent file
IsExtentOf FileBytes file = IsFileExtent file

-- The ranges of the segments with an index below n, in the order of the table.
pub record AreExtents (IsExtent : ℕ → Extent → Type 0) (n : ℕ) (extents : List Extent) : Type 0 where
  pub each : (s : Extent) → Contains extents s → (i : ℕ) × (i < n) × IsExtent i s
  pub all : (i : ℕ) (s : Extent) → i < n → IsExtent i s → Contains extents s
  pub ascending : AllPairs (λ s t. s.place < t.place) extents
