-- The halfwords of a part of code, and marks for those that begin four-byte instructions.
use Rattle.std.specs.Prelude.{◌≡◌, ◌<◌, ◌+◌, ◌-◌, ◌*◌, ◌%◌, ◌/◌, ℕ, List, length, slice_index, unwrap_or}
use Rattle.elf_image.specs.declared.elf.Elf.{Elf}
use Rattle.elf_image.specs.memory.LoadedBytes.{byte_at}
use Rattle.rb_lanes.specs.Marks.{is_marked, ends_in_ones}
use Rattle.code_starts.specs.declared.parts.Part.{Part}

-- The bytes at all addresses of a part.
pub record AreBytesOf (elf : Elf) (part : Part) (bytes : List ℕ) : Type 0 where
  pub count : length bytes ≡ part.end - part.start
  pub each : (i : ℕ) → i < length bytes → slice_index bytes i ≡ unwrap_or (byte_at elf (part.start + i)) 0

-- The halfwords from the start of a part on. Only their low bytes are specified.
pub record AreHalvesOf (elf : Elf) (part : Part) (halves : List ℕ) : Type 0 where
  pub count : length halves ≡ (part.end - part.start + 1) / 2
  pub each : (i : ℕ) → i < length halves → slice_index halves i % 256 ≡ unwrap_or (byte_at elf (part.start + 2 * i)) 0

-- The marked halfwords are exactly those whose two lowest bits are set.
abbrev pub AreMarksOf : List ℕ → List ℕ → Type 0
AreMarksOf halves marks = (i : ℕ) → is_marked marks i ≡ ends_in_ones (slice_index halves i)
