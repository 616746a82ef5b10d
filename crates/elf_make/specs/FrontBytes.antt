-- The bytes before what a rewriting adds that a program doesn't find in its memory, or finds unused; and those after it
-- that move with a segment, but aren't in its memory.
use Rattle.std.specs.Prelude.{◌≡◌, ◌⊎◌, ℕ, ◌+◌, ◌<◌, ◌≤◌, ◌++◌, not, min, if◌then◌else◌, Bool, true, false, List, ◌∷◌}
use Rattle.std.specs.Prelude.{Contains, IsTrue, IsFalse, slice_index}
use Rattle.std.specs.List.{list_any}
use Rattle.elf_image.specs.declared.elf.Elf.{Elf}
use Rattle.elf_image.specs.declared.segment.Segment.{Segment}
use Rattle.elf_image.specs.faults.SegmentLayout.{IsFileByte}
use Rattle.elf_image.specs.memory.Image.{is_load}
use Rattle.elf_image.specs.memory.LoadedBytes.{Range, is_in_range}
use Rattle.elf_image.specs.memory.HiddenFields.{e_entry_field, e_phoff_field, e_phnum_field, only, section_fields}
use Rattle.elf_plan.specs.declared.area.Area.{Area}
use Rattle.elf_plan.specs.Area.{code_file_end, loads_end, shift_of}
use Rattle.elf_plan.specs.FileLayout.{table_of}

-- Up to where no byte of the file moves: the end of the executable segment, or that of all loaded bytes if the area has
-- a segment of its own.
abbrev pub front_end : List Segment → Bool → ℕ
front_end segments tight = if tight then loads_end segments else code_file_end segments

-- what is written before that: fields of the ELF header, and the table of program headers, if it stays
abbrev pub written_ranges : Elf → Bool → List Range
written_ranges elf tight =
    e_entry_field ∷ e_phoff_field ∷ e_phnum_field ∷ section_fields ++ only (not tight) (table_of elf)

-- a segment loads the byte at an offset
abbrev pub LoadsByte : ℕ → Segment → Type 0
LoadsByte k p = IsTrue (is_load p) × (p.offset ≤ k) × (k < p.offset + min p.filesz p.memsz)

-- Bytes that no segment loads, and those of the table of program headers where another one takes its place.
abbrev pub IsLeft : Elf → Bool → ℕ → Type 0
IsLeft elf tight k = ((p : Segment) → Contains elf.segments.items p → LoadsByte k p → ⊥)
    ⊎ ((tight ≡ true) × IsTrue (is_in_range k (table_of elf)))

-- All such bytes before `front_end` are as they were, except for what is written there.
abbrev pub KeepsFront : Elf → Bool → List ℕ → Type 0
KeepsFront elf tight w = (k : ℕ) → k < front_end elf.segments.items tight → IsLeft elf tight k →
    IsFalse (list_any (is_in_range k) (written_ranges elf tight)) → slice_index w k ≡ slice_index elf.file.now k

-- If the area has no segment of its own, bytes of the file that a segment after the executable one names, but doesn't
-- load, since its p_filesz is above its p_memsz, move with those that it loads.
abbrev pub KeepsBehind : Elf → Area → List ℕ → Type 0
KeepsBehind elf area w =
    let shift = shift_of elf.segments.items area in
    area.tight ≡ false → (p : Segment) → Contains elf.segments.items p → (k : ℕ) → IsFileByte k p →
    shift.from ≤ p.offset → p.offset + p.memsz ≤ k → slice_index w (k + shift.by) ≡ slice_index elf.file.now k
