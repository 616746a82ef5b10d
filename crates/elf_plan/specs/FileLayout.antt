-- The layout of a written file: its header fields, its table of program headers, and the parts after the bytes that it
-- loads. gABI, "ELF Header", "Program Header" and "Section Header".
use Rattle.std.specs.Prelude.{◌≡◌, ℕ, ◌+◌, ◌-◌, ◌*◌, ◌||◌, nat_lt, max, if◌then◌else◌, Bool, false, true, List, [], ◌∷◌}
use Rattle.std.specs.Prelude.{◌++◌, IsSomeAnd, IsTrue, String, Vec, length, map, slice_get, slice_range}
use Rattle.std.specs.List.{list_any}
use Rattle.std.specs.Option.{option_map_or}
use Rattle.elf_image.specs.declared.elf.Elf.{Elf}
use Rattle.elf_image.specs.declared.section.Section.{Section}
use Rattle.elf_image.specs.declared.section.TheConstants.{SHDR_SIZE}
use Rattle.elf_image.specs.declared.segment.Segment.{Segment}
use Rattle.elf_image.specs.declared.segment.TheConstants.{PHDR_SIZE}
use Rattle.elf_image.specs.file.Header.{e_phoff, e_shoff}
use Rattle.elf_image.specs.memory.LoadedBytes.{Range, loads_range}
use Rattle.elf_image.specs.memory.Break.{rounded_up}
use Rattle.rv_code.specs.layout.Lists.{ListsPairs}
use Rattle.elf_plan.specs.declared.area.Area.{Area}
use Rattle.elf_plan.specs.declared.area.Shift.{Shift}
use Rattle.elf_plan.specs.declared.sections.Contents.{Contents}
use Rattle.elf_plan.specs.declared.sections.Contents.TheVariants.{Dropped, Inactive, Kept}
use Rattle.elf_plan.specs.Area.{loads_end, lowest_behind, moved_by, area_offset}
use Rattle.elf_plan.specs.Contents.{contents_of}
use Rattle.elf_plan.specs.NewSections.{adds_ranges}

-- The header fields that don't change: all except e_entry, e_phoff, e_shoff, e_phnum and e_shnum. NewSections says that
-- e_shstrndx doesn't change.
pub record KeepsHeaderFields (file w : List ℕ) : Type 0 where
  -- e_ident, e_type, e_machine and e_version.
  pub kind : slice_range w 0 0x18 ≡ slice_range file 0 0x18
  -- e_flags, e_ehsize and e_phentsize.
  pub flags : slice_range w 0x30 0x38 ≡ slice_range file 0x30 0x38
  -- e_shentsize.
  pub entries : slice_range w 0x3a 0x3c ≡ slice_range file 0x3a 0x3c

-- The end of the loaded bytes: the end of the area, or of the bytes that moved after it.
abbrev pub loaded_end : List Segment → Area → Shift → ℕ
loaded_end segments area shift =
    if area.tight
    then area_offset area area.end
    else option_map_or (λ low. loads_end segments + shift.by) (lowest_behind shift.from segments)
    (area_offset area area.end)

-- The table of program headers.

-- The table of the input, and whether it is among bytes that are kept or moved: it starts before the end of the
-- executable segment, or is completely loaded by a segment.
abbrev pub table_of : Elf → Range
table_of elf = record { start = elf.phoff; size = PHDR_SIZE * length elf.segments.items }

abbrev pub is_kept_table : Elf → Shift → Bool
is_kept_table elf shift = nat_lt elf.phoff shift.from || list_any (loads_range (table_of elf)) elf.segments.items

-- The offset of the table in the written file: at the start of the area's own segment, or with the bytes around it, or
-- otherwise after the loaded bytes.
abbrev pub table_place : Elf → Area → Shift → ℕ
table_place elf area shift =
    if area.tight then area.offset
    else if is_kept_table elf shift then moved_by shift.from shift.by elf.phoff
    else rounded_up 8 (loaded_end elf.segments.items area shift)

-- The contents of sections that are written after the loaded bytes.

abbrev pub is_written : Contents → Bool
is_written Dropped = false
is_written Inactive = false
is_written Kept = false
is_written _ = true

-- The offset at which these contents start. The table of program headers may come before them.
abbrev pub contents_start : Elf → Area → Shift → ℕ
contents_start elf area shift =
    if area.tight || is_kept_table elf shift
    then loaded_end elf.segments.items area shift
    else table_place elf area shift + (table_of elf).size

-- The section with index `place.1` has the offset `place.0`, and passes `test`.
abbrev pub PassesAt : List Section → (ℕ → Section → Bool) → ℕ × ℕ → Type 0
PassesAt sections test place = IsSomeAnd (slice_get sections place.1)
    (λ s. (s.offset ≡ place.0) × IsTrue (test place.1 s))

-- The contents of the section with index `index` are at the least multiple of their alignment (0 means none) at or
-- after `start`, and end at `end`.
abbrev pub StandsBehind : List Section → ℕ → ℕ → ℕ → Type 0
StandsBehind sections start index end =
    IsSomeAnd (slice_get sections index) (λ n. (n.offset ≡ rounded_up (max 1 n.align) start)
    × (end ≡ n.offset + n.size))

-- The contents of the sections with these indices follow one another in this way.
abbrev pub StandFrom : List Section → ℕ → List ℕ → ℕ → Type 0
StandFrom sections start [] end = end ≡ start
StandFrom sections start (index ∷ indices) end =
    (next : ℕ) × (StandsBehind sections start index next × StandFrom sections next indices end)

-- The index of the table of ranges, which is the last section, if it is added.
abbrev pub added_ranges : Bool → ℕ → List ℕ
added_ranges adds count = if adds then (count - 1) ∷ [] else []

pub record HasFileLayout {Y Z : Type 0} (elf new : Elf) (tables : List (String Y × Vec ℕ Z)) (area : Area)
    (shift : Shift)
    : Type 0 where
  pub header : KeepsHeaderFields elf.file.now new.file.now
  pub table : e_phoff new.file.now ≡ table_place elf area shift
  -- The sections whose contents are written, in the order of their offsets in the input.
  pub order : List (ℕ × ℕ)
  pub lists : ListsPairs (PassesAt elf.sections.items (λ i s. is_written (contents_of elf tables area shift i s))) order
  -- The end of these contents.
  pub end : ℕ
  pub stand : StandFrom new.sections.items (contents_start elf area shift)
      (map (λ place. place.1) order ++ added_ranges (adds_ranges elf.sections.items tables) (length new.sections.items))
      end
  -- The section headers are at the end of the file.
  pub headers : e_shoff new.file.now ≡ rounded_up 8 end
  pub size : length new.file.now ≡ e_shoff new.file.now + SHDR_SIZE * length new.sections.items
