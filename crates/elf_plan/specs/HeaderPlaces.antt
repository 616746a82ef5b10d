-- The program headers of a written file, and the positions of their bytes. gABI, "Program Header".
use Rattle.std.specs.Prelude.{◌≡◌, ℕ, ◌+◌, ◌-◌, ◌*◌, ◌<◌, ◌==◌, ◌&&◌, not, nat_le, nat_lt, max, min, if◌then◌else◌}
use Rattle.std.specs.Prelude.{Bool, true, false, List, Option, Some, None, String, Vec, IfSome, IsSomeAnd, codes}
use Rattle.std.specs.Prelude.{length, map, option_map, slice_get, unwrap_or}
use Rattle.std.specs.List.{list_any}
use Rattle.std.specs.Option.{option_map_or}
use Rattle.elf_image.specs.declared.elf.Elf.{Elf}
use Rattle.elf_image.specs.declared.section.Section.{Section}
use Rattle.elf_image.specs.declared.section.TheConstants.{SHT_NOBITS}
use Rattle.elf_image.specs.declared.segment.Segment.{Segment}
use Rattle.elf_image.specs.declared.segment.TheConstants.{PHDR_SIZE, PT_GNU_EH_FRAME}
use Rattle.elf_image.specs.file.SectionNames.{is_loaded}
use Rattle.elf_image.specs.memory.CodeSegment.{executable_segment}
use Rattle.elf_image.specs.memory.Image.{is_load}
use Rattle.elf_image.specs.memory.Break.{rounded_up}
use Rattle.elf_plan.specs.declared.area.Area.{Area}
use Rattle.elf_plan.specs.declared.area.Shift.{Shift}
use Rattle.elf_plan.specs.declared.sections.Contents.{Contents}
use Rattle.elf_plan.specs.declared.segments.TheConstants.{PT_PHDR}
use Rattle.elf_plan.specs.Area.{moved_by, area_offset}
use Rattle.elf_plan.specs.Contents.{contents_of}
use Rattle.elf_plan.specs.FileLayout.{is_written}
use Rattle.elf_plan.specs.NewSegments.{AreNewHeaders, grown, grows_at}
use Rattle.file_room.specs.Room.{greatest_align}
use Rattle.elf_plan.specs.TableSizes.{table_size}

-- Bytes of the input that a header refers to, and no segment loads.

-- The segment `p` loads at least one of the bytes from `start` to before `end`.
abbrev pub loads_one : ℕ → ℕ → Segment → Bool
loads_one start end p = is_load p && nat_lt (max start p.offset) (min end (p.offset + min p.filesz p.memsz))

abbrev pub is_unloaded : List Segment → Segment → Bool
is_unloaded segments p =
    not (is_load p) && (nat_lt 0 p.filesz && not (list_any (loads_one p.offset (p.offset + p.filesz)) segments))

-- Such bytes move with the first section that contains all of them, isn't loaded, has bytes in the file, and is written
-- after the loaded bytes.
abbrev pub can_hold : Contents → Section → Bool
can_hold contents s = is_written contents && (not (is_loaded s) && not (s.kind == SHT_NOBITS))

abbrev pub section_holds : Contents → Section → Segment → Bool
section_holds contents s p =
    can_hold contents s && (nat_le s.offset p.offset && nat_le (p.offset + p.filesz) (s.offset + s.size))

-- No section with an index below `n` contains the bytes of `p`. `contents` gives the positions of the sections'
-- contents.
abbrev pub HasNone : (ℕ → Section → Contents) → List Section → Segment → ℕ → Type 0
HasNone contents sections p n =
    (i : ℕ) (s : Section) → i < n → slice_get sections i ≡ Some s → section_holds (contents i s) s p ≡ false

-- The index of the first section that contains them, if there is one.
abbrev pub IsFirst : (ℕ → Section → Contents) → List Section → Segment → Option ℕ → Type 0
IsFirst contents sections p None = HasNone contents sections p (length sections)
IsFirst contents sections p (Some i) =
    IsSomeAnd (slice_get sections i) (λ s. section_holds (contents i s) s p ≡ true) × HasNone contents sections p i

-- `home` is the section that the bytes of the header `p` move with, if there is one.
pub record IsHome (contents : ℕ → Section → Contents) (segments : List Segment) (sections : List Section) (p : Segment)
    (home : Option ℕ) : Type 0 where
  pub unloaded : is_unloaded segments p ≡ true → IsFirst contents sections p home
  pub loaded : is_unloaded segments p ≡ false → home ≡ None

-- The offset of the bytes of `p`, which move with section `i`. `offsets` are those of sections in the written file.
abbrev pub place_in : List Section → List ℕ → Segment → ℕ → ℕ
place_in sections offsets p i =
    unwrap_or (slice_get offsets i) 0 + (p.offset - option_map_or (λ s. s.offset) (slice_get sections i) 0)

-- Values that the headers of a written file depend on.
pub record Outline : Type 0 where
  pub area : Area
  pub shift : Shift
  -- The offset of the table of program headers.
  pub table_at : ℕ
  -- The sizes of the unwind table's index, and of the file.
  pub index_size : ℕ
  pub file_size : ℕ

-- Bytes that stay with the loaded ones move like these. If they would start in the new area and end after it, they are
-- put after it. None is after the end of the file.
abbrev pub leaves_area : Area → ℕ → ℕ → Bool
leaves_area area start size =
    let end = area_offset area area.end in
    not area.tight && (nat_lt start end && nat_lt end (start + size))

abbrev pub beside : Outline → ℕ → Segment → ℕ
beside outline align p =
    let at = moved_by outline.shift.from outline.shift.by p.offset in
    let end = area_offset outline.area outline.area.end in
    min (if leaves_area outline.area at p.filesz then at + rounded_up align (end - at) else at) outline.file_size

-- A header of type PT_PHDR refers to the table of program headers, unless its bytes would start in the new area and end
-- after it.
abbrev pub names_table : Outline → Segment → Bool
names_table outline p = (p.kind == PT_PHDR) && not (leaves_area outline.area outline.table_at p.filesz)

-- The offset of the bytes of a header that are at or after the executable segment's end.
abbrev pub place_behind : Outline → ℕ → Option ℕ → Segment → ℕ
place_behind outline align in_section p =
    if is_load p && nat_lt 0 p.filesz then moved_by outline.shift.from outline.shift.by p.offset
    else if names_table outline p then outline.table_at
    else unwrap_or in_section (beside outline align p)

abbrev pub moved_header : Outline → ℕ → Option ℕ → Segment → Segment
moved_header outline align in_section p =
    if nat_le outline.shift.from p.offset then record p { offset = place_behind outline align in_section p } else p

-- The header `p`, for `size` bytes of the area from `address` on.
abbrev pub named : Area → ℕ → ℕ → Segment → Segment
named area address size p =
    record p { offset = area_offset area address; vaddr = address; paddr = address; filesz = size; memsz = size }

-- The address of the unwind table's index, if the header `p` refers to one.
abbrev pub index_for : Area → Segment → Option ℕ
index_for area p = if p.kind == PT_GNU_EH_FRAME then area.index else None

-- The header `p` in the written file. `in_section` is the offset of its bytes in a section that they move with.
abbrev pub new_header : List Segment → Outline → Option ℕ → Segment → Segment
new_header segments outline in_section p =
    if outline.area.tight && (p.kind == PT_PHDR)
    then named outline.area outline.area.address (PHDR_SIZE * (length segments + 1)) p
    else option_map_or (λ a. named outline.area a outline.index_size p) (index_for outline.area p)
    (moved_header outline (greatest_align segments) in_section p)

-- The header in the written file, including the case that the executable segment grows.
pub record IsNewHeader (contents : ℕ → Section → Contents) (segments : List Segment) (sections : List Section)
    (offsets : List ℕ) (outline : Outline) (grows : Bool) (p q : Segment) : Type 0 where
  pub home : Option ℕ
  pub is_home : IsHome contents segments sections p home
  pub is : q ≡ (if grows
      then grown outline.area.end p
      else new_header segments outline (option_map (place_in sections offsets p) home) p)

-- All headers. `code` is the index of the executable segment's header.
pub record ArePlaced (contents : ℕ → Section → Contents) (segments : List Segment) (sections : List Section)
    (offsets : List ℕ) (outline : Outline) (code : ℕ) (qs : List Segment) : Type 0 where
  pub headers : AreNewHeaders outline.shift.from outline.shift.by outline.area code segments qs
  pub each : (i : ℕ) (p q : Segment) → slice_get segments i ≡ Some p → slice_get headers.renewed i ≡ Some q →
      IsNewHeader contents segments sections offsets outline (grows_at outline.area.tight code i) p q

-- The values that the headers of a written file depend on, from the file as it is read.
abbrev pub outline_of : {Y Z : Type 0} → Elf → List (String Y × Vec ℕ Z) → Area → Shift → Outline
outline_of new tables area shift = record {
  area = area;
  shift = shift;
  table_at = new.phoff;
  index_size = unwrap_or (table_size tables (codes ".eh_frame_hdr")) 0;
  file_size = length new.file.now;
}

abbrev pub HasNewHeaders : {Y Z : Type 0} → Elf → Elf → List (String Y × Vec ℕ Z) → Area → Shift → Type 0
HasNewHeaders elf new tables area shift = IfSome (executable_segment elf.segments.items) (λ e.
    ArePlaced (contents_of elf tables area shift) elf.segments.items elf.sections.items
    (map (λ n. n.offset) new.sections.items)
    (outline_of new tables area shift) e.0 new.segments.items)
