-- Positions of the contents of the input's sections in a written file. gABI, "Section Header".
use Rattle.std.specs.Prelude.{ℕ, ◌+◌, ◌==◌, ◌&&◌, ◌||◌, not, nat_le, if◌then◌else◌, Bool, false, List, [], Option, None}
use Rattle.std.specs.Prelude.{String, Vec, string_bytes, codes, position, take, drop}
use Rattle.std.specs.List.{list_any}
use Rattle.std.specs.Option.{option_map_or}
use Rattle.std.specs.Str.{bytes_eq}
use Rattle.elf_image.specs.declared.elf.Elf.{Elf}
use Rattle.elf_image.specs.declared.section.Section.{Section}
use Rattle.elf_image.specs.declared.relocation.TheConstants.{SHT_RELA}
use Rattle.elf_image.specs.declared.section.TheConstants.{SHT_NOBITS}
use Rattle.elf_image.specs.declared.segment.Segment.{Segment}
use Rattle.elf_image.specs.file.Header.{e_shstrndx}
use Rattle.elf_image.specs.file.SectionNames.{is_called, is_loaded, names_frames}
use Rattle.elf_image.specs.memory.Image.{is_load}
use Rattle.elf_plan.specs.declared.area.Area.{Area}
use Rattle.elf_plan.specs.declared.area.Shift.{Shift}
use Rattle.elf_plan.specs.declared.section_bytes.TheConstants.{SHT_NULL}
use Rattle.elf_plan.specs.declared.sections.Contents.{Contents}
use Rattle.elf_plan.specs.declared.sections.Contents.TheVariants.{Dropped, Inactive, Kept, Copied, SectionNames}
use Rattle.elf_plan.specs.declared.sections.Contents.TheVariants.{Symbols, SymbolNames, Given}
use Rattle.elf_plan.specs.Area.{loads_end}
use Rattle.elf_plan.specs.NameTables.{place_of_symbols, place_of_names}

-- The bytes of a section of a file.
abbrev pub section_bytes : List ℕ → Section → List ℕ
section_bytes file s = if s.kind == SHT_NOBITS then [] else take s.size (drop s.offset file)

-- Relocations are left out, and so are debug tables with code addresses that can't be carried over.
abbrev pub has_code_addresses : List ℕ → Bool
has_code_addresses name = bytes_eq name (codes ".debug_macro") || bytes_eq name (codes ".gdb_index")

abbrev pub is_left_out : Section → Bool
is_left_out s = (s.kind == SHT_RELA) || (not (is_loaded s) && has_code_addresses s.name.now)

-- Bytes of the file keep their offsets, or move with a segment after the executable one.
abbrev pub moves_with : ℕ → ℕ → ℕ → Segment → Bool
moves_with file_end start end p =
    is_load p && (nat_le file_end p.offset && (nat_le p.offset start && nat_le end (p.offset + p.filesz)))

abbrev pub stays : List Segment → Area → Shift → ℕ → ℕ → Bool
stays segments area shift start end =
    if area.tight then nat_le end (loads_end segments)
    else nat_le end shift.from || list_any (moves_with shift.from start end) segments

-- The table with a name replaces the section with an index. Unwind tables replace none, since they are in the new area.
abbrev pub is_at : ℕ → Option ℕ → Bool
is_at index place = option_map_or (λ i. i == index) place false

abbrev pub place_replaced : List Section → List ℕ → Option ℕ
place_replaced sections name = if names_frames name then None else position (is_called name) sections

abbrev pub table_for : {Y Z : Type 0} → List (String Y × Vec ℕ Z) → List Section → ℕ → Option ℕ
table_for tables sections index = position (λ t. is_at index (place_replaced sections (string_bytes t.0))) tables

-- A null header has no contents: the one with index 0, and others like it.
abbrev pub is_inactive : Section → Bool
is_inactive s = (s.kind == SHT_NULL) && (s.size == 0)

-- The position of the contents of a section that isn't replaced.
abbrev pub own_contents : List Segment → Area → Shift → Section → Contents
own_contents segments area shift s =
    if is_inactive s then Inactive
    else if s.kind == SHT_NOBITS then Kept
    else if is_loaded s && ((s.size == 0) || stays segments area shift s.offset (s.offset + s.size)) then Kept
    else Copied

-- The position of the contents of the section with an index, from the indices of the tables of names and symbols, and
-- from the table that replaces the section.
abbrev pub contents_by : ℕ → Option ℕ → Option ℕ → Option ℕ → Contents → ℕ → Section → Contents
contents_by names symbols symbol_names table own index s =
    if names == index then SectionNames
    else if is_at index symbols then Symbols
    else if is_at index symbol_names then SymbolNames
    else if is_left_out s then Dropped
    else option_map_or Given table own

abbrev pub contents_of : {Y Z : Type 0} → Elf → List (String Y × Vec ℕ Z) → Area → Shift → ℕ → Section → Contents
contents_of elf tables area shift index s =
    contents_by (e_shstrndx elf.file.now) (place_of_symbols elf) (place_of_names elf)
    (table_for tables elf.sections.items index)
    (own_contents elf.segments.items area shift s) index s
