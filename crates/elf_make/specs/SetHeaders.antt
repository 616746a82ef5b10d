-- The headers of all sections before their contents have places. gABI, "Section Header".
use Rattle.std.specs.Prelude.{◌≡◌, ℕ, ◌+◌, ◌-◌, ◌≤◌, true, false, Bool, List, [], ◌∷◌, ◌++◌, Option, Some, None}
use Rattle.std.specs.Prelude.{String, Vec}
use Rattle.std.specs.Prelude.{codes, length, slice_get, slice_index_or, unwrap_or}
use Rattle.elf_image.specs.declared.elf.Elf.{Elf}
use Rattle.elf_image.specs.declared.section.Section.{Section}
use Rattle.elf_image.specs.declared.section.SectionHeader.{SectionHeader}
use Rattle.elf_image.specs.declared.section.TheConstants.{SHF_ALLOC, SHF_EXECINSTR, SHT_PROGBITS}
use Rattle.elf_image.specs.file.Header.{e_shstrndx}
use Rattle.elf_image.specs.file.Sections.{section_header}
use Rattle.elf_parts.specs.Patches.{Stands}
use Rattle.elf_plan.specs.declared.area.Area.{Area}
use Rattle.elf_plan.specs.declared.area.Shift.{Shift}
use Rattle.elf_plan.specs.declared.sections.Contents.{Contents}
use Rattle.elf_plan.specs.Area.{area_offset}
use Rattle.elf_plan.specs.Contents.{is_at, section_bytes}
use Rattle.elf_plan.specs.NameTables.{place_of_symbols}
use Rattle.elf_plan.specs.NewNames.{ended}
use Rattle.elf_plan.specs.NewSections.{adds_ranges}
use Rattle.elf_plan.specs.OldNames.{is_renamed, old_name}
use Rattle.elf_plan.specs.TableSizes.{table_size}
use Rattle.elf_make.specs.PlacedContents.{set_header}

-- all bytes of a table are at the same offsets in another
abbrev pub Keeps : List ℕ → List ℕ → Type 0
Keeps old new = (o : ℕ) (xs : List ℕ) → Stands old o xs → Stands new o xs

-- Sections of the input. Each keeps the offset of its name in the table of names, or gets that of its new name.
pub record IsNamed (table : List ℕ) (s : Section) (old new : ℕ) : Type 0 where
  pub renamed : is_renamed s ≡ true → Stands table new (ended (old_name s.name.now))
  pub kept : is_renamed s ≡ false → new ≡ old

pub record IsRenamed (table : List ℕ) (s : Section) (h n : SectionHeader) : Type 0 where
  pub name : IsNamed table s h.name n.name
  pub same : n ≡ record h { name = n.name }

-- The header `n` is made of `h`. `symbols` says whether it is that of the symbol table.
pub record IsSet (table : List ℕ) (shift : Shift) (symbols : Bool) (c : Contents) (s : Section)
    (h n : SectionHeader) : Type 0 where
  pub at : ℕ
  pub info : ℕ
  pub name : IsNamed table s h.name at
  pub same_info : symbols ≡ false → info ≡ h.info
  pub is : n ≡ set_header shift c s (record h { name = at; info = info })

-- New sections.

abbrev pub new_header : ℕ → ℕ → ℕ → ℕ → ℕ → ℕ → SectionHeader
new_header name flags addr offset size align = record {
  name = name;
  kind = SHT_PROGBITS;
  flags = flags;
  addr = addr;
  offset = offset;
  size = size;
  link = 0;
  info = 0;
  align = align;
  entsize = 0;
}

-- a new header, whose name `text` is in the table
pub record IsNew (table text : List ℕ) (flags addr offset size align : ℕ) (h : SectionHeader) : Type 0 where
  pub named : Stands table h.name (ended text)
  pub is : h ≡ new_header h.name flags addr offset size align

-- one that is added to others
pub record Adds (table text : List ℕ) (flags addr offset size align : ℕ) (old new : List SectionHeader) : Type 0 where
  pub header : SectionHeader
  pub is : IsNew table text flags addr offset size align header
  pub added : new ≡ old ++ header ∷ []

-- that of a table in the area, if the area has an address for it
abbrev pub AddsAt : List ℕ → List ℕ → Area → Option ℕ → ℕ → ℕ → List SectionHeader → List SectionHeader → Type 0
AddsAt table text area None size align old new = new ≡ old
AddsAt table text area (Some a) size align old new = Adds table text SHF_ALLOC a (area_offset area a) size align old new

abbrev pub AddsRanges : List ℕ → Bool → List SectionHeader → List SectionHeader → Type 0
AddsRanges table false old new = new ≡ old
AddsRanges table true old new = Adds table (codes ".debug_rnglists") 0 0 0 0 1 old new

-- the new code, the unwind table and its index, and the table of ranges
pub record AreAdded {Y Z : Type 0} (table : List ℕ) (tables : List (String Y × Vec ℕ Z)) (area : Area) (ranges : Bool)
    (old new : List SectionHeader) : Type 0 where
  pub with_text : List SectionHeader
  pub with_frames : List SectionHeader
  pub with_index : List SectionHeader
  pub text : Adds table (codes ".text") (SHF_ALLOC + SHF_EXECINSTR) area.start (area_offset area area.start)
      (area.code_end - area.start) 16 old with_text
  pub frames : AddsAt table (codes ".eh_frame") area area.frames (unwrap_or (table_size tables (codes ".eh_frame")) 0) 8
      with_text with_frames
  pub index : AddsAt table (codes ".eh_frame_hdr") area area.index
      (unwrap_or (table_size tables (codes ".eh_frame_hdr")) 0) 4 with_frames with_index
  pub added_ranges : AddsRanges table ranges with_index new

-- The headers are those of the input's sections, changed, and new ones after them. `table` has the names.
pub record AreSet {Y Z : Type 0} (elf : Elf) (tables : List (String Y × Vec ℕ Z)) (area : Area) (shift : Shift)
    (contents : List Contents) (table : List ℕ) (headers : List SectionHeader) : Type 0 where
  -- the table has all bytes of the old one
  pub grown : (names : Section) → slice_get elf.sections.items (e_shstrndx elf.file.now) ≡ Some names →
      Keeps (section_bytes elf.file.now names) table
  pub olds : (k : ℕ) (s : Section) (c : Contents) (d : SectionHeader) → slice_get elf.sections.items k ≡ Some s →
      slice_get contents k ≡ Some c → IsSet table shift (is_at k (place_of_symbols elf)) c s
      (section_header elf.file.now k) (slice_index_or headers k d)
  -- the headers after those of the input are those that were added, whatever others became
  pub before : List SectionHeader
  pub after : List SectionHeader
  pub begins : length before ≡ length elf.sections.items
  pub count : length headers ≡ length after
  pub same : (k : ℕ) (d : SectionHeader) → length elf.sections.items ≤ k →
      slice_index_or headers k d ≡ slice_index_or after k d
  pub added : AreAdded table tables area (adds_ranges elf.sections.items tables) before after
