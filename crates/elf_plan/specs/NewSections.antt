-- The sections of a written file: those of its input and new ones. gABI, "Section Header".
use Rattle.std.specs.Prelude.{◌≡◌, ℕ, ◌+◌, ◌-◌, ◌%◌, ◌==◌, ◌&&◌, is_none, is_some, min, max, if◌then◌else◌, Bool, List}
use Rattle.std.specs.Prelude.{[], Some, IfSome, IsTrue, String, Vec, string_bytes, codes, find, length, slice_get}
use Rattle.std.specs.Option.{option_map_or}
use Rattle.std.specs.Str.{bytes_eq}
use Rattle.rv_code.specs.isa.Op.{flag}
use Rattle.elf_image.specs.declared.elf.Elf.{Elf}
use Rattle.elf_image.specs.declared.section.Section.{Section}
use Rattle.elf_image.specs.declared.relocation.TheConstants.{SHT_RELA}
use Rattle.elf_image.specs.declared.section.TheConstants.{SHT_NOBITS, SHT_PROGBITS, SHF_ALLOC}
use Rattle.elf_image.specs.declared.section.TheConstants.{SHF_EXECINSTR}
use Rattle.elf_image.specs.file.Header.{e_shstrndx}
use Rattle.elf_image.specs.file.SectionNames.{is_loaded, names_debug, section_called}
use Rattle.elf_image.specs.file.Sections.{holds_code}
use Rattle.elf_plan.specs.declared.area.Area.{Area}
use Rattle.elf_plan.specs.declared.area.Shift.{Shift}
use Rattle.elf_plan.specs.declared.section_bytes.TheConstants.{SHT_NULL}
use Rattle.elf_plan.specs.declared.sections.Contents.{Contents}
use Rattle.elf_plan.specs.declared.sections.Contents.TheVariants.{Dropped, Inactive, Kept, Copied, SectionNames}
use Rattle.elf_plan.specs.declared.sections.Contents.TheVariants.{Symbols, SymbolNames, Given}
use Rattle.elf_plan.specs.Area.{moved_by, area_offset}
use Rattle.elf_plan.specs.Contents.{contents_of, section_bytes}
use Rattle.elf_plan.specs.OldNames.{new_name}

-- Sections of the input.

-- The fields that don't change in the header of a section that isn't dropped.
pub record KeepsFields (s n : Section) : Type 0 where
  pub addr : n.addr ≡ s.addr
  pub link : n.link ≡ s.link
  pub align : n.align ≡ s.align
  pub entsize : n.entsize ≡ s.entsize

-- The whole header is unchanged, except its type and the fields for the contents.
pub record KeepsHeader (s n : Section) : Type 0 where
  pub fields : KeepsFields s n
  pub flags : n.flags ≡ s.flags
  pub info : n.info ≡ s.info

-- The contents are at the section's alignment, where 0 means none.
abbrev pub IsAligned : Section → Type 0
IsAligned n = n.offset % max 1 n.align ≡ 0

-- The contents of the section are `bytes`.
pub record HoldsContents (w bytes : List ℕ) (n : Section) : Type 0 where
  pub contents : section_bytes w n ≡ bytes
  pub size : n.size ≡ length bytes
  pub aligned : IsAligned n

-- A dropped section becomes a null header that only keeps its name. If it was loaded and has the name of a debug table,
-- it keeps the flag of a loaded section, since otherwise the name would refer to it.
abbrev pub flags_left : Section → ℕ
flags_left s = if is_loaded s && names_debug s.name.now then SHF_ALLOC else 0

pub record IsDropped (s n : Section) : Type 0 where
  pub kind : n.kind ≡ SHT_NULL
  pub flags : n.flags ≡ flags_left s
  pub addr : n.addr ≡ 0
  pub offset : n.offset ≡ 0
  pub size : n.size ≡ 0
  pub link : n.link ≡ 0
  pub info : n.info ≡ 0
  pub align : n.align ≡ 0
  pub entsize : n.entsize ≡ 0

-- A null header of the input is unchanged, except that its offset is at most the end of the file.
pub record IsInactive (w : List ℕ) (s n : Section) : Type 0 where
  pub kind : n.kind ≡ s.kind
  pub same : KeepsHeader s n
  pub offset : n.offset ≡ min s.offset (length w)
  pub size : n.size ≡ s.size

-- Contents that are kept move with the loaded bytes, but at most to the end of the file.
pub record IsKept (shift : Shift) (w : List ℕ) (s n : Section) : Type 0 where
  pub kind : n.kind ≡ s.kind
  pub same : KeepsHeader s n
  pub offset : n.offset ≡ min (moved_by shift.from shift.by s.offset) (length w)
  pub size : n.size ≡ s.size

-- Other contents are replaced or copied.
pub record HasNewContents (w bytes : List ℕ) (kind : ℕ) (s n : Section) : Type 0 where
  pub kind_is : n.kind ≡ kind
  pub same : KeepsHeader s n
  pub contents : HoldsContents w bytes n

-- Tables of symbols and names have no instructions, and no relocations.
abbrev pub without_code : ℕ → ℕ
without_code flags = if holds_code flags then flags - SHF_EXECINSTR else flags

abbrev pub kind_of_own : ℕ → ℕ
kind_of_own kind = if kind == SHT_RELA then SHT_NULL else kind

pub record IsOwn (s n : Section) : Type 0 where
  pub fields : KeepsFields s n
  pub kind : n.kind ≡ kind_of_own s.kind
  pub flags : n.flags ≡ without_code s.flags
  pub aligned : IsAligned n

pub record IsNameTable (s n : Section) : Type 0 where
  pub own : IsOwn s n
  pub info : n.info ≡ s.info

abbrev pub kind_of_given : ℕ → ℕ
kind_of_given kind = if kind == SHT_NOBITS then SHT_PROGBITS else kind

-- The bytes of the table with index `t`.
abbrev pub given_bytes : {Y Z : Type 0} → List (String Y × Vec ℕ Z) → ℕ → List ℕ
given_bytes tables t = option_map_or (λ table. table.1.items) (slice_get tables t) []

-- The section `n` is the new form of `s`, depending on the position of its contents.
abbrev pub Follows : {Y Z : Type 0} → List (String Y × Vec ℕ Z) → Shift → List ℕ → List ℕ → Contents → Section →
    Section → Type 0
Follows tables shift file w Dropped s n = IsDropped s n
Follows tables shift file w Inactive s n = IsInactive w s n
Follows tables shift file w Kept s n = IsKept shift w s n
Follows tables shift file w Copied s n = HasNewContents w (section_bytes file s) s.kind s n
Follows tables shift file w SectionNames s n = IsNameTable s n
Follows tables shift file w Symbols s n = IsOwn s n
Follows tables shift file w SymbolNames s n = IsNameTable s n
Follows tables shift file w (Given t) s n = HasNewContents w (given_bytes tables t) (kind_of_given s.kind) s n

-- New sections.

pub record IsHeader (name : List ℕ) (flags addr align : ℕ) (n : Section) : Type 0 where
  pub name_is : n.name.now ≡ name
  pub kind : n.kind ≡ SHT_PROGBITS
  pub flags_are : n.flags ≡ flags
  pub addr_is : n.addr ≡ addr
  pub link : n.link ≡ 0
  pub info : n.info ≡ 0
  pub align_is : n.align ≡ align
  pub entsize : n.entsize ≡ 0

pub record IsAdded (w name bytes : List ℕ) (flags addr align : ℕ) (n : Section) : Type 0 where
  pub header : IsHeader name flags addr align n
  pub contents : section_bytes w n ≡ bytes
  pub size : n.size ≡ length bytes

-- A new section in the new area.
pub record IsInArea (w : List ℕ) (area : Area) (name bytes : List ℕ) (flags addr align : ℕ) (n : Section) : Type 0 where
  pub added : IsAdded w name bytes flags addr align n
  pub offset : n.offset ≡ area_offset area addr

-- The bytes of the first table called `name`, or no bytes if there is no such table.
abbrev pub bytes_called : {Y Z : Type 0} → List (String Y × Vec ℕ Z) → List ℕ → List ℕ
bytes_called tables name = option_map_or (λ t. t.1.items) (find (λ t. bytes_eq (string_bytes t.0) name) tables) []

-- A table of ranges is added if one is given and the input has none.
abbrev pub adds_ranges : {Y Z : Type 0} → List Section → List (String Y × Vec ℕ Z) → Bool
adds_ranges sections tables =
    is_some (find (λ t. bytes_eq (string_bytes t.0) (codes ".debug_rnglists")) tables)
    && is_none (section_called sections (codes ".debug_rnglists"))

-- P holds for the section at `index`, if there is one.
abbrev pub At : List Section → ℕ → (Section → Type 0) → Type 0
At sections index P = IfSome (slice_get sections index) P

-- All sections: those of the input, then the new code, the unwind table and its index, and the table of ranges.
pub record AreNewSections {Y Z : Type 0} (elf new : Elf) (tables : List (String Y × Vec ℕ Z)) (area : Area)
    (shift : Shift) (code : List ℕ) : Type 0 where
  pub names_at : e_shstrndx new.file.now ≡ e_shstrndx elf.file.now
  pub count : length new.sections.items ≡ (length elf.sections.items + 1)
      + (flag (is_some area.frames) + (flag (is_some area.index) + flag (adds_ranges elf.sections.items tables)))
  pub called : (i : ℕ) (s n : Section) → slice_get elf.sections.items i ≡ Some s →
      slice_get new.sections.items i ≡ Some n →
      n.name.now ≡ new_name s
  pub follows : (i : ℕ) (s n : Section) → slice_get elf.sections.items i ≡ Some s →
      slice_get new.sections.items i ≡ Some n →
      Follows tables shift elf.file.now new.file.now (contents_of elf tables area shift i s) s n
  pub text : At new.sections.items (length elf.sections.items)
      (IsInArea new.file.now area (codes ".text") code (SHF_ALLOC + SHF_EXECINSTR) area.start 16)
  pub frames : IfSome area.frames (λ a. At new.sections.items (length elf.sections.items + 1)
      (IsInArea new.file.now area (codes ".eh_frame") (bytes_called tables (codes ".eh_frame")) SHF_ALLOC a 8))
  pub index : IfSome area.index (λ a. At new.sections.items
      ((length elf.sections.items + 1) + flag (is_some area.frames))
      (IsInArea new.file.now area (codes ".eh_frame_hdr") (bytes_called tables (codes ".eh_frame_hdr")) SHF_ALLOC a 4))
  pub ranges : IsTrue (adds_ranges elf.sections.items tables) → At new.sections.items (length new.sections.items - 1)
      (IsAdded new.file.now (codes ".debug_rnglists") (bytes_called tables (codes ".debug_rnglists")) 0 0 1)
