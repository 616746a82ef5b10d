-- Places at which a file is truncated: structures that aren't completely in the file, and header fields without which
-- these structures can't be found. Entries of a table are only examined if the table is complete, and names only if
-- their string table exists and is complete. gABI, "ELF Header", "Program Header", "Section Header", "String Table" and
-- "Symbol Table".
use Rattle.std.specs.Prelude.{◌≡◌, ◌≢◌, ◌≤◌, ◌<◌, ◌⊎◌, ◌+◌, ◌*◌, ℕ, List, length, IfSome, Option, Some, None}
use Rattle.elf_image.specs.declared.section.SectionHeader.{SectionHeader}
use Rattle.elf_image.specs.declared.section.TheConstants.{SHT_NOBITS, SHDR_SIZE}
use Rattle.elf_image.specs.declared.segment.TheConstants.{PT_LOAD, PHDR_SIZE}
use Rattle.elf_image.specs.file.Header.{header_size, number_at, e_phoff, e_phentsize, e_phnum, e_shoff, e_shentsize}
use Rattle.elf_image.specs.file.Header.{e_shnum, e_shstrndx, segment}
use Rattle.elf_image.specs.faults.LowestPlace.{SomeBelow}
use Rattle.elf_image.specs.file.Sections.{section_header, section_place, section_names}
use Rattle.elf_image.specs.file.Symbols.{symbol_table, symbol_count, symbol_place, symbol_names}
use Rattle.elf_image.specs.file.StringTables.{IsUnended}

-- The file contains all `size` bytes from an offset on. An empty range is always complete.
abbrev pub IsWhole : List ℕ → ℕ → ℕ → Type 0
IsWhole file offset size = (size ≡ 0) ⊎ (offset + size ≤ length file)

abbrev pub HasHeader : List ℕ → Type 0
HasHeader file = header_size ≤ length file

abbrev pub HasSegments : List ℕ → Type 0
HasSegments file = IsWhole file (e_phoff file) (PHDR_SIZE * e_phnum file)

abbrev pub HasSections : List ℕ → Type 0
HasSections file = IsWhole file (e_shoff file) (SHDR_SIZE * e_shnum file)

-- The file contains all bytes of a section.
abbrev pub HasContents : List ℕ → SectionHeader → Type 0
HasContents file section = (section.kind ≡ SHT_NOBITS) ⊎ IsWhole file section.offset section.size

-- The file header.
abbrev pub IsTruncatedHeader : List ℕ → ℕ → Type 0
IsTruncatedHeader file place = (HasHeader file → ⊥) × (place ≡ 0)

-- The sizes of entries, and the index of the section with the section names.
abbrev pub IsBadHeaderField : List ℕ → ℕ → Type 0
IsBadHeaderField file place =
    (((e_phentsize file ≢ PHDR_SIZE) × (place ≡ 0x36)) ⊎ ((e_shentsize file ≢ SHDR_SIZE) × (place ≡ 0x3a)))
    ⊎ ((e_shnum file ≤ e_shstrndx file) × (place ≡ 0x3e))

-- The tables of headers.
abbrev pub IsTruncatedTable : List ℕ → ℕ → Type 0
IsTruncatedTable file place =
    ((HasSegments file → ⊥) × (place ≡ e_phoff file)) ⊎ ((HasSections file → ⊥) × (place ≡ e_shoff file))

-- The file bytes of a loaded segment.
abbrev pub IsTruncatedSegment : List ℕ → ℕ → ℕ → Type 0
IsTruncatedSegment file index place =
    let p = segment file index in
    ((p.kind ≡ PT_LOAD) × (IsWhole file p.offset p.filesz → ⊥)) × (place ≡ p.offset)

-- The contents of a section.
abbrev pub IsTruncatedSection : List ℕ → ℕ → ℕ → Type 0
IsTruncatedSection file index place =
    let s = section_header file index in
    (HasContents file s → ⊥) × (place ≡ s.offset)

-- The name of a section.
abbrev pub HasSectionNames : List ℕ → Type 0
HasSectionNames file = (e_shstrndx file < e_shnum file) × HasContents file (section_header file (e_shstrndx file))

abbrev pub IsUnnamedSection : List ℕ → ℕ → ℕ → Type 0
IsUnnamedSection file index place =
    IsUnended (section_names file) (section_header file index).name × (place ≡ section_place file index)

abbrev pub AreUnnamedSections : List ℕ → ℕ → Type 0
AreUnnamedSections file place = HasSectionNames file × SomeBelow (e_shnum file) (IsUnnamedSection file) place

-- The name of a symbol.
abbrev pub HasSymbolNames : List ℕ → SectionHeader → Type 0
HasSymbolNames file table =
    HasContents file table × (table.link < e_shnum file → HasContents file (section_header file table.link))

abbrev pub IsUnnamedSymbol : List ℕ → SectionHeader → ℕ → ℕ → Type 0
IsUnnamedSymbol file table index place =
    IsUnended (symbol_names file table) (number_at file (symbol_place table index) 4)
    × (place ≡ symbol_place table index)

abbrev pub IsUnnamedSymbolOf : List ℕ → Option SectionHeader → ℕ → Type 0
IsUnnamedSymbolOf file None place = ⊥
IsUnnamedSymbolOf file (Some table) place =
    HasSymbolNames file table × SomeBelow (symbol_count table) (IsUnnamedSymbol file table) place

-- Structures that program headers refer to, and structures that section headers refer to.
abbrev pub IsTruncatedBySegments : List ℕ → ℕ → Type 0
IsTruncatedBySegments file place = HasSegments file × SomeBelow (e_phnum file) (IsTruncatedSegment file) place

abbrev pub IsTruncatedBySections : List ℕ → ℕ → Type 0
IsTruncatedBySections file place =
    HasSections file
    × (SomeBelow (e_shnum file) (IsTruncatedSection file) place
    ⊎ (AreUnnamedSections file place ⊎ IsUnnamedSymbolOf file (symbol_table file) place))

-- Faults that are only possible if the file header is complete.
abbrev pub IsTruncatedBeyond : List ℕ → ℕ → Type 0
IsTruncatedBeyond file place =
    (IsBadHeaderField file place ⊎ IsTruncatedTable file place)
    ⊎ (IsTruncatedBySegments file place ⊎ IsTruncatedBySections file place)

-- All places.
abbrev pub IsTruncated : List ℕ → ℕ → Type 0
IsTruncated file place = IsTruncatedHeader file place ⊎ (HasHeader file × IsTruncatedBeyond file place)

-- Properties of a file that isn't truncated.
pub record IsReadable (file : List ℕ) : Type 0 where
  pub header : HasHeader file
  pub segments : HasSegments file
  pub sections : HasSections file
  pub ranges : (i : ℕ) → i < e_phnum file → (segment file i).kind ≡ PT_LOAD →
      IsWhole file (segment file i).offset (segment file i).filesz
  pub contents : (i : ℕ) → i < e_shnum file → HasContents file (section_header file i)
  pub section_names : HasSectionNames file
  pub symbol_names : IfSome (symbol_table file) (HasSymbolNames file)
