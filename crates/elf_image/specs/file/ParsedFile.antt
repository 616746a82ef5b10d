-- The value of a file that was read: the fields that are in its bytes.
use Rattle.std.specs.Prelude.{◌≡◌, ◌+◌, ℕ, List, [], Option, Some, None, length}
use Rattle.std.specs.List.{slice_get}
use Rattle.elf_image.specs.declared.elf.Elf.{Elf}
use Rattle.elf_image.specs.declared.section.Section.{Section}
use Rattle.elf_image.specs.declared.symbol.Symbol.{Symbol}
use Rattle.elf_image.specs.declared.section.SectionHeader.{SectionHeader}
use Rattle.elf_image.specs.file.Header.{number_at, e_flags, e_entry, e_phoff, e_shnum, segments_of}
use Rattle.elf_image.specs.file.Sections.{section_header, section_name}
use Rattle.elf_image.specs.file.Symbols.{symbol_table, symbol_count, symbol_place, symbol_name}

-- A section from the table of sections.
pub record IsSectionAt (file : List ℕ) (index : ℕ) (s : Section) : Type 0 where
  pub name : s.name.now ≡ section_name file index
  pub kind : s.kind ≡ (section_header file index).kind
  pub flags : s.flags ≡ (section_header file index).flags
  pub addr : s.addr ≡ (section_header file index).addr
  pub offset : s.offset ≡ (section_header file index).offset
  pub size : s.size ≡ (section_header file index).size
  pub link : s.link ≡ (section_header file index).link
  pub info : s.info ≡ (section_header file index).info
  pub align : s.align ≡ (section_header file index).align
  pub entsize : s.entsize ≡ (section_header file index).entsize

-- A symbol whose entry in the symbol table is at an offset. gABI, "Symbol Table".
pub record IsSymbolAt (file : List ℕ) (table : SectionHeader) (place : ℕ) (s : Symbol) : Type 0 where
  pub name : s.name.now ≡ symbol_name file table place
  pub info : s.info ≡ number_at file (place + 4) 1
  pub other : s.other ≡ number_at file (place + 5) 1
  pub shndx : s.section ≡ number_at file (place + 6) 2
  pub value : s.value ≡ number_at file (place + 8) 8
  pub size : s.size ≡ number_at file (place + 16) 8

-- All sections, in the order of the table.
pub record AreSections (file : List ℕ) (count : ℕ) (sections : List Section) : Type 0 where
  pub count_is : length sections ≡ count
  pub each : (i : ℕ) (s : Section) → slice_get sections i ≡ Some s → IsSectionAt file i s

-- All symbols, in the order of the table.
pub record AreSymbols (file : List ℕ) (table : SectionHeader) (count : ℕ) (symbols : List Symbol) : Type 0 where
  pub count_is : length symbols ≡ count
  pub each : (i : ℕ) (s : Symbol) → slice_get symbols i ≡ Some s → IsSymbolAt file table (symbol_place table i) s

abbrev pub AreSymbolsOf : List ℕ → Option SectionHeader → List Symbol → Type 0
AreSymbolsOf file None symbols = symbols ≡ []
AreSymbolsOf file (Some table) symbols = AreSymbols file table (symbol_count table) symbols

pub record IsElfOf (file : List ℕ) (elf : Elf) : Type 0 where
  pub file_is : elf.file.now ≡ file
  pub flags : elf.flags ≡ e_flags file
  pub entry : elf.entry ≡ e_entry file
  pub phoff : elf.phoff ≡ e_phoff file
  pub segments : elf.segments.items ≡ segments_of file
  pub sections : AreSections file (e_shnum file) elf.sections.items
  pub symbols : AreSymbolsOf file (symbol_table file) elf.symbols.items
