-- Headers and symbols as bytes. gABI, "Program Header", "Section Header" and "Symbol Table".
use Rattle.std.specs.Prelude.{ℕ, ◌<◌, ◌^◌, List, [], ◌∷◌, ◌++◌}
use Rattle.byteorder.specs.Endian.{little_bytes}
use Rattle.elf_image.specs.declared.segment.Segment.{Segment}
use Rattle.elf_image.specs.declared.section.SectionHeader.{SectionHeader}
use Rattle.elf_parts.specs.declared.spell.SymbolEntry.{SymbolEntry}

-- a number in that many bytes
pub record Number : Type 0 where
  pub width : ℕ
  pub value : ℕ

abbrev pub number : ℕ → ℕ → Number
number width value = record { width = width; value = value }

-- numbers one after the other
unfoldable pub spelled : List Number → List ℕ
spelled [] = []
spelled (n ∷ ns) = little_bytes n.width n.value ++ spelled ns

abbrev pub segment_numbers : Segment → List Number
segment_numbers p =
    number 4 p.kind ∷ number 4 p.flags ∷ number 8 p.offset ∷ number 8 p.vaddr ∷ number 8 p.paddr ∷ number 8 p.filesz
    ∷ number 8 p.memsz ∷ number 8 p.align ∷ []

abbrev pub segment_bytes : Segment → List ℕ
segment_bytes p = spelled (segment_numbers p)

abbrev pub link_numbers : SectionHeader → List Number
link_numbers s = number 4 s.link ∷ number 4 s.info ∷ number 8 s.align ∷ number 8 s.entsize ∷ []

abbrev pub section_numbers : SectionHeader → List Number
section_numbers s =
    number 4 s.name ∷ number 4 s.kind ∷ number 8 s.flags ∷ number 8 s.addr ∷ number 8 s.offset ∷ number 8 s.size
    ∷ link_numbers s

abbrev pub section_header_bytes : SectionHeader → List ℕ
section_header_bytes s = spelled (section_numbers s)

abbrev pub symbol_numbers : SymbolEntry → List Number
symbol_numbers s =
    number 4 s.name ∷ number 1 s.info ∷ number 1 s.other ∷ number 2 s.section ∷ number 8 s.value ∷ number 8 s.size ∷ []

abbrev pub symbol_entry_bytes : SymbolEntry → List ℕ
symbol_entry_bytes s = spelled (symbol_numbers s)

-- each number fits its field
pub record SegmentFits (p : Segment) : Type 0 where
  pub kind : p.kind < 256 ^ 4
  pub flags : p.flags < 256 ^ 4
  pub offset : p.offset < 256 ^ 8
  pub vaddr : p.vaddr < 256 ^ 8
  pub paddr : p.paddr < 256 ^ 8
  pub filesz : p.filesz < 256 ^ 8
  pub memsz : p.memsz < 256 ^ 8
  pub align : p.align < 256 ^ 8

pub record LinksFit (s : SectionHeader) : Type 0 where
  pub link : s.link < 256 ^ 4
  pub info : s.info < 256 ^ 4
  pub align : s.align < 256 ^ 8
  pub entsize : s.entsize < 256 ^ 8

pub record SectionFits (s : SectionHeader) : Type 0 where
  pub name : s.name < 256 ^ 4
  pub kind : s.kind < 256 ^ 4
  pub flags : s.flags < 256 ^ 8
  pub addr : s.addr < 256 ^ 8
  pub offset : s.offset < 256 ^ 8
  pub size : s.size < 256 ^ 8
  pub links : LinksFit s

pub record SymbolFits (s : SymbolEntry) : Type 0 where
  pub name : s.name < 256 ^ 4
  pub info : s.info < 256 ^ 1
  pub other : s.other < 256 ^ 1
  pub section : s.section < 256 ^ 2
  pub value : s.value < 256 ^ 8
  pub size : s.size < 256 ^ 8

-- tables of program headers and of section headers
unfoldable pub segment_table : List Segment → List ℕ
segment_table [] = []
segment_table (p ∷ ps) = segment_bytes p ++ segment_table ps

unfoldable pub section_table : List SectionHeader → List ℕ
section_table [] = []
section_table (s ∷ ss) = section_header_bytes s ++ section_table ss

unfoldable pub symbol_entries : List SymbolEntry → List ℕ
symbol_entries [] = []
symbol_entries (s ∷ ss) = symbol_entry_bytes s ++ symbol_entries ss
