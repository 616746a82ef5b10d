-- The sections of a file that was made, and its program headers in all fields.
use Rattle.std.specs.Prelude.{◌≡◌, ℕ, ◌+◌, List, Bool, false, IfSome, String, Vec, codes, length, map}
use Rattle.std.specs.Prelude.{unwrap_or}
use Rattle.elf_image.specs.declared.section.SectionHeader.{SectionHeader}
use Rattle.elf_image.specs.file.Header.{e_shstrndx}
use Rattle.elf_parts.specs.Parts.{size_of}
use Rattle.elf_plan.specs.declared.sections.Contents.{Contents}
use Rattle.elf_plan.specs.Contents.{contents_of, is_at}
use Rattle.elf_plan.specs.HeaderPlaces.{ArePlaced, Outline}
use Rattle.elf_plan.specs.NameTables.{place_of_names, place_of_symbols}
use Rattle.elf_plan.specs.Plans.{Arranges}
use Rattle.elf_plan.specs.TableSizes.{table_size}
use Rattle.elf_make.specs.FileParts.{IsMade, start_after}
use Rattle.elf_make.specs.SectionTable.{ArePut}
use Rattle.elf_make.specs.Source.{Source}

-- what the program headers name
abbrev pub outline_made : {Y Z : Type 0} (s : Source) (tables : List (String Y × Vec ℕ Z)) (tight : Bool) (w : List ℕ) →
    IsMade s tight w → Outline
outline_made s tables tight w made = record {
  area = made.layout.area;
  shift = made.layout.shift;
  table_at = made.program_headers_at;
  index_size = unwrap_or (table_size tables (codes ".eh_frame_hdr")) 0;
  file_size = size_of made.layout.parts + length made.tail;
}

pub record HasSections {Y Z : Type 0} (s : Source) (tables : List (String Y × Vec ℕ Z)) (tight : Bool) (w : List ℕ)
    (made : IsMade s tight w) : Type 0 where
  -- where the contents of the input's sections are, and which of these are written
  pub contents : List Contents
  pub order : List (ℕ × ℕ)
  pub arranged : Arranges s.elf tables made.layout.area made.layout.shift contents order
  -- the symbol table has no names, neither those of sections nor those of symbols
  pub apart : is_at (e_shstrndx s.elf.file.now) (place_of_symbols s.elf) ≡ false
  pub names_apart : IfSome (place_of_names s.elf) (λ i. is_at i (place_of_symbols s.elf) ≡ false)
  -- all section headers
  pub headers : List SectionHeader
  pub count : made.fields.sections ≡ length headers
  pub put : ArePut s.elf tables made.layout.area made.layout.shift contents order (size_of made.layout.parts)
      (start_after s.elf made.layout.area made.layout.shift (size_of made.layout.parts)) made.tail
      made.fields.section_headers_at headers
  -- the program headers
  pub segments : ArePlaced (contents_of s.elf tables made.layout.area made.layout.shift) s.elf.segments.items
      s.elf.sections.items (map (λ h. h.offset) headers) (outline_made s tables tight w made) made.layout.code
      made.segments
