-- The tables of ranges and of locations of a file, as tables of answers by address.
use Rattle.std.specs.Prelude.{◌≡◌, ℕ, List, Option, Some, codes}
use Rattle.elf_image.specs.declared.elf.Elf.{Elf}
use Rattle.rb_bytes.specs.FirstFault.{IsFree}
use Rattle.addr_map.specs.declared.span.Span.{Span}
use Rattle.addr_map.specs.Spans.{owner}
use Rattle.table_core.specs.declared.written.Written.{Written}
use Rattle.table_core.specs.Sections.{bytes_of}
use Rattle.dw_unit.specs.Faults.{HasDwarfFault, unit_fault_places}
use Rattle.dw_unit.specs.Tables.{sections_of, answers_if_free, AreChangedBy}
use Rattle.dw_lists.specs.Faults.{ListSections, range_places, location_places}
use Rattle.dw_lists.specs.Ranges.{covering}
use Rattle.dw_lists.specs.ListTables.{range_says, place_says}
use Rattle.dw_lists.specs.Locations.{PlaceSaid}

-- The sections of a file that ranges and locations are read from.
abbrev pub list_sections : Elf → ListSections
list_sections elf = record {
  units = sections_of elf;
  ranges = bytes_of elf (codes ".debug_rnglists");
  locations = bytes_of elf (codes ".debug_loclists");
}

-- The answers, if the file has no fault of these tables.
abbrev pub range_answers : Elf → Option (ℕ → Option (List ℕ))
range_answers elf = answers_if_free (range_places (list_sections elf)) (range_says (list_sections elf))

abbrev pub place_answers : Elf → Option (ℕ → Option (List PlaceSaid))
place_answers elf = answers_if_free (location_places (list_sections elf)) (place_says (list_sections elf))

-- The file `f` has the written table: its section has the bytes, its units are changed with the table's lists, and they
-- can be read.

pub record StandsRanges (i : Elf) (spans : List Span) (written : Written) (f : Elf) : Type 0 where
  pub table : bytes_of f (codes ".debug_rnglists") ≡ written.bytes.items
  pub changed : AreChangedBy spans written.lists.items i f
  pub units : IsFree (HasDwarfFault (unit_fault_places (sections_of f)))

-- A table of locations also needs the ranges: these can be read, and each byte of new code is covered by the entries
-- that cover its owner.
pub record StandsPlaces (i : Elf) (spans : List Span) (written : Written) (f : Elf) : Type 0 where
  pub table : bytes_of f (codes ".debug_loclists") ≡ written.bytes.items
  pub changed : AreChangedBy spans written.lists.items i f
  pub units : IsFree (HasDwarfFault (unit_fault_places (sections_of f)))
  pub ranges : IsFree (HasDwarfFault (range_places (list_sections f)))
  pub covered : (p o : ℕ) → owner spans p ≡ Some o → covering (list_sections f) p ≡ covering (list_sections i) o
