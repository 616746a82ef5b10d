-- The debug data that a file keeps when its code moves: units and entries, line units, and the sections without code
-- addresses.
use Rattle.std.specs.Prelude.{◌≡◌, ℕ, Bool, false, IsTrue, List, [], ◌∷◌, codes, length, unwrap_or}
use Rattle.std.specs.List.{list_any}
use Rattle.std.specs.Str.{bytes_eq}
use Rattle.elf_image.specs.declared.elf.Elf.{Elf}
use Rattle.elf_image.specs.file.SectionNames.{names_debug}
use Rattle.addr_map.specs.declared.span.Span.{Span}
use Rattle.table_core.specs.declared.written.TheConstants.{DW_AT_stmt_list}
use Rattle.table_core.specs.declared.written.ListAt.{ListAt}
use Rattle.table_core.specs.Sections.{bytes_of}
use Rattle.dw_unit.specs.Changes.{no_line_unit}
use Rattle.dw_unit.specs.EntryMoves.{new_list_offset}
use Rattle.dw_unit.specs.Tables.{AreChangedWith, sections_of}
use Rattle.line_rewrite.specs.KeptLineUnits.{AreKeptUnits, unit_number, unit_places}
use Rattle.line_rewrite.specs.Tables.{line_sections}
use Rattle.range_loc_rewrite.specs.EnteredFirst.{AreEnteredFirst}
use Rattle.range_loc_rewrite.specs.NewOffsets.{RangesGetOffsets, PlacesGetOffsets}
use Rattle.range_loc_rewrite.specs.Tables.{list_sections}

-- The new offset of a line unit; without one, an offset that means no unit.
abbrev pub new_line_offset : List ListAt → ℕ → ℕ
new_line_offset lists n = unwrap_or (new_list_offset lists n DW_AT_stmt_list) no_line_unit

-- Units and entries are kept, changed in place, and so are line units and the references to these.
pub record AreUnitsKept (spans : List Span) (lists : List ListAt) (i f : Elf) : Type 0 where
  -- Entries keep their offsets, and are changed in place by these lists.
  pub changed : AreChangedWith spans lists i f
  pub line_units : AreKeptUnits i f
  -- The offset of a line unit becomes the offset of the unit with the same index. An offset of no unit becomes another
  -- such offset: its index is the number of units, which is the same in both files.
  pub line_offsets : (n : ℕ) →
      unit_number (line_sections f) (new_line_offset lists n) ≡ unit_number (line_sections i) n
  pub other_offsets : (n : ℕ) → unit_number (line_sections i) n ≡ length (unit_places (line_sections i)) →
      new_line_offset lists n ≡ no_line_unit
  -- Attributes of entries find their lists in the new tables.
  pub range_offsets : RangesGetOffsets (sections_of i) (bytes_of i (codes ".debug_rnglists")) lists
      (bytes_of f (codes ".debug_rnglists"))
  -- The range at which an entry is entered comes first in its list.
  pub entries_first : AreEnteredFirst spans (list_sections i) lists (bytes_of f (codes ".debug_rnglists"))
  pub place_offsets : PlacesGetOffsets (sections_of i) (bytes_of i (codes ".debug_loclists")) lists
      (bytes_of f (codes ".debug_loclists"))

-- The debug sections that are written, and those that are left out.
abbrev pub written_names : List (List ℕ)
written_names =
    codes ".debug_info" ∷ codes ".debug_abbrev" ∷ codes ".debug_addr" ∷ codes ".debug_line" ∷ codes ".debug_loclists"
    ∷ codes ".debug_aranges" ∷ codes ".debug_frame" ∷ codes ".debug_rnglists" ∷ []

abbrev pub dropped_names : List (List ℕ)
dropped_names = codes ".debug_macro" ∷ []

abbrev pub is_one_of : List (List ℕ) → List ℕ → Bool
is_one_of names name = list_any (bytes_eq name) names

-- All debug data is kept: units, and the bytes of the sections that are neither written nor left out.
pub record IsDebugKept (spans : List Span) (lists : List ListAt) (i f : Elf) : Type 0 where
  pub units : AreUnitsKept spans lists i f
  pub others : (name : List ℕ) → IsTrue (names_debug name) → is_one_of written_names name ≡ false →
      is_one_of dropped_names name ≡ false →
      bytes_of f name ≡ bytes_of i name
