-- The two tables of lists as tables of answers by address, and properties of written ones.
use Rattle.std.specs.Prelude.{◌≡◌, ◌||◌, ◌==◌, ◌^◌, ◌<◌, ◌≤◌, ℕ, Bool, IsTrue, List, [], All, Contains, length, Option}
use Rattle.std.specs.Prelude.{Some}
use Rattle.addr_map.specs.declared.span.Span.{Span}
use Rattle.answer_runs.specs.Choices.{unless_empty}
use Rattle.answer_runs.specs.Weights.{weight_limit}
use Rattle.table_core.specs.declared.written.ListAt.{ListAt}
use Rattle.table_core.specs.declared.written.Written.{Written}
use Rattle.table_core.specs.Sections.{section_limit}
use Rattle.dw_unit.specs.declared.attribute.TheConstants.{DW_AT_location, DW_AT_frame_base, DW_AT_ranges, DW_AT_high_pc}
use Rattle.dw_unit.specs.declared.attribute.TheConstants.{DW_AT_rnglists_base, DW_AT_loclists_base}
use Rattle.dw_unit.specs.EntryMoves.{new_list_offset}
use Rattle.dw_unit.specs.CompUnits.{Sections, attr, entries}
use Rattle.dw_lists.specs.Faults.{ListSections}
use Rattle.dw_lists.specs.Ranges.{covering}
use Rattle.dw_lists.specs.Locations.{places_said, PlaceSaid}

-- The answer of ranges at an address, the offsets of the entries that cover it; none if it would be empty.
abbrev pub range_says : ListSections → ℕ → Option (List ℕ)
range_says s a = unless_empty (covering s a)

-- The answer of locations at an address; none if it would be empty.
abbrev pub place_says : ListSections → ℕ → Option (List PlaceSaid)
place_says s a = unless_empty (places_said s a)

-- The attributes for which the table of range lists has lists or bases.
abbrev pub is_of_ranges : ℕ → Bool
is_of_ranges name = name == DW_AT_ranges || name == DW_AT_rnglists_base

-- The attributes for which the table of location lists has lists or bases.
abbrev pub is_of_locations : ℕ → Bool
is_of_locations name = name == DW_AT_location || name == DW_AT_frame_base || name == DW_AT_loclists_base

-- Offsets for attributes of this kind, one for each, below 2^32.
pub record AreLists (is_attr : ℕ → Bool) (lists : List ListAt) : Type 0 where
  pub attrs : All (λ l. IsTrue (is_attr l.attr)) lists
  pub once : (l : ListAt) → Contains lists l → new_list_offset lists l.entry l.attr ≡ Some l.offset
  pub low : All (λ l. l.offset < 2 ^ 32) lists

-- No entry has a high address, which would need a range list.
abbrev pub AreWithoutHighAddresses : Sections → Type 0
AreWithoutHighAddresses s = All (λ e. attr DW_AT_high_pc e ≡ Option.None) (entries s)

-- A written table of ranges. It is empty if the input has none and no high address needs a list.
pub record RangesMade (s : ListSections) (w : Written) : Type 0 where
  pub lists : AreLists is_of_ranges w.lists.items
  pub nothing : s.ranges ≡ [] → AreWithoutHighAddresses s.units → w.bytes.items ≡ []

-- A written table of locations. It is empty if the input has none.
pub record PlacesMade (s : ListSections) (w : Written) : Type 0 where
  pub lists : AreLists is_of_locations w.lists.items
  pub nothing : s.locations ≡ [] → w.bytes.items ≡ []

-- No section is longer than a file may be, and the table isn't too heavy.
pub record ListFits (IsWeight : ListSections → List Span → ℕ → Type 0) (s : ListSections)
    (spans : List Span) : Type 0 where
  pub info : length s.units.info ≤ section_limit
  pub abbrevs : length s.units.abbrevs ≤ section_limit
  pub addr : length s.units.addr ≤ section_limit
  pub ranges : length s.ranges ≤ section_limit
  pub locations : length s.locations ≤ section_limit
  pub light : (n : ℕ) → IsWeight s spans n → n ≤ weight_limit
