-- The entries that cover an address. DWARF 5, section 2.17.
use Rattle.std.specs.Prelude.{◌+◌, ◌==◌, ◌&&◌, ℕ, Bool, List, [], ◌∷◌, if◌then◌else◌, map, filter, filter_map}
use Rattle.std.specs.Prelude.{Option, option_map, option_and_then, flat_map}
use Rattle.std.specs.List.{list_any}
use Rattle.std.specs.Option.{option_or}
use Rattle.table_core.specs.declared.form.TheConstants.{DW_FORM_addr}
use Rattle.dw_unit.specs.declared.attribute.TheConstants.{DW_AT_entry_pc, DW_AT_high_pc, DW_AT_ranges}
use Rattle.dw_unit.specs.declared.entry.Attr.{Attr}
use Rattle.dw_unit.specs.CompUnits.{Entry, Unit, units, address_of, attr, low_pc, enclosing}
use Rattle.answer_runs.specs.declared.range.Range.{Range}
use Rattle.answer_runs.specs.Choices.{first_of}
use Rattle.dw_lists.specs.Lists.{ranges_kind, list_of}
use Rattle.cover_lists.specs.EntryAddresses.{entered}
use Rattle.cover_lists.specs.Located.{Located, hold}
use Rattle.dw_lists.specs.Faults.{ListSections}

-- A high address is an address, or the distance from the low address.
abbrev pub up_to : ℕ → Attr → Range
up_to low a = record { low = low; high = if a.form == DW_FORM_addr then a.value else low + a.value }

-- The ranges of an entry, by its high address or its list. A low address without a high one gives none.
abbrev pub ranges_of : ListSections → Unit → Entry → Option (List Range)
ranges_of s u e = option_or
    (option_and_then (λ high. option_map (λ low. up_to low high ∷ []) (low_pc s.units.addr u e)) (attr DW_AT_high_pc e))
    (option_and_then
    (λ a. option_map (filter_map (λ (l : Located). l.range)) (list_of ranges_kind s.ranges s.units.addr u a))
    (attr DW_AT_ranges e))

-- The address that an entry gives for its first instruction, and the one at which it is entered: the former, if its
-- ranges contain it, or else the start of the first range. DWARF 5, section 2.18.

abbrev pub named_entry : List ℕ → Unit → Entry → Option ℕ
named_entry addr u e = option_or (option_and_then (address_of addr u) (attr DW_AT_entry_pc e)) (low_pc addr u e)

abbrev pub entry_address : ListSections → Unit → Entry → Option ℕ
entry_address s u e = option_and_then (entered (named_entry s.units.addr u e)) (ranges_of s u e)

-- An entry with its own ranges, and with the nearest ranges: its own, or those of the innermost ancestor that has some.
pub record Ranged : Type 0 where
  pub entry : Entry
  pub own : Option (List Range)
  pub nearest : Option (List Range)

-- `before` has the entries before, the last first.
abbrev pub ranged_from : (Entry → Option (List Range)) → (before : List Entry) → List Entry → List Ranged
ranged_from own before [] = []
ranged_from own before (e ∷ es) =
    record { entry = e; own = own e; nearest = first_of (filter_map own (e ∷ enclosing e.depth before)) }
    ∷ ranged_from own (e ∷ before) es

-- The entries of a unit, with their ranges.
abbrev pub ranged_in : ListSections → Unit → List Ranged
ranged_in s u = ranged_from (ranges_of s u) [] u.entries

-- The entries of a file, with their ranges.
abbrev pub ranged : ListSections → List Ranged
ranged s = flat_map (ranged_in s) (units s.units)

-- The ranges of the entry at offset `d` contain the address `a`.
abbrev pub covers : ListSections → ℕ → ℕ → Bool
covers s d a = list_any (λ (r : Ranged). hold r.own a && r.entry.place == d) (ranged s)

-- The offsets of all entries whose ranges contain the address, ascending.
abbrev pub covering : ListSections → ℕ → List ℕ
covering s a = map (λ (r : Ranged). r.entry.place) (filter (λ (r : Ranged). hold r.own a) (ranged s))
