-- The list of an entry begins with the range at which the entry is entered. Readers that don't know DW_AT_entry_pc take
-- the start of that range for its first instruction. DWARF 5, sections 2.17.3 and 2.18.
use Rattle.std.specs.Prelude.{◌≡◌, ◌+◌, ◌*◌, ◌==◌, ℕ, List, ◌∷◌, Contains, Option, Some, None, Ok, option_and_then}
use Rattle.std.specs.Prelude.{if◌then◌else◌}
use Rattle.addr_map.specs.declared.span.Span.{Span}
use Rattle.addr_map.specs.Spans.{moved, owner}
use Rattle.table_core.specs.declared.form.TheConstants.{DW_FORM_rnglistx}
use Rattle.table_core.specs.declared.written.ListAt.{ListAt}
use Rattle.dw_unit.specs.declared.attribute.TheConstants.{DW_AT_ranges, DW_AT_rnglists_base}
use Rattle.dw_unit.specs.declared.entry.Attr.{Attr}
use Rattle.dw_unit.specs.CompUnits.{Entry, Unit, attr, number_in, units}
use Rattle.dw_unit.specs.EntryMoves.{new_list_offset}
use Rattle.dw_lists.specs.declared.list_bound.Address.{Address}
use Rattle.dw_lists.specs.declared.list_bound.Address.TheVariants.{Here, Index}
use Rattle.dw_lists.specs.declared.list_bound.Bound.{Bound}
use Rattle.dw_lists.specs.declared.list_bound.Bound.TheVariants.{Base, Between, Onward, Offsets, Default}
use Rattle.dw_lists.specs.Faults.{ListSections}
use Rattle.dw_lists.specs.ListEntries.{Item}
use Rattle.dw_lists.specs.Lists.{items_at, ranges_kind}
use Rattle.dw_lists.specs.Ranges.{entry_address}
use Rattle.dw_lists.specs.UnitLists.{own_place}

-- The address at which a range begins, where an entry of a list has it in full.
abbrev pub whole_start : Address → Option ℕ
whole_start (Here a) = Some a
whole_start (Index i) = None

abbrev pub start_of : Bound → Option ℕ
start_of (Base a) = None
start_of (Between a b) = whole_start a
start_of (Onward a n) = whole_start a
start_of (Offsets m n) = None
start_of Default = None

-- A list can be read at an offset of a section, and its first range begins at an address.
pub record BeginsAt (section : List ℕ) (offset address : ℕ) : Type 0 where
  pub first : Item
  pub more : List Item
  pub are : items_at ranges_kind section offset ≡ Ok (first ∷ more)
  pub start : start_of first.bound ≡ Some address

-- The instruction at which an entry is entered went to a place, at which it has bytes.
pub record EntersAt (spans : List Span) (s : ListSections) (u : Unit) (e : Entry) (place : ℕ) : Type 0 where
  pub address : ℕ
  pub entered : entry_address s u e ≡ Some address
  pub moved_is : moved spans address ≡ Some place
  pub owned : owner spans place ≡ Some address

-- An entry has the offset of a list that begins at an address.
pub record HasOffset (lists : List ListAt) (table : List ℕ) (e : Entry) (address : ℕ) : Type 0 where
  pub offset : ℕ
  pub is : new_list_offset lists e.place DW_AT_ranges ≡ Some offset
  pub begins : BeginsAt table offset address

-- An index of a unit has that of one.
pub record HasIndex (lists : List ListAt) (table : List ℕ) (u : Unit) (index address : ℕ) : Type 0 where
  pub base : ℕ
  pub is : new_list_offset lists (own_place u) DW_AT_rnglists_base ≡ Some base
  pub offset : ℕ
  pub offset_is : number_in 4 (base + 4 * index) table ≡ Some offset
  pub begins : BeginsAt table (base + offset) address

-- The index by which an entry names its list, where it does so by one.
abbrev pub list_index : Entry → Option ℕ
list_index e = option_and_then (λ (a : Attr). if a.form == DW_FORM_rnglistx then Some a.value else None)
    (attr DW_AT_ranges e)

-- All entries of a unit that name a list by an index are entered at the same address as one of them.
abbrev pub AreEnteredAlike : ListSections → Unit → (index : ℕ) → Entry → Type 0
AreEnteredAlike s u index e = (d : Entry) → Contains u.entries d → list_index d ≡ Some index →
    entry_address s u d ≡ entry_address s u e

-- Entries that name a list by an index share its new list, so it begins where they are entered alike.
pub record AreEnteredFirst (spans : List Span) (s : ListSections) (lists : List ListAt) (table : List ℕ) : Type 0 where
  pub by_offset : (u : Unit) → Contains (units s.units) u → (e : Entry) → Contains u.entries e →
      list_index e ≡ None → (place : ℕ) → EntersAt spans s u e place → HasOffset lists table e place
  pub by_index : (u : Unit) → Contains (units s.units) u → (e : Entry) → Contains u.entries e → (index : ℕ) →
      list_index e ≡ Some index → AreEnteredAlike s u index e → (place : ℕ) → EntersAt spans s u e place →
      HasIndex lists table u index place
