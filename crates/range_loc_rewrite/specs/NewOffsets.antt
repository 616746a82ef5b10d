-- How the attributes of a file's entries find their lists in written tables. DWARF 5, sections 2.6.2, 2.17.3, 7.28 and
-- 7.29.
use Rattle.std.specs.Prelude.{◌≡◌, ◌≢◌, ◌<◌, ◌+◌, ◌*◌, ℕ, List, [], All, Contains, length, Some, None, IsTrue}
use Rattle.table_core.specs.declared.form.TheConstants.{DW_FORM_sec_offset}
use Rattle.table_core.specs.declared.written.ListAt.{ListAt}
use Rattle.dw_unit.specs.declared.attribute.TheConstants.{DW_AT_high_pc, DW_AT_ranges}
use Rattle.dw_unit.specs.declared.entry.Attr.{Attr}
use Rattle.dw_unit.specs.CompUnits.{Entry, Sections, Unit, attr, number_in, own_entry, units}
use Rattle.dw_unit.specs.EntryMoves.{new_list_offset}
use Rattle.dw_lists.specs.Lists.{Kind, ranges_kind, locations_kind}
use Rattle.dw_lists.specs.UnitLists.{own_place}
use Rattle.dw_lists.specs.Weights.{indexes}
use Rattle.list_writer.specs.FullLists.{IsFullList, IsTableBase}

-- An attribute of the entry at offset `place` gets the offset of a list in the new table.
pub record GetsOffset (k : Kind) (lists : List ListAt) (table : List ℕ) (place name : ℕ) : Type 0 where
  pub offset : ℕ
  pub is : new_list_offset lists place name ≡ Some offset
  pub within : offset < length table
  pub full : IsFullList k table offset

-- An attribute refers to a list by an index, in a unit with a base.
pub record NamesIndex (k : Kind) (s : Sections) (lists : List ListAt) (base index : ℕ) : Type 0 where
  pub u : Unit
  pub unit : Contains (units s) u
  pub based : new_list_offset lists (own_place u) k.base_name ≡ Some base
  pub e : Entry
  pub entry : Contains u.entries e
  pub name : ℕ
  pub a : Attr
  pub is : attr name e ≡ Some a
  pub names : IsTrue (k.names_list name)
  pub form : a.form ≡ k.index_form
  pub value : a.value ≡ index

-- The index has the offset of a list. The list has no entries if no attribute refers to a list by this index.
pub record HasIndex (k : Kind) (s : Sections) (lists : List ListAt) (table : List ℕ) (base index : ℕ) : Type 0 where
  pub offset : ℕ
  pub is : number_in 4 (base + 4 * index) table ≡ Some offset
  pub full : IsFullList k table (base + offset)
  pub unused : (NamesIndex k s lists base index → ⊥) → full.items ≡ []

-- A unit gets a new base: that of a table with an offset for each index that the unit uses, in any attribute.
pub record GetsBase (k : Kind) (s : Sections) (u : Unit) (lists : List ListAt) (table : List ℕ) : Type 0 where
  pub base : ℕ
  pub is : new_list_offset lists (own_place u) k.base_name ≡ Some base
  pub count : ℕ
  pub table_is : IsTableBase table base count
  pub below : All (λ i. i < count) (indexes k.index_form u)
  pub each : (i : ℕ) → i < count → HasIndex k s lists table base i

-- A unit needs a table: it uses an index, or it has an entry that refers to a list by its offset, or that gets one
-- otherwise.
pub data NeedsTable (k : Kind) (gets_list : Entry → Type 0) (u : Unit) : Type 0 where
  uses_index : (i : ℕ) → Contains (indexes k.index_form u) i → NeedsTable k gets_list u
  names_list : (e : Entry) (name : ℕ) (a : Attr) → Contains u.entries e → attr name e ≡ Some a →
      IsTrue (k.names_list name) → a.form ≡ DW_FORM_sec_offset → NeedsTable k gets_list u
  has_entry : (e : Entry) → Contains u.entries e → gets_list e → NeedsTable k gets_list u

-- Each attribute that refers to a list by its offset gets a new offset. A unit that needs a table gets the base of one,
-- if IN or OUT has the section. A unit that needs none keeps its base.
pub record GetOffsets (k : Kind) (gets_list : Entry → Type 0) (s : Sections) (old : List ℕ) (lists : List ListAt)
    (table : List ℕ) : Type 0 where
  pub offsets : (u : Unit) → Contains (units s) u → (e : Entry) → Contains u.entries e → (name : ℕ) (a : Attr) →
      attr name e ≡ Some a → IsTrue (k.names_list name) → a.form ≡ DW_FORM_sec_offset →
      GetsOffset k lists table e.place name
  pub bases : (old ≡ [] → table ≢ []) → (u : Unit) → Contains (units s) u → NeedsTable k gets_list u →
      GetsBase k s u lists table
  pub kept : (u : Unit) → Contains (units s) u → (own : Entry) → own_entry u ≡ Some own →
      (NeedsTable k gets_list u → ⊥) → new_list_offset lists own.place k.base_name ≡ None

-- An entry has a high address.
pub record HasHigh (e : Entry) : Type 0 where
  pub a : Attr
  pub is : attr DW_AT_high_pc e ≡ Some a

-- Ranges get offsets too, and a high address becomes the offset of a list.
pub record RangesGetOffsets (s : Sections) (old : List ℕ) (lists : List ListAt) (table : List ℕ) : Type 0 where
  pub listed : GetOffsets ranges_kind HasHigh s old lists table
  pub ends : (u : Unit) → Contains (units s) u → (e : Entry) → Contains u.entries e → HasHigh e →
      GetsOffset ranges_kind lists table e.place DW_AT_ranges

abbrev pub PlacesGetOffsets : Sections → (old : List ℕ) → List ListAt → (table : List ℕ) → Type 0
PlacesGetOffsets = GetOffsets locations_kind (λ _. ⊥)
