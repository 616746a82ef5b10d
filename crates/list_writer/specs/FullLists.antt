-- Lists with full addresses, in tables of a section. DWARF 5, sections 7.25, 7.28 and 7.29.
use Rattle.std.specs.Prelude.{◌≡◌, ◌+◌, ◌&&◌, ℕ, Bool, true, false, IsTrue, List, All, Contains, drop, Some, Ok}
use Rattle.byteorder.specs.Endian.{little_number}
use Rattle.table_core.specs.DebugUnits.{Walked, walked}
use Rattle.dw_lists.specs.declared.list_bound.Address.{Address}
use Rattle.dw_lists.specs.declared.list_bound.Address.TheVariants.{Here, Index}
use Rattle.dw_lists.specs.declared.list_bound.Bound.{Bound}
use Rattle.dw_lists.specs.declared.list_bound.Bound.TheVariants.{Base, Between, Onward, Offsets, Default}
use Rattle.dw_lists.specs.Faults.{is_list_table}
use Rattle.dw_lists.specs.ListEntries.{Item}
use Rattle.dw_lists.specs.Lists.{Kind, items_at}

-- An entry has full addresses: it sets no base address, isn't relative to one, and has no index of an address.

-- An address, and not an index.
abbrev pub is_whole : Address → Bool
is_whole (Here a) = true
is_whole (Index i) = false

abbrev pub is_full : Bound → Bool
is_full (Base a) = false
is_full (Between a b) = is_whole a && is_whole b
is_full (Onward a n) = is_whole a
is_full (Offsets m n) = false
is_full Default = true

-- The list at an offset of a section can be read, and each of its entries has full addresses.
pub record IsFullList (k : Kind) (section : List ℕ) (at : ℕ) : Type 0 where
  pub items : List Item
  pub are : items_at k section at ≡ Ok items
  pub full : All (λ (i : Item). IsTrue (is_full i.bound)) items

-- A base is the offset after the header of a table, which has 12 bytes with its length. The table's offsets begin
-- there.
pub record IsTableBase (section : List ℕ) (base count : ℕ) : Type 0 where
  pub table : Walked
  pub there : Contains (walked 5 section) table
  pub bytes : List ℕ
  pub whole : table.bytes ≡ Some bytes
  pub sound : IsTrue (is_list_table bytes)
  pub at : base ≡ table.place + 12
  pub counted : little_number 4 (drop 4 bytes) ≡ count
