-- Units that share a table of lists.
use Rattle.std.specs.Prelude.{◌≡◌, ℕ, Bool, true, List, Contains, Option, Some}
use Rattle.std.specs.BTreeMap.{BTreeMap, get}
use Rattle.std.specs.Ordering.{nat_cmp}
use Rattle.dw_lists.specs.declared.indexed_unit.IndexedUnit.{IndexedUnit}
use Rattle.dw_lists.specs.declared.named_list.NamedList.{NamedList}
use Rattle.list_writer.specs.WrittenTables.{AreApart, IsOwned}

-- All indexes are of one unit.
abbrev pub AreOf : ℕ → BTreeMap ℕ ℕ → Type 0
AreOf own used = (i o : ℕ) → get nat_cmp used i ≡ Some o → o ≡ own

-- Indexes keep their units.
abbrev pub StayUsed : BTreeMap ℕ ℕ → BTreeMap ℕ ℕ → Type 0
StayUsed old new = (i o : ℕ) → get nat_cmp old i ≡ Some o → get nat_cmp new i ≡ Some o

-- An index was claimed for a unit, unless another unit has it.
pub record IsClaim (own : ℕ) (index : Option ℕ) (old new : BTreeMap ℕ ℕ) (free : Bool) : Type 0 where
  pub stay : StayUsed old new
  pub claimed : free ≡ true → (i : ℕ) → index ≡ Some i → get nat_cmp new i ≡ Some own
  pub alone : AreOf own old → free ≡ true
  pub still : AreOf own old → AreOf own new

-- The indexes of attributes were claimed for a unit, unless another unit has one of them.
pub record AreClaimed (own : ℕ) (entries : List NamedList) (old new : BTreeMap ℕ ℕ) (free : Bool) : Type 0 where
  pub stay : StayUsed old new
  pub claimed : free ≡ true → (r : NamedList) (i : ℕ) → Contains entries r → r.index ≡ Some i →
      get nat_cmp new i ≡ Some own
  pub alone : AreOf own old → free ≡ true

-- Units that share a table, with the attributes of their entries, at the front of the units and attributes left.
pub record IsGroup (entries behind : List NamedList) (group later : List IndexedUnit) : Type 0 where
  pub owned : (r : NamedList) → Contains entries r → IsOwned group r
  pub later_owned : (r : NamedList) → Contains behind r → IsOwned later r
  pub apart : AreApart entries
