-- Keys of maps.
use Rattle.std.specs.Prelude.{◌≡◌, ◌<◌, ℕ, true, List, Some, is_some, length, slice_index}
use Rattle.std.specs.BTreeMap.{BTreeMap, get}
use Rattle.std.specs.Ordering.{nat_cmp}
use Rattle.table_core.specs.DebugUnits.{Walked}
use Rattle.dw_unit.specs.NamedOffsets.{is_named_by, offset_of}

-- The number is a key of the map.
abbrev pub HasKey : {X : Type 0} → BTreeMap ℕ X → ℕ → Type 0
HasKey m q = is_some (get nat_cmp m q) ≡ true

-- `new` has all keys of `old`.
abbrev pub KeepsKeys : {X : Type 0} → (old new : BTreeMap ℕ X) → Type 0
KeepsKeys old new = (q : ℕ) → HasKey old q → HasKey new q

-- All numbers of the list are keys of the map.
abbrev pub HasKeys : {X : Type 0} → BTreeMap ℕ X → List ℕ → Type 0
HasKeys m qs = (k : ℕ) → k < length qs → HasKey m (slice_index qs k)

-- The abbreviation offset in the unit's header is a key.
abbrev pub HasOffset : {X : Type 0} → BTreeMap ℕ X → Walked → Type 0
HasOffset m w = (q : ℕ) → offset_of w ≡ Some q → HasKey m q

-- The abbreviation offsets in the headers of all units are keys.
abbrev pub HasOffsets : {X : Type 0} → BTreeMap ℕ X → List Walked → Type 0
HasOffsets m ws = (q : ℕ) → is_named_by q ws ≡ true → HasKey m q
