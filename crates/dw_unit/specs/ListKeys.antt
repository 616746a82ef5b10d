-- Lists, found by their entries and attributes.
use Rattle.std.specs.Prelude.{◌≡◌, ◌<◌, ◌+◌, ◌*◌, ◌^◌, ℕ, List}
use Rattle.std.specs.BTreeMap.{BTreeMap, get}
use Rattle.std.specs.Ordering.{nat_cmp}
use Rattle.table_core.specs.declared.written.ListAt.{ListAt}
use Rattle.dw_unit.specs.EntryMoves.{new_list_offset}

-- An entry and an attribute as one number.
abbrev pub list_key : ℕ → ℕ → ℕ
list_key entry attr = entry * 2 ^ 64 + attr

-- The map `offsets` has the offset of each list under this number.
abbrev pub Offsets : List ListAt → BTreeMap ℕ ℕ → Type 0
Offsets lists offsets = (entry attr : ℕ) → attr < 2 ^ 64 →
    get nat_cmp offsets (list_key entry attr) ≡ new_list_offset lists entry attr
