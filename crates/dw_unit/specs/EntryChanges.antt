-- What the change of an entry depends on.
use Rattle.std.specs.Prelude.{◌≡◌, ◌≤◌, ◌+◌, ℕ, List, [], ◌∷◌, All}
use Rattle.table_core.specs.declared.form.TheConstants.{DW_FORM_addr, DW_FORM_sec_offset}
use Rattle.table_core.specs.DebugUnits.{Walked}
use Rattle.dw_unit.specs.declared.attribute.TheConstants.{DW_AT_high_pc}
use Rattle.dw_unit.specs.declared.changed_entry.ChangedEntry.{ChangedEntry}
use Rattle.dw_unit.specs.declared.own_entry.OwnEntry.{OwnEntry}
use Rattle.dw_unit.specs.declared.entry.Attr.{Attr}
use Rattle.dw_unit.specs.Declarations.{has_spec}
use Rattle.dw_unit.specs.CompUnits.{Entry, end_of}

-- A unit's own entry, as the offsets of the entry and of its declaration.
abbrev pub own_places : Entry → OwnEntry
own_places e = record { place = e.place; declaration = e.declaration.place }

-- `x` has the offset of the entry `e`, and whether `e` has a DW_AT_high_pc.
pub record IsOf (e : Entry) (x : ChangedEntry) : Type 0 where
  pub place : x.place ≡ e.place
  pub has_high : x.has_high ≡ has_spec DW_AT_high_pc e.declaration

-- The attribute is at offset `from` or after it. An address has eight bytes, and an offset of a section four.
pub record IsPlaced (from : ℕ) (a : Attr) : Type 0 where
  pub behind : from ≤ a.place
  pub address : a.form ≡ DW_FORM_addr → a.len ≡ 8
  pub offset : a.form ≡ DW_FORM_sec_offset → a.len ≡ 4

-- The attributes follow one another between the offsets `from` and `to`.
abbrev pub ArePlaced : (from to : ℕ) → List Attr → Type 0
ArePlaced from to [] = from ≤ to
ArePlaced from to (a ∷ attrs) = IsPlaced from a × ArePlaced (a.place + a.len) to attrs

-- A DW_AT_high_pc has room for the offset of a range list.
abbrev pub HasRoom : Attr → Type 0
HasRoom a = a.name ≡ DW_AT_high_pc → 4 ≤ a.len

abbrev pub HaveRoom : List Attr → Type 0
HaveRoom attrs = All HasRoom attrs

-- The units follow one another between the offsets `from` and `to`.
abbrev pub AreBehind : (from to : ℕ) → List Walked → Type 0
AreBehind from to [] = from ≤ to
AreBehind from to (w ∷ ws) = (from ≤ w.place) × (end_of w ≤ to) × AreBehind (end_of w) to ws
