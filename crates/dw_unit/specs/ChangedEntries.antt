-- The units of the written file, compared with the units of the input that they were made from.
use Rattle.std.specs.Prelude.{◌≡◌, ◌≢◌, ℕ, Bool, List, Contains, None}
use Rattle.std.specs.List.{AllZip}
use Rattle.dw_unit.specs.declared.attribute.TheConstants.{DW_AT_high_pc}
use Rattle.dw_unit.specs.declared.entry.Attr.{Attr}
use Rattle.dw_unit.specs.Changes.{new_value, changed_attrs, new_offset, is_own, is_first_of}
use Rattle.dw_unit.specs.EntryMoves.{Moves}
use Rattle.dw_unit.specs.CompUnits.{Entry, Unit, Sections, units, value_bytes}

-- A value that isn't rewritten.
abbrev pub IsKeptValue : Moves → (is_own is_first : Bool) → Entry → Attr → Type 0
IsKeptValue m is_own is_first e a = (a.name ≢ DW_AT_high_pc) × (new_value m is_own is_first e a ≡ None)

-- `new` is the entry `old` in the written file, whose `.debug_info` is `info`: it has the same offset, unit, depth and
-- tag, and the changed attributes. Each value that isn't rewritten keeps its bytes, those of texts and expressions too.
pub record IsChangedEntry (s : Sections) (info : List ℕ) (m : Moves) (is_first : Bool) (old new : Entry) : Type 0 where
  pub place : new.place ≡ old.place
  pub unit : new.unit ≡ old.unit
  pub depth : new.depth ≡ old.depth
  pub tag : new.declaration.tag ≡ old.declaration.tag
  pub attrs : new.attrs ≡ changed_attrs m (is_own s old.declaration) is_first old
  pub bytes : (a : Attr) → Contains old.attrs a → IsKeptValue m (is_own s old.declaration) is_first old a →
      value_bytes info a ≡ value_bytes s.info a

-- `new` is the unit `old` in the written file: it has as many entries, each of them changed.
pub record IsChangedUnit (s : Sections) (info : List ℕ) (m : Moves) (old new : Unit) : Type 0 where
  pub place : new.place ≡ old.place
  pub abbrev_offset : new.abbrev_offset ≡ new_offset s old.abbrev_offset
  pub entries : AllZip (λ x y. IsChangedEntry s info m (is_first_of old x) x y) old.entries new.entries

-- The written file has the units of `s`, each changed, in order, and no others.
abbrev pub AreChangedUnits : Sections → Moves → Sections → Type 0
AreChangedUnits s m f = AllZip (IsChangedUnit s f.info m) (units s) (units f)
