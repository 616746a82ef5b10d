-- Whether a unit is sound depends on its listed entries only.
use Rattle.std.proofs.Common.{◌≡◌, ℕ, Bool, List, [], ◌∷◌, refl, ap, map}
use Rattle.std.specs.Prelude.{◌&&◌}
use Rattle.std.specs.List.{list_all}
use Rattle.dw_unit.specs.declared.entry.Attr.{Attr}
use Rattle.dw_unit.specs.CompUnits.{Entry}
use Rattle.dw_unit.specs.Faults.{is_sound_attr, is_sound_unit}
use Rattle.dw_unit.specs.ListedEntries.{ListedEntry, listed}
use Rattle.dw_unit.specs.ListedUnits.{plain, plain_unit}

abbrev are_sound : (Attr → Bool) → List Entry → Bool
are_sound test es = list_all (λ (e : Entry). list_all test e.attrs) es

all_listed : (test : Attr → Bool) (es : List Entry) → are_sound test (map plain (map listed es)) ≡ are_sound test es
all_listed test [] = refl
all_listed test (e ∷ es) = ap (λ (b : Bool). list_all test e.attrs && b) (all_listed test es)

-- The unit's own entry has the same attributes.
pub sound_listed : (addr : List ℕ) (place offset : ℕ) (es : List Entry) →
    is_sound_unit addr (plain_unit (map listed es)) ≡ is_sound_unit addr (record { place = place; abbrev_offset = offset; entries = es })
sound_listed addr place offset [] = refl
sound_listed addr place offset (e ∷ es) =
    all_listed (is_sound_attr addr (record { place = place; abbrev_offset = offset; entries = e ∷ es })) (e ∷ es)

-- Entries with the same listed fields have the same attributes.
pub plain_sound : (test : Attr → Bool) (es : List ListedEntry) →
    are_sound test (map plain es) ≡ list_all (λ (e : ListedEntry). list_all test e.attrs) es
plain_sound test [] = refl
plain_sound test (e ∷ es) = ap (λ (b : Bool). list_all test e.attrs && b) (plain_sound test es)
