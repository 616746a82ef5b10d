-- A section of written tables has no fault of its own.
use Rattle.std.proofs.Common.{ℕ, ◌+◌, ◌≡◌, List, [], ◌∷◌, Some, None, option_map, Bool, true, false, not, refl, ◌∙◌, ap, arith, length}
use Rattle.std.proofs.Common.{filter, map, All}
use Rattle.std.specs.Prelude.{if◌then◌else◌}
use Rattle.std.specs.List.{find}
use Rattle.std.specs.Option.{option_map_or}
use Rattle.std.proofs.lemmas.List.Elements.{All-head, All-tail}
use Rattle.table_core.specs.DebugUnits.{Walked, walked, first_place, other_version}
use Rattle.table_core.specs.WrittenUnits.{units_bytes, walked_units, IsUnit}
use Rattle.table_core.proofs.UnitsBack.{units-back}
use Rattle.dw_lists.specs.Faults.{is_list_table}

none_other : (place : ℕ) (bs : List (List ℕ)) → find (λ (w : Walked). w.is_other) (walked_units place bs) ≡ None
unfolding walked_units
none_other place [] = refl
none_other place (b ∷ bs) = none_other (place + (length b + 4)) bs

pub no_other : (bs : List (List ℕ)) → All (IsUnit 5) bs → other_version 5 (units_bytes bs) ≡ None
no_other bs units =
    ap (first_place (λ (w : Walked). w.is_other)) (units-back 5 0 (length (units_bytes bs)) bs units (omega arith))
    ∙ ap (option_map (λ (w : Walked). w.place)) (none_other 0 bs)

abbrev is_bad : Walked → Bool
is_bad w = not (option_map_or is_list_table w.bytes false)

none_bad : (place : ℕ) (bs : List (List ℕ)) → All (λ b. is_list_table b ≡ true) bs → filter is_bad (walked_units place bs) ≡ []
unfolding walked_units
none_bad place [] sound = refl
none_bad place (b ∷ bs) sound =
    ap (λ (t : Bool). if not t then record { place = place; bytes = Some b; is_other = false }
    ∷ filter is_bad (walked_units (place + (length b + 4)) bs)
    else filter is_bad (walked_units (place + (length b + 4)) bs))
    (All-head (λ b. is_list_table b ≡ true) b bs sound)
    ∙ none_bad (place + (length b + 4)) bs (All-tail (λ b. is_list_table b ≡ true) b bs sound)

pub no_bad : (bs : List (List ℕ)) → All (IsUnit 5) bs → All (λ b. is_list_table b ≡ true) bs →
    map (λ (w : Walked). w.place) (filter is_bad (walked 5 (units_bytes bs))) ≡ []
no_bad bs units sound =
    ap (λ (ws : List Walked). map (λ (w : Walked). w.place) (filter is_bad ws))
    (units-back 5 0 (length (units_bytes bs)) bs units (omega arith))
    ∙ ap (map (λ (w : Walked). w.place)) (none_bad 0 bs sound)
