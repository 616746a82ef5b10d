-- The last table that begins at or below an offset, by the number of tables that do.
use Rattle.std.proofs.Common.{◌≡◌, ◌∙◌, ◌+◌, ◌<◌, ◌≤◌, ℕ, zero, suc, Bool, true, false, List, [], ◌∷◌, Option, Some, None, refl, sym}
use Rattle.std.proofs.Common.{ap, arith, length, get_or, drop}
use Rattle.std.specs.Prelude.{if◌then◌else◌, nat_le, slice_get}
use Rattle.std.specs.Option.{option_or}
use Rattle.std.specs.List.Sorted.{IsNonDecreasingBy}
use Rattle.std.proofs.lemmas.Option.{slice_get-get_or}
use Rattle.table_core.specs.DebugUnits.{Walked, walked, units_from, unit_length, is_whole_unit, unit_bytes, is_other_version}
use Rattle.table_core.proofs.UnitsWalk.{behind_front}
use Rattle.dw_lists.specs.Lists.{table_below}

-- The last of the first `n` tables.
abbrev pub last_of : ℕ → List Walked → Option Walked
last_of zero ws = None
last_of (suc n) ws = slice_get ws n

below_none : (at : ℕ) (ws : List Walked) → ((k : ℕ) (d : Walked) → k < length ws → nat_le (get_or ws k d).place at ≡ false) →
    table_below at ws ≡ None
below_none at [] high = refl
below_none at (w ∷ ws) high =
    ap (λ (o : Option Walked). option_or o (if nat_le w.place at then Some w else None))
    (below_none at ws (λ k d h. high (suc k) d (omega arith)))
    ∙ ap (λ (b : Bool). if b then Some w else None) (high zero w (omega arith))

pub below_is : (at : ℕ) (ws : List Walked) (n : ℕ) → n ≤ length ws →
    ((k : ℕ) (d : Walked) → k < n → nat_le (get_or ws k d).place at ≡ true) →
    ((k : ℕ) (d : Walked) → n ≤ k → k < length ws → nat_le (get_or ws k d).place at ≡ false) → table_below at ws ≡ last_of n ws
below_is at ws zero le low high = below_none at ws (λ k d h. high k d (omega arith) h)
below_is at [] (suc n) le low high = absurd (omega arith)
below_is at (w ∷ ws) (suc zero) le low high =
    ap (λ (o : Option Walked). option_or o (if nat_le w.place at then Some w else None))
    (below_none at ws (λ k d h. high (suc k) d (omega arith) (omega arith)))
    ∙ ap (λ (b : Bool). if b then Some w else None) (low zero w (omega arith))
below_is at (w ∷ ws) (suc (suc n)) le low high =
    let more : table_below at ws ≡ slice_get ws n =
    below_is at ws (suc n) (omega arith) (λ k d h. low (suc k) d (omega arith)) (λ k d h l. high (suc k) d (omega arith) (omega arith)) in
    let there : slice_get ws n ≡ Some (get_or ws n w) = slice_get-get_or ws n w (omega arith) in
    ap (λ (o : Option Walked). option_or o (if nat_le w.place at then Some w else None)) (more ∙ there) ∙ sym there

-- The offsets of units ascend

module _ (n version place : ℕ) (left : List ℕ) where
  abbrev to : ℕ
  to = place + (unit_length left + 4)

  abbrev next : List Walked
  next = units_from n version to (drop (unit_length left + 4) left)

  all_later : (whole : Bool) → ((k : ℕ) (d : Walked) → k < length next → to ≤ (get_or next k d).place) → (k : ℕ) (d : Walked) →
      k < length (behind_front whole n version place left) → place ≤ (get_or (behind_front whole n version place left) k d).place
  all_later true more k d h = let g = more k d h in omega arith
  all_later false more k d h = absurd (omega arith)

  all_rise : (whole : Bool) → IsNonDecreasingBy (λ (w : Walked). w.place) next →
      IsNonDecreasingBy (λ (w : Walked). w.place) (behind_front whole n version place left)
  all_rise true more = more
  all_rise false more = λ i j d le h. absurd (omega arith)

later : (n version place : ℕ) (left : List ℕ) (k : ℕ) (d : Walked) → k < length (units_from n version place left) →
    place ≤ (get_or (units_from n version place left) k d).place
unfolding units_from
later zero version place left k d h = absurd (omega arith)
later (suc n) version place [] k d h = absurd (omega arith)
later (suc n) version place (b ∷ rest) zero d h = omega arith
later (suc n) version place (b ∷ rest) (suc k) d h =
    all_later n version place (b ∷ rest) (is_whole_unit (b ∷ rest)) (later n version _ _) k d (omega arith)

rises_from : (n version place : ℕ) (left : List ℕ) → IsNonDecreasingBy (λ (w : Walked). w.place) (units_from n version place left)
unfolding units_from
rises_from zero version place left = λ i j d le h. absurd (omega arith)
rises_from (suc n) version place [] = λ i j d le h. absurd (omega arith)
rises_from (suc n) version place (b ∷ rest) =
    from_front (record { place = place; bytes = unit_bytes (b ∷ rest); is_other = is_other_version version (b ∷ rest) })
    (behind_front (is_whole_unit (b ∷ rest)) n version place (b ∷ rest))
    (all_later n version place (b ∷ rest) (is_whole_unit (b ∷ rest)) (later n version _ _))
    (all_rise n version place (b ∷ rest) (is_whole_unit (b ∷ rest)) (rises_from n version _ _))
  where
    from_front : (w : Walked) (ws : List Walked) → ((k : ℕ) (d : Walked) → k < length ws → w.place ≤ (get_or ws k d).place) →
        IsNonDecreasingBy (λ (w : Walked). w.place) ws → IsNonDecreasingBy (λ (w : Walked). w.place) (w ∷ ws)
    from_front w ws low rise zero zero d le h = omega arith
    from_front w ws low rise zero (suc j) d le h = low j d (omega arith)
    from_front w ws low rise (suc i) zero d le h = absurd (omega arith)
    from_front w ws low rise (suc i) (suc j) d le h = rise i j d (omega arith) (omega arith)

pub places_rise : (version : ℕ) (section : List ℕ) → IsNonDecreasingBy (λ (w : Walked). w.place) (walked version section)
places_rise version section = rises_from (length section) version 0 section
