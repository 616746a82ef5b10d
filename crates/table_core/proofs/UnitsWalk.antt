-- Units that are found one after another.
use Rattle.std.proofs.Common.{◌≡◌, ◌∙◌, ◌+◌, ◌-◌, ◌<◌, ◌≤◌, ◌++◌, ℕ, zero, suc, Bool, true, false, List, [], ◌∷◌, refl, sym, ap, arith}
use Rattle.std.proofs.Common.{length, drop, append_assoc}
use Rattle.std.specs.Prelude.{if◌then◌else◌, ◌&&◌, ◌==◌, not, nat_le}
use Rattle.std.proofs.lemmas.List.{append-nil}
use Rattle.std.proofs.lemmas.Bool.{leb-true}
use Rattle.rb_bytes.proofs.Tests.{less_one, second_of}
use Rattle.table_core.specs.DebugUnits.{Walked, units_from, unit_bytes, unit_length, is_other_version, is_whole_unit, DWARF64}

-- A whole unit is in the bytes.
pub whole_fits : (left : List ℕ) → is_whole_unit left ≡ true → unit_length left + 4 ≤ length left
whole_fits left e =
    leb-true (unit_length left + 4) (length left)
    (second_of (nat_le 4 (length left) && not (unit_length left == DWARF64)) (nat_le (unit_length left + 4) (length left)) e)

abbrev pub front_unit : ℕ → ℕ → List ℕ → Walked
front_unit version place left = record { place = place; bytes = unit_bytes left; is_other = is_other_version version left }

abbrev pub behind_front : Bool → ℕ → ℕ → ℕ → List ℕ → List Walked
behind_front whole n version place left =
    if whole then units_from n version (place + (unit_length left + 4)) (drop (unit_length left + 4) left) else []

units-step : (n version place : ℕ) (left : List ℕ) → 0 < length left →
    units_from (suc n) version place left ≡ front_unit version place left ∷ behind_front (is_whole_unit left) n version place left
unfolding units_from
units-step n version place [] h = absurd (omega arith)
units-step n version place (b ∷ rest) h = refl

step-is : (n count version place : ℕ) (left : List ℕ) (us : List Walked) (whole : Bool) → count < n → 0 < length left →
    is_whole_unit left ≡ whole →
    us ++ units_from (n - count) version place left
    ≡ (us ++ front_unit version place left ∷ []) ++ behind_front whole (n - (count + 1)) version place left
step-is n count version place left us whole h l e =
    ap (λ (m : ℕ). us ++ units_from m version place left) (less_one n count h)
    ∙ ap (λ (ws : List Walked). us ++ ws) (units-step (n - (count + 1)) version place left l)
    ∙ sym (append_assoc us (front_unit version place left ∷ []) (behind_front (is_whole_unit left) (n - (count + 1)) version place left))
    ∙ ap (λ (b : Bool). (us ++ front_unit version place left ∷ []) ++ behind_front b (n - (count + 1)) version place left) e

pub next_unit : (n count version place to : ℕ) (left rest : List ℕ) (us : List Walked) → count < n → 0 < length left →
    is_whole_unit left ≡ true → rest ≡ drop (unit_length left + 4) left → to ≡ place + (unit_length left + 4) →
    us ++ units_from (n - count) version place left ≡ (us ++ front_unit version place left ∷ [])
    ++ units_from (n - (count + 1)) version to rest
next_unit n count version place to left rest us h l e r t =
    step-is n count version place left us true h l e
    ∙ ap (λ (l : List ℕ). (us ++ front_unit version place left ∷ []) ++ units_from (n - (count + 1)) version
    (place + (unit_length left + 4)) l) (sym r)
    ∙ ap (λ (k : ℕ). (us ++ front_unit version place left ∷ []) ++ units_from (n - (count + 1)) version k rest) (sym t)

pub last_unit : (n count version place : ℕ) (left : List ℕ) (us : List Walked) → count < n → 0 < length left →
    is_whole_unit left ≡ false →
    us ++ units_from (n - count) version place left ≡ us ++ front_unit version place left ∷ []
last_unit n count version place left us h l e =
    step-is n count version place left us false h l e ∙ append-nil (us ++ front_unit version place left ∷ [])

units-nil : (n version place : ℕ) (left : List ℕ) → length left ≡ 0 → units_from n version place left ≡ []
unfolding units_from
units-nil zero version place left h = refl
units-nil (suc n) version place [] h = refl
units-nil (suc n) version place (b ∷ left) h = absurd (omega arith)

pub no_unit : (n version place : ℕ) (left : List ℕ) (us : List Walked) → length left ≡ 0 → us ++ units_from n version place left ≡ us
no_unit n version place left us h = ap (λ (ws : List Walked). us ++ ws) (units-nil n version place left h) ∙ append-nil us

units-out : (n version place : ℕ) (left : List ℕ) → n ≡ 0 → units_from n version place left ≡ []
unfolding units_from
units-out zero version place left h = refl
units-out (suc n) version place left h = absurd (omega arith)

pub units_end : (n count version place : ℕ) (left : List ℕ) (us : List Walked) → n ≤ count →
    us ++ units_from (n - count) version place left ≡ us
units_end n count version place left us h =
    ap (λ (ws : List Walked). us ++ ws) (units-out (n - count) version place left (omega arith)) ∙ append-nil us
