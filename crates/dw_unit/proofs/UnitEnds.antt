-- Units end in their section, or just after their length, and have fewer than 2^32 bytes.
use Rattle.std.proofs.Common.{◌≡◌, ◌<◌, ◌≤◌, ◌+◌, ◌-◌, ◌^◌, ℕ, zero, suc, Bool, true, false, List, [], ◌∷◌, Some, None, All, refl}
use Rattle.std.proofs.Common.{sym, subst, arith, get_or, length, drop, take, nat_le}
use Rattle.std.specs.Prelude.{◌&&◌, if◌then◌else◌}
use Rattle.std.specs.Option.{option_map_or}
use Rattle.std.proofs.lemmas.Grind.{common_steps}
use Rattle.std.proofs.lemmas.List.{get_or-drop}
use Rattle.std.proofs.lemmas.List.Elements.{All-cons, All-nil}
use Rattle.rb_bytes.proofs.ListLemmas.{taken_less}
use Rattle.byteorder.specs.Numbers.{little_from-lt}
use Rattle.table_core.specs.DebugUnits.{Walked, is_other_version, is_whole_unit, unit_bytes, unit_length, units_from, walked}
use Rattle.table_core.proofs.UnitsWalk.{whole_fits}
use Rattle.dw_unit.specs.CompUnits.{end_of, size_of}

abbrev EndsBy : ℕ → Walked → Type 0
EndsBy size w = end_of w ≤ size + 4

taken : (n : ℕ) (left : List ℕ) → length (take n (drop 4 left)) ≤ length left - 4
taken n left = grind (arith, common_steps)

pub rest_size : (n place size : ℕ) (left : List ℕ) → n ≤ length left → place + length left ≤ size →
    place + n + length (drop n left) ≤ size
rest_size n place size left h k = grind (arith, common_steps)

end_by : (left : List ℕ) (place size : ℕ) (b : Bool) → place + length left ≤ size →
    place + 4 + option_map_or length (if b then Some (take (unit_length left) (drop 4 left)) else None) 0 ≤ size + 4
end_by left place size true h = let t = taken (unit_length left) left in omega arith
end_by left place size false h = omega arith

ends_by : (n version place : ℕ) (left : List ℕ) (size : ℕ) → place + length left ≤ size →
    All (EndsBy size) (units_from n version place left)
unfolding units_from
ends_by zero version place left size h = All-nil (EndsBy size)
ends_by (suc n) version place [] size h = All-nil (EndsBy size)
ends_by (suc n) version place (b ∷ rest) size h =
    All-cons (EndsBy size) (record { place = place; bytes = unit_bytes (b ∷ rest); is_other = is_other_version version (b ∷ rest) }) _
    (end_by (b ∷ rest) place size (is_whole_unit (b ∷ rest) && nat_le 2 (unit_length (b ∷ rest))) h)
    (behind (is_whole_unit (b ∷ rest)) refl (λ p l k. ends_by n version p l size k)) where
      behind : (whole : Bool) → is_whole_unit (b ∷ rest) ≡ whole →
          ((p : ℕ) (l : List ℕ) → p + length l ≤ size → All (EndsBy size) (units_from n version p l)) →
          All (EndsBy size) (if whole then units_from n version (place + (unit_length (b ∷ rest) + 4))
          (drop (unit_length (b ∷ rest) + 4) (b ∷ rest)) else [])
      behind true e ih =
          ih (place + (unit_length (b ∷ rest) + 4)) (drop (unit_length (b ∷ rest) + 4) (b ∷ rest))
          (rest_size (unit_length (b ∷ rest) + 4) place size (b ∷ rest) (whole_fits (b ∷ rest) e) h)
      behind false e ih = All-nil (EndsBy size)

pub walked_ends : (version : ℕ) (section : List ℕ) → length section < 2 ^ 63 → All (λ w. end_of w < 2 ^ 64) (walked version section)
walked_ends version section h k d l =
    let by : All (EndsBy (length section)) (walked version section) = ends_by (length section) version 0 section (length section)
    (omega arith) in
    let e = by k d l in
    omega arith

-- Their bytes are counted in 32 bits.

abbrev IsShort : Walked → Type 0
IsShort w = size_of w < 2 ^ 32

short_by : (left : List ℕ) (b : Bool) → ((k : ℕ) → get_or left k 0 < 256) →
    option_map_or length (if b then Some (take (unit_length left) (drop 4 left)) else None) 0 < 2 ^ 32
short_by left true bytes = let n = little_from-lt 0 4 left bytes in let t = taken_less (unit_length left) (drop 4 left) in omega arith
short_by left false bytes = omega arith

bytes_behind : (n : ℕ) (left : List ℕ) → ((k : ℕ) → get_or left k 0 < 256) → (k : ℕ) → get_or (drop n left) k 0 < 256
bytes_behind n left bytes k = subst (λ (x : ℕ). x < 256) (sym (get_or-drop n left k 0)) (bytes (n + k))

all_short : (n version place : ℕ) (left : List ℕ) → ((k : ℕ) → get_or left k 0 < 256) → All IsShort (units_from n version place left)
unfolding units_from
all_short zero version place left bytes = All-nil IsShort
all_short (suc n) version place [] bytes = All-nil IsShort
all_short (suc n) version place (b ∷ rest) bytes =
    All-cons IsShort (record { place = place; bytes = unit_bytes (b ∷ rest); is_other = is_other_version version (b ∷ rest) }) _
    (short_by (b ∷ rest) (is_whole_unit (b ∷ rest) && nat_le 2 (unit_length (b ∷ rest))) bytes)
    (behind (is_whole_unit (b ∷ rest)) (λ p l k. all_short n version p l k)) where
      behind : (whole : Bool) → ((p : ℕ) (l : List ℕ) → ((k : ℕ) → get_or l k 0 < 256) → All IsShort (units_from n version p l)) →
          All IsShort (if whole then units_from n version (place + (unit_length (b ∷ rest) + 4))
          (drop (unit_length (b ∷ rest) + 4) (b ∷ rest)) else [])
      behind true ih =
          ih (place + (unit_length (b ∷ rest) + 4)) (drop (unit_length (b ∷ rest) + 4) (b ∷ rest))
          (bytes_behind (unit_length (b ∷ rest) + 4) (b ∷ rest) bytes)
      behind false ih = All-nil IsShort

pub walked_short : (version : ℕ) (section : List ℕ) → ((k : ℕ) → get_or section k 0 < 256) →
    All (λ w. size_of w < 2 ^ 32) (walked version section)
walked_short version section bytes = all_short (length section) version 0 section bytes
