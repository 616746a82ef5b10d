-- A written unit is found by the walk.
use Rattle.std.proofs.Common.{ℕ, zero, suc, ◌+◌, ◌-◌, ◌^◌, ◌≤◌, ◌<◌, ◌≡◌, ◌==◌, List, [], ◌∷◌, ◌++◌, Some, leb, ◌&&◌, ◌||◌, true, false}
use Rattle.std.proofs.Common.{refl, sym, ◌∙◌, ap, arith, length, take, drop, append_assoc, length-append}
use Rattle.std.specs.Prelude.{not, All}
use Rattle.std.proofs.lemmas.List.Elements.{All-head, All-tail}
use Rattle.std.proofs.lemmas.Bool.Decides.{nat_tests}
use Rattle.std.proofs.lemmas.Grind.{common_steps}
use Rattle.std.proofs.lemmas.List.{drop_at, take_at}
use Rattle.byteorder.specs.Endian.{little_number, little_bytes}
use Rattle.byteorder.specs.Numbers.{little_number-reads_back, length-bytes_low_first}
use Rattle.table_core.specs.DebugUnits.{units_from}
use Rattle.table_core.specs.WrittenUnits.{units_bytes, walked_units, IsUnit}

-- The tests of a unit at the front, by the numbers tested.
tests_whole : (d size : ℕ) → d + 4 ≤ size → d < 2 ^ 32 - 1 → (leb 4 size && not (d == 2 ^ 32 - 1) && leb (d + 4) size) ≡ true
tests_whole d size inside small = grind (arith, nat_tests, common_steps)

tests_other : (d size version : ℕ) → d + 4 ≤ size → d < 2 ^ 32 - 1
    → (leb 4 size && ((d == 2 ^ 32 - 1) || (leb 6 size && leb 2 d && not (version == version)))) ≡ false
tests_other d size version inside small = grind (arith, nat_tests, common_steps)

tests_some : (d : ℕ) → 2 ≤ d → leb 2 d ≡ true
tests_some d some = grind (arith, nat_tests)

pub unit-front : (n version place d : ℕ) (left : List ℕ) → little_number 4 left ≡ d → little_number 2 (drop 4 left) ≡ version
    → d + 4 ≤ length left → 2 ≤ d → d < 2 ^ 32 - 1
    → units_from (suc n) version place left
    ≡ record { place = place; bytes = Some (take d (drop 4 left)); is_other = false } ∷ units_from n version (place + (d + 4))
    (drop (d + 4) left)
unfolding units_from
unit-front n version place d [] is other inside some small = absurd (omega arith)
unit-front n version place d (b ∷ rest) is other inside some small =
    rw (
      is,
      other,
      tests_whole d (length (b ∷ rest)) inside small,
      tests_other d (length (b ∷ rest)) version inside small,
      tests_some d
          some,
    ) refl

behind : (h b rest : List ℕ) (n version place : ℕ) → length h ≡ 4 → little_number 4 (h ++ (b ++ rest)) ≡ length b
    → little_number 2 (b ++ rest) ≡ version → 2 ≤ length b → length b < 2 ^ 32 - 1
    → units_from (suc n) version place (h ++ (b ++ rest))
    ≡ record { place = place; bytes = Some b; is_other = false } ∷ units_from n version (place + (length b + 4)) rest
behind h b rest n version place four is other some small =
    let d4 : drop 4 (h ++ (b ++ rest)) ≡ b ++ rest = drop_at h (b ++ rest) 4 four in
    let size : length (h ++ (b ++ rest)) ≡ length h + (length b + length rest)
    = length-append h (b ++ rest) ∙ ap (λ k. length h + k) (length-append b rest) in
    let rest_is : drop (length b + 4) (h ++ (b ++ rest)) ≡ rest
    = ap (drop (length b + 4)) (sym (append_assoc h b rest))
    ∙ drop_at (h ++ b) rest (length b + 4) (length-append h b ∙ omega (arith, four)) in
    unit-front n version place (length b) (h ++ (b ++ rest)) is (ap (little_number 2) d4 ∙ other) (omega (arith, size, four)) some small
    ∙ ap (λ bytes. record { place = place; bytes = Some bytes; is_other = false } ∷ units_from n version (place + (length b + 4))
    (drop (length b + 4) (h ++ (b ++ rest))))
    (ap (take (length b)) d4 ∙ take_at b rest (length b) refl)
    ∙ ap (λ left. record { place = place; bytes = Some b; is_other = false } ∷ units_from n version (place + (length b + 4)) left) rest_is

-- A unit that is written after its length.
pub unit-back : (b rest : List ℕ) (n version place : ℕ) → little_number 2 (b ++ rest) ≡ version → 2 ≤ length b → length b < 2 ^ 32 - 1
    → units_from (suc n) version place (little_bytes 4 (length b) ++ (b ++ rest))
    ≡ record { place = place; bytes = Some b; is_other = false } ∷ units_from n version (place + (length b + 4)) rest
unit-back b rest n version place other some small =
    behind (little_bytes 4 (length b)) b rest n version place (length-bytes_low_first 0 4 (length b))
    (little_number-reads_back 4 (length b) (b ++ rest) (omega (arith, small))) other some small

pub two-front : (xs ys : List ℕ) → 2 ≤ length xs → little_number 2 (xs ++ ys) ≡ little_number 2 xs
two-front [] ys some = absurd (omega arith)
two-front (x ∷ []) ys some = absurd (omega arith)
two-front (x ∷ y ∷ xs) ys some = refl

-- Lists with the same first four bytes begin with the same number of two bytes.
pub same-front : (lead xs ys : List ℕ) → length lead ≡ 4 → little_number 2 (lead ++ xs) ≡ little_number 2 (lead ++ ys)
same-front lead xs ys e = two-front lead xs (omega (arith, e)) ∙ sym (two-front lead ys (omega (arith, e)))

pub units-back : (version place n : ℕ) (bs : List (List ℕ)) → All (IsUnit version) bs → length (units_bytes bs) ≤ n
    → units_from n version place (units_bytes bs) ≡ walked_units place bs
unfolding units_bytes walked_units units_from
units-back version place zero [] are f = refl
units-back version place (suc n) [] are f = refl
units-back version place zero (b ∷ bs) are f = absurd (omega arith)
units-back version place (suc n) (b ∷ bs) are f =
    let u = All-head (IsUnit version) b bs are in
    unit-back b (units_bytes bs) n version place (two-front b (units_bytes bs) u.some ∙ u.is_version) u.some u.small
    ∙ ap (λ ws. record { place = place; bytes = Some b; is_other = false } ∷ ws)
    (units-back version (place + (length b + 4)) n bs (All-tail (IsUnit version) b bs are)
    (fuel (little_bytes 4 (length b)) b (units_bytes bs) n (length-bytes_low_first 0 4 (length b)) f))
  where
    fuel : (h b rest : List ℕ) (n : ℕ) → length h ≡ 4 → length (h ++ (b ++ rest)) ≤ suc n → length rest ≤ n
    fuel h b rest n four f =
        let size : length (h ++ (b ++ rest)) ≡ length h + (length b + length rest)
        = length-append h (b ++ rest) ∙ ap (λ k. length h + k) (length-append b rest) in
        omega (arith, size, four)
