-- Results of searches in a list by an index of the ranges of its items.
use Rattle.std.proofs.Common.{ℕ, suc, ◌+◌, ◌≡◌, List, [], ◌∷◌, Option, Some, None, Bool, true, false, cond, refl, sym, ◌∙◌, ap, map}
use Rattle.std.proofs.Common.{option_map, arith}
use Rattle.std.specs.Prelude.{find, position, slice_get, option_and_then}
use Rattle.std.specs.List.{position_from}
use Rattle.std.proofs.lemmas.Iterator.Adapters.{position_from-zero}
use Rattle.answer_runs.specs.declared.range.Range.{Range}
use Rattle.answer_runs.specs.AddressRanges.{holds_address}
use Rattle.answer_runs.specs.declared.first_range.FirstRange.{FirstRange}
use Rattle.answer_runs.specs.FirstRanges.{first_range}

position_from-suc : {X : Type 0} (p : X → Bool) (n : ℕ) (xs : List X) → position_from p (n + 1) xs ≡ option_map suc (position_from p n xs)
position_from-suc p n [] = refl
position_from-suc p n (x ∷ xs) = by (p x) (position_from-suc p (n + 1) xs)
  where
    by : (b : Bool) → position_from p (n + 1 + 1) xs ≡ option_map suc (position_from p (n + 1) xs)
        → cond b (Some (n + 1)) (position_from p (n + 1 + 1) xs) ≡ option_map suc (cond b (Some n) (position_from p (n + 1) xs))
    by true e = ap Some (grind arith)
    by false e = e

position_from-map : {X Y : Type 0} (p : Y → Bool) (f : X → Y) (n : ℕ) (xs : List X) →
    position_from p n (map f xs) ≡ position_from (λ x. p (f x)) n xs
position_from-map p f n [] = refl
position_from-map p f n (x ∷ xs) = ap (cond (p (f x)) (Some n)) (position_from-map p f (n + 1) xs)

find-position : {X : Type 0} (p : X → Bool) (xs : List X) → find p xs ≡ option_and_then (slice_get xs) (position_from p 0 xs)
find-position p [] = refl
find-position {X} p (x ∷ xs) = by (p x) (find-position p xs)
  where
    behind : (o : Option ℕ) → option_and_then (slice_get xs) o ≡ option_and_then (slice_get (x ∷ xs)) (option_map suc o)
    behind (Some i) = refl
    behind None = refl

    by : (b : Bool) → find p xs ≡ option_and_then (slice_get xs) (position_from p 0 xs)
        → cond b (Some x) (find p xs) ≡ option_and_then (slice_get (x ∷ xs)) (cond b (Some 0) (position_from p 1 xs))
    by true e = refl
    by false e = e ∙ behind (position_from p 0 xs) ∙ ap (option_and_then (slice_get (x ∷ xs))) (sym (position_from-suc p 0 xs))

-- The first item whose range contains an address has the number that the index gives.
pub found_first : {X : Type 0} (index : FirstRange) (range_of : X → Range) (xs : List X) (a : ℕ)
    → first_range index a ≡ position (holds_address a) (map range_of xs)
    → find (λ x. holds_address a (range_of x)) xs ≡ option_and_then (slice_get xs) (first_range index a)
found_first index range_of xs a is =
    find-position (λ x. holds_address a (range_of x)) xs
    ∙ ap (option_and_then (slice_get xs))
    (sym (is ∙ position_from-zero (holds_address a) (map range_of xs) ∙ position_from-map (holds_address a) range_of 0 xs))
