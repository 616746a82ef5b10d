-- Sums over some of the pairs of a profile.
use Rattle.std.proofs.Common.{◌≡◌, ◌∙◌, sym, ap, refl, ℕ, ◌+◌, ◌<◌, ◌≤◌, ◌^◌, Bool, true, false, List, [], ◌∷◌, map, cond, arith}
use Rattle.std.proofs.Common.{zero-add, sum_by, if◌then◌else◌}
use Rattle.std.specs.Prelude.{◌&&◌, IsPermutation, filter, not}
use Rattle.std.proofs.lemmas.List.Filters.{sum_by-filter_both}
use Rattle.std.proofs.lemmas.List.Sorted.{sum_by-IsPermutation}
use Rattle.std.proofs.lemmas.List.Sums.{sum_by-cons}
use Rattle.edge_profile.specs.PairCounts.{Counted, total_count}
use Rattle.flow_infer.specs.Sources.{turned}
use Rattle.flow_infer.proofs.Sums.{sum_mapped}

module _ {A : Type 0} (f : A → ℕ) where
  pub sum_filtered : (r q : A → Bool) (xs : List A) →
      sum_by (λ x. if q x then f x else 0) (filter r xs) ≡ sum_by (λ x. if r x && q x then f x else 0) xs
  sum_filtered r q [] = refl
  sum_filtered r q (x ∷ xs) =
      by (r x) (sum_filtered r q xs) ∙ sym (sum_by-cons (λ y. if r y && q y then f y else 0) x xs)
    where
      by : (b : Bool) →
          sum_by (λ y. if q y then f y else 0) (filter r xs) ≡ sum_by (λ y. if r y && q y then f y else 0) xs →
          sum_by (λ y. if q y then f y else 0) (cond b (x ∷ filter r xs) (filter r xs))
          ≡ (if b && q x then f x else 0) + sum_by (λ y. if r y && q y then f y else 0) xs
      by true rest = sum_by-cons (λ y. if q y then f y else 0) x (filter r xs)
          ∙ ap (λ (n : ℕ). (if q x then f x else 0) + n) rest
      by false rest = rest ∙ sym (zero-add (sum_by (λ y. if r y && q y then f y else 0) xs))

  pub sum_chosen_le : (q : A → Bool) (xs : List A) → sum_by (λ x. if q x then f x else 0) xs ≤ sum_by f xs
  sum_chosen_le q [] = omega arith
  sum_chosen_le q (x ∷ xs) =
      let rest = sum_chosen_le q xs in
      let here = at (q x) in
      let a = sum_by-cons (λ y. if q y then f y else 0) x xs in
      let b = sum_by-cons f x xs in
      omega arith
    where
      at : (b : Bool) → (if b then f x else 0) ≤ f x
      at true = omega arith
      at false = omega arith

pub filtered_few : (r : Counted → Bool) (pairs : List Counted) → total_count pairs < 2 ^ 100 → total_count (filter r pairs) < 2 ^ 100
filtered_few r pairs few =
    let both = sum_by-filter_both r (λ p. not (r p)) (λ p. refl) (λ p. p.2) pairs in
    omega (arith, both, few)

pub turned_few : (pairs ends : List Counted) → IsPermutation (map turned pairs) ends → total_count pairs < 2 ^ 100 →
    total_count ends < 2 ^ 100
turned_few pairs ends permuted few =
    let a = sum_by-IsPermutation (λ p. p.2) (map turned pairs) ends permuted in
    let b = sum_mapped (λ p. p.2) turned pairs in
    omega (arith, a, b, few)
