-- The number of items of an ascending list that are below a number.
use Rattle.std.proofs.Common.{ℕ, ◌≡◌, ◌+◌, ◌-◌, ◌<◌, ◌≤◌, ⊎_elim, ap, List, AllPairs, length, slice_index_or, arith}
use Rattle.std.specs.List.Sorted.{IsNonDecreasingBy}
use Rattle.std.proofs.lemmas.Bool.{cases_lt}
use Rattle.std.proofs.lemmas.List.{get_or_default}

module _ {A : Type 0} (key : A → ℕ) (xs : List A) (up : AllPairs (λ x y. key x < key y) xs) where
  pub rising : IsNonDecreasingBy key xs
  rising i j d upto within =
      ⊎_elim
      (λ (less : i < j). let r = up i j d less within in omega arith)
      (λ (more : j ≤ i). let e : i ≡ j = omega arith in let s = ap (λ (k : ℕ). key (slice_index_or xs k d)) e in omega arith)
      (cases_lt i j)

  -- If item n - 1 is below a, so are the items before it.
  pub first_below : (n a : ℕ) (d : A) → 0 < n → n ≤ length xs → key (slice_index_or xs (n - 1) d) < a →
      (k : ℕ) (e : A) → k < n → key (slice_index_or xs k e) < a
  first_below n a d some within less k e early =
      let same : key (slice_index_or xs (n - 1) d) ≡ key (slice_index_or xs (n - 1) e) =
      ap key (get_or_default xs (n - 1) d e (omega arith)) in
      ⊎_elim
      (λ (before : k < n - 1).
      let order : key (slice_index_or xs k e) < key (slice_index_or xs (n - 1) e) = up k (n - 1) e before (omega arith) in
      omega arith)
      (λ (last : n - 1 ≤ k).
      let is : k ≡ n - 1 = omega arith in
      let there = ap (λ (i : ℕ). key (slice_index_or xs i e)) is in
      omega arith)
      (cases_lt k (n - 1))

  -- If item n is not below a, neither are the items after it.
  pub rest_above : (n a : ℕ) (d : A) → n < length xs → a ≤ key (slice_index_or xs n d) →
      (k : ℕ) (e : A) → n ≤ k → k < length xs → a ≤ key (slice_index_or xs k e)
  rest_above n a d within high k e late inside =
      let same : key (slice_index_or xs n d) ≡ key (slice_index_or xs n e) = ap key (get_or_default xs n d e within) in
      ⊎_elim
      (λ (after : n < k).
      let order : key (slice_index_or xs n e) < key (slice_index_or xs k e) = up n k e after inside in
      omega arith)
      (λ (first : k ≤ n).
      let is : k ≡ n = omega arith in
      let there = ap (λ (i : ℕ). key (slice_index_or xs i e)) is in
      omega arith)
      (cases_lt n k)

  -- If the first n items and item n are below a, the first n + 1 are.
  pub next_below : (n a : ℕ) (d : A) → n < length xs → key (slice_index_or xs n d) < a →
      ((k : ℕ) (e : A) → k < n → key (slice_index_or xs k e) < a) →
      (k : ℕ) (e : A) → k < n + 1 → key (slice_index_or xs k e) < a
  next_below n a d within less low k e early =
      ⊎_elim
      (λ (before : k < n). low k e before)
      (λ (last : n ≤ k).
      let same : key (slice_index_or xs n d) ≡ key (slice_index_or xs n e) = ap key (get_or_default xs n d e within) in
      let is : k ≡ n = omega arith in
      let there = ap (λ (i : ℕ). key (slice_index_or xs i e)) is in
      omega arith)
      (cases_lt k n)
