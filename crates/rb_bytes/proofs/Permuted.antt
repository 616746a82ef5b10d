-- Pairs of elements of a list in another order.
use Rattle.std.proofs.Common.{◌≢◌, ◌<◌, ℕ, cond, arith, ◌≡◌, ◌≤◌, ◌∙◌, true, false, List, length, get_or, set, sym, ap}
use Rattle.std.proofs.Common.{⊎_elim, length-set, get_or-set_other, get_or-set_same}
use Rattle.std.specs.Prelude.{◌==◌, AllPairs, IsPermutation}
use Rattle.std.specs.List.{swap}
use Rattle.std.proofs.lemmas.Grind.{common_steps}
use Rattle.std.proofs.lemmas.Bool.{cases_lt, cases_eq, eq-eqb, ne_eqb}
use Rattle.std.proofs.lemmas.List.Edits.{swap_is}
use Rattle.std.proofs.lemmas.List.Sorted.{IsPermutation-keeps}

-- The index of the element that is at index k after the elements at i and j are swapped.
from : ℕ → ℕ → ℕ → ℕ
from i j k = cond (k == j) i (cond (k == i) j k)

from_apart : (i j m n : ℕ) → m ≢ n → from i j m ≢ from i j n
unfolding from
from_apart i j m n ne e = grind (arith, common_steps)

from_inside : (i j k n : ℕ) → i < n → j < n → k < n → from i j k < n
unfolding from
from_inside i j k n a b c = grind (arith, common_steps)

module _ {X : Type 0} where
  at_swap : (xs : List X) (i j k : ℕ) (d : X) → i < length xs → j < length xs → k < length xs
      → get_or (swap xs i j) k d ≡ get_or xs (from i j k) d
  unfolding from
  at_swap xs i j k d a b c =
      let ys = set xs i (get_or xs j d) in
      let long : length ys ≡ length xs = length-set xs i (get_or xs j d) in
      rw (← swap_is xs i j d a b) (⊎_elim
      (λ (same : k ≡ j).
      let inside : j < length ys = omega arith in
      let there : (k == j) ≡ true = eq-eqb k j same in
      rw (there, same) (get_or-set_same ys j (get_or xs i d) d inside))
      (λ (other : k ≢ j). ⊎_elim
      (λ (same : k ≡ i).
      let here : (k == j) ≡ false = ne_eqb k j other in
      let there : (k == i) ≡ true = eq-eqb k i same in
      rw (here, there, get_or-set_other ys j k (get_or xs i d) d other, same) (get_or-set_same xs i (get_or xs j d) d a))
      (λ (apart : k ≢ i).
      let here : (k == j) ≡ false = ne_eqb k j other in
      let there : (k == i) ≡ false = ne_eqb k i apart in
      rw (here, there, get_or-set_other ys j k (get_or xs i d) d other) (get_or-set_other xs i k (get_or xs j d) d apart))
      (cases_eq k i))
      (cases_eq k j))

  -- A symmetric relation of all pairs of elements holds in any order of the list.
  pub AllPairs-permutation : (R : X → X → Type 0) → ((x y : X) → R x y → R y x) → (xs ys : List X) → IsPermutation xs ys
      → AllPairs R xs → AllPairs R ys
  AllPairs-permutation R flip xs ys p all = IsPermutation-keeps xs (AllPairs R) all step ys p
    where
      any_two : (l : List X) → AllPairs R l → (m n : ℕ) (d : X) → m ≢ n → m < length l → n < length l
          → R (get_or l m d) (get_or l n d)
      any_two l each m n d ne a b = ⊎_elim
          (λ (lt : m < n). each m n d lt b)
          (λ (le : n ≤ m). let less : n < m = omega arith in flip (get_or l n d) (get_or l m d) (each n m d less a))
          (cases_lt m n)

      step : (l : List X) (i j : ℕ) → i < length l → j < length l → AllPairs R l → AllPairs R (swap l i j)
      step l i j a b each m n d lt inside =
          let long : length (swap l i j) ≡ length l = ap length (sym (swap_is l i j d a b)) ∙ simp length-set in
          let m_in : m < length l = omega arith in
          let n_in : n < length l = omega arith in
          rw (at_swap l i j m d a b m_in, at_swap l i j n d a b n_in)
          (any_two l each (from i j m) (from i j n) d (from_apart i j m n (λ e. omega arith))
          (from_inside i j m (length l) a b m_in) (from_inside i j n (length l) a b n_in))
