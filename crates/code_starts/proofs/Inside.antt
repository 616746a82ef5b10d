-- The members of an ascending list between two bounds.
use Rattle.std.proofs.Common.{◌≡◌, ◌∙◌, sym, ap, ℕ, ◌+◌, ◌-◌, ◌<◌, ◌≤◌, ⊎_elim, ◌↔◌, List, take, drop, length, slice_index_or, arith}
use Rattle.std.specs.List.{Contains}
use Rattle.std.proofs.lemmas.Bool.{cases_lt}
use Rattle.std.proofs.lemmas.List.{get_or-take, get_or-drop}

pub Contains-between : (xs below inside : List ℕ) (n m low high : ℕ) → below ≡ take n xs →
    inside ≡ drop m below → length below ≡ n →
    length inside + m ≡ length below → n ≤ length xs → ((k d : ℕ) → k < n → slice_index_or xs k d < high) →
    ((k d : ℕ) → n ≤ k → k < length xs → high ≤ slice_index_or xs k d) → ((k d : ℕ) → k < m → slice_index_or below k d < low) →
    ((k d : ℕ) → m ≤ k → k < length below → low ≤ slice_index_or below k d) → (a : ℕ) →
    Contains inside a ↔ (Contains xs a × (low ≤ a) × (a < high))
Contains-between xs below inside n m low high front back front_len back_len bound under over under' over' a = (
  (λ (k, within, there).
      let early : m + k < n = omega arith in
      let at : slice_index_or below (m + k) a ≡ a = sym (in_back k) ∙ there in
      let at' : slice_index_or xs (m + k) a ≡ a = sym (in_front (m + k) early) ∙ at in
      let up = over' (m + k) a (omega arith) (omega arith) in
      let down = under (m + k) a early in
      ((m + k, omega arith, at'), omega arith, omega arith)),
  (λ ((k, within, there), from, to).
      let early : k < n =
      ⊎_elim (λ (less : k < n). less) (λ (more : n ≤ k). let up = over k a more within in absurd (omega arith)) (cases_lt k n) in
      let at : slice_index_or below k a ≡ a = in_front k early ∙ there in
      let late : m ≤ k =
      ⊎_elim (λ (less : k < m). let down = under' k a less in absurd (omega arith)) (λ (more : m ≤ k). more) (cases_lt k m) in
      let e : m + (k - m) ≡ k = omega arith in
      (k - m, omega arith, in_back (k - m) ∙ ap (λ (j : ℕ). slice_index_or below j a) e ∙ at)),
)
  where
    in_back : (k : ℕ) → slice_index_or inside k a ≡ slice_index_or below (m + k) a
    in_back k = ap (λ (ys : List ℕ). slice_index_or ys k a) back ∙ get_or-drop m below k a

    in_front : (k : ℕ) → k < n → slice_index_or below k a ≡ slice_index_or xs k a
    in_front k early = ap (λ (ys : List ℕ). slice_index_or ys k a) front ∙ get_or-take n xs k a early
