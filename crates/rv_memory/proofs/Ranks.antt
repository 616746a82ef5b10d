-- Indices in an ascending list of numbers, and values that belong to the numbers.
use Rattle.std.proofs.Common.{◌≡◌, ◌≢◌, ◌∙◌, inl, inr, ℕ, zero, suc, ◌+◌, ◌-◌, ◌<◌, ◌≤◌, Bool, true, false, List, [], ◌∷◌, length}
use Rattle.std.proofs.Common.{get_or, Some, None, refl, sym, ap, arith}
use Rattle.std.specs.Prelude.{◌==◌, if◌then◌else◌, nat_le}
use Rattle.std.specs.List.{insert}
use Rattle.std.proofs.lemmas.Bool.{cases_lt, leb-true, leb-false, eqb-true, eqb-false, eq-eqb, false_from_ne_true}
use Rattle.std.proofs.lemmas.List.Sums.{sum_by-cons}
use Rattle.std.proofs.lemmas.List.Edits.{length-insert, get_or-insert_below, get_or-insert_at, get_or-insert_above}
use Rattle.std.proofs.Math.Nat.{eq-or-lt_of_le}
use Rattle.rb_lanes.specs.Ranks.{rank}
use Rattle.rv_memory.specs.PageIndex.{beside}
use Rattle.std.proofs.lemmas.Grind.{common_steps}

pub record Ascends (xs : List ℕ) : Type 0 where
  pub at : (i j : ℕ) → i < j → j < length xs → get_or xs i 0 < get_or xs j 0

ascends_rest : (x : ℕ) (xs : List ℕ) → Ascends (x ∷ xs) → Ascends xs
ascends_rest x xs up = record { at = λ i j less within. up.at (suc i) (suc j) (omega arith) (omega arith) }

above_first : (x : ℕ) (xs : List ℕ) → Ascends (x ∷ xs) → (k : ℕ) → k < length xs → x < get_or xs k 0
above_first x xs up k within = up.at 0 (suc k) (omega arith) (omega arith)

rank-cons : (x n : ℕ) (xs : List ℕ) → rank (x ∷ xs) n ≡ (if nat_le x n then 1 else 0) + rank xs n
rank-cons x n xs = sum_by-cons (λ y. if nat_le y n then 1 else 0) x xs

rank-low : (x n : ℕ) (xs : List ℕ) → nat_le x n ≡ true → rank (x ∷ xs) n ≡ suc (rank xs n)
rank-low x n xs low = grind (arith, common_steps, rank-cons)

rank-high : (x n : ℕ) (xs : List ℕ) → nat_le x n ≡ false → rank (x ∷ xs) n ≡ rank xs n
rank-high x n xs high = grind (arith, common_steps, rank-cons)

rank_none : (xs : List ℕ) (n : ℕ) → ((k : ℕ) → k < length xs → n < get_or xs k 0) → rank xs n ≡ 0
rank_none [] n above = refl
rank_none (x ∷ xs) n above =
    let first : n < x = above 0 (omega arith) in
    let high : nat_le x n ≡ false = false_from_ne_true (nat_le x n) (λ e. let le = leb-true x n e in absurd (omega arith)) in
    rank-high x n xs high ∙ rank_none xs n (λ k within. above (suc k) (omega arith))

pub rank_most : (xs : List ℕ) (n : ℕ) → rank xs n ≤ length xs
rank_most [] n = omega arith
rank_most (x ∷ xs) n = grind (arith, common_steps, rank-low, rank-high, rank_most xs n)

-- The members before the rank of a number are at most the number.
pub rank_below : (xs : List ℕ) → Ascends xs → (n k : ℕ) → k < rank xs n → get_or xs k 0 ≤ n
rank_below [] up n k low = absurd (omega arith)
rank_below (x ∷ xs) up n k low = cases (rank_below xs (ascends_rest x xs up) n) (nat_le x n) refl k low
  where
    cases : ((j : ℕ) → j < rank xs n → get_or xs j 0 ≤ n) → (t : Bool) → nat_le x n ≡ t → (k : ℕ) → k < rank (x ∷ xs) n →
        get_or (x ∷ xs) k 0 ≤ n
    cases rest true e zero low = leb-true x n e
    cases rest true e (suc j) low = let step = rank-low x n xs e in rest j (omega arith)
    cases rest false e k low =
        let first : n < x = leb-false x n e in
        let none = rank_none xs n (λ j within. let more = above_first x xs up j within in omega arith) in
        let step = rank-high x n xs e in
        absurd (omega arith)

-- The members from the rank on are greater.
pub rank_above : (xs : List ℕ) → Ascends xs → (n k : ℕ) → rank xs n ≤ k → k < length xs → n < get_or xs k 0
rank_above [] up n k high within = absurd (omega arith)
rank_above (x ∷ xs) up n k high within =
    grind (arith, common_steps, ascends_rest, rank-low, leb-false, above_first, rank_above xs (ascends_rest x xs up) n)

-- If the last member before the rank isn't the number, no member is.
pub rank_absent : (xs : List ℕ) → Ascends xs → (n : ℕ) → (0 < rank xs n → get_or xs (rank xs n - 1) 0 ≢ n) →
    (k : ℕ) → k < length xs → get_or xs k 0 ≢ n
rank_absent xs up n other k within is = elim (cases_lt k (rank xs n)) [
  | inl low ↦ elim (eq-or-lt_of_le {n = k} {m = rank xs n - 1} (omega arith)) [
    | inl same ↦ other (omega arith) (ap (λ j. get_or xs j 0) (sym same) ∙ is)
    | inr less ↦ let most = rank_most xs n in
        let up_to = up.at k (rank xs n - 1) less (omega arith) in
        let below = rank_below xs up n (rank xs n - 1) (omega arith) in absurd (omega arith)
  ]
  | inr high ↦ let above = rank_above xs up n k high within in absurd (omega arith)
]

pub beside_at : (xs places : List ℕ) → length places ≡ length xs → (n i : ℕ) → i < length xs → get_or xs i 0 ≡ n →
    ((j : ℕ) → j < i → get_or xs j 0 ≢ n) → beside xs places n ≡ Some (get_or places i 0)
unfolding beside
beside_at [] places paired n i within is first = absurd (omega arith)
beside_at (x ∷ xs) [] paired n i within is first = absurd (omega arith)
beside_at (x ∷ xs) (p ∷ ps) paired n zero within is first = rw (eq-eqb n x (sym is)) refl
beside_at (x ∷ xs) (p ∷ ps) paired n (suc i) within is first =
    let other : (n == x) ≡ false = false_from_ne_true (n == x) (λ e. first 0 (omega arith) (sym (eqb-true n x e))) in
    rw other (beside_at xs ps (omega arith) n i (omega arith) is (λ j less. first (suc j) (omega arith)))

pub beside_none : (xs places : List ℕ) (n : ℕ) → ((j : ℕ) → j < length xs → get_or xs j 0 ≢ n) → beside xs places n ≡ None
unfolding beside
beside_none [] places n absent = refl
beside_none (x ∷ xs) [] n absent = refl
beside_none (x ∷ xs) (p ∷ ps) n absent =
    let other : (n == x) ≡ false = false_from_ne_true (n == x) (λ e. absent 0 (omega arith) (sym (eqb-true n x e))) in
    rw other (beside_none xs ps n (λ j within. absent (suc j) (omega arith)))

pub beside_absent : (xs places : List ℕ) → length places ≡ length xs → (n : ℕ) → beside xs places n ≡ None →
    (j : ℕ) → j < length xs → get_or xs j 0 ≢ n
unfolding beside
beside_absent [] places paired n none j within is = absurd (omega arith)
beside_absent (x ∷ xs) [] paired n none j within is = absurd (omega arith)
beside_absent (x ∷ xs) (p ∷ ps) paired n none j within is = grind (arith, common_steps, eqb-false, beside_absent xs ps (omega arith) n)

pub beside-insert : (xs places : List ℕ) (i n p q : ℕ) → length places ≡ length xs → i ≤ length xs → beside xs places n ≡ None →
    beside (insert xs i n) (insert places i p) q ≡ (if q == n then Some p else beside xs places q)
unfolding beside
beside-insert xs places zero n p q paired within none = refl
beside-insert [] places (suc i) n p q paired within none = absurd (omega arith)
beside-insert (x ∷ xs) [] (suc i) n p q paired within none = absurd (omega arith)
beside-insert (x ∷ xs) (a ∷ ps) (suc i) n p q paired within none =
    let other : (n == x) ≡ false = false_from_ne_true (n == x) (λ e. absurd (let found : Some a ≡ None = rw e at none in cc)) in
    let rest : beside xs ps n ≡ None = rw other at none in
    cases other (beside-insert xs ps i n p q (omega arith) (omega arith) rest) (q == x) (q == n) refl refl
  where
    cases : (n == x) ≡ false →
        beside (insert xs i n) (insert ps i p) q ≡ (if q == n then Some p else beside xs ps q) → (t u : Bool) →
        (q == x) ≡ t → (q == n) ≡ u →
        (if t then Some a else beside (insert xs i n) (insert ps i p) q)
        ≡ (if u then Some p else if t then Some a else beside xs ps q)
    cases other same true true e f = absurd (eqb-false n x other (sym (eqb-true q n f) ∙ eqb-true q x e))
    cases other same true false e f = refl
    cases other same false true e f = same ∙ ap (λ u. if u then Some p else beside xs ps q) f
    cases other same false false e f = same ∙ ap (λ u. if u then Some p else beside xs ps q) f

-- The list with a new number inserted at its rank is ascending.
pub ascends-insert : (xs : List ℕ) (n : ℕ) → Ascends xs → ((k : ℕ) → k < length xs → get_or xs k 0 ≢ n) → (i j : ℕ) → i < j →
    j < length (insert xs (rank xs n) n) → get_or (insert xs (rank xs n) n) i 0 < get_or (insert xs (rank xs n) n) j 0
ascends-insert xs n up absent i j less within =
    let most : rank xs n ≤ length xs = rank_most xs n in
    let longer : length (insert xs (rank xs n) n) ≡ length xs + 1 = length-insert xs (rank xs n) n most in
    elim (cases_lt j (rank xs n)) [
      | inl low ↦
          rw (get_or-insert_below xs (rank xs n) n 0 i (omega arith) most, get_or-insert_below xs (rank xs n) n 0 j low most)
          (up.at i j less (omega arith))
      | inr high ↦ elim (eq-or-lt_of_le high) [
        | inl same ↦ let here : get_or (insert xs (rank xs n) n) j 0 ≡ n =
            ap (λ k. get_or (insert xs (rank xs n) n) k 0) (sym same)
            ∙ get_or-insert_at xs (rank xs n) n 0 most in
            rw here (below i (omega arith))
        | inr more ↦ let last : get_or (insert xs (rank xs n) n) j 0 ≡ get_or xs (j - 1) 0 = after j (omega arith) in
            rw last (elim (cases_lt i (rank xs n)) [
              | inl low ↦ let first = below i low in
                  let top = rank_above xs up n (j - 1) (omega arith) (omega arith) in omega arith
              | inr far ↦ elim (eq-or-lt_of_le far) [
                | inl same ↦ let here : get_or (insert xs (rank xs n) n) i 0 ≡ n =
                    ap (λ k. get_or (insert xs (rank xs n) n) k 0) (sym same) ∙ get_or-insert_at xs (rank xs n) n 0 most in
                    rw here (rank_above xs up n (j - 1) (omega arith) (omega arith))
                | inr farther ↦ rw (after i (omega arith)) (up.at (i - 1) (j - 1) (omega arith) (omega arith))
              ]
            ])
      ]
    ]
  where
    below : (k : ℕ) → k < rank xs n → get_or (insert xs (rank xs n) n) k 0 < n
    below k low =
        let most : rank xs n ≤ length xs = rank_most xs n in
        let at_most = rank_below xs up n k low in
        let other = absent k (omega arith) in
        rw (get_or-insert_below xs (rank xs n) n 0 k low most)
        (elim (eq-or-lt_of_le at_most) [ inl same ↦ absurd (other same) | inr is ↦ is ])

    after : (k : ℕ) → rank xs n < k → get_or (insert xs (rank xs n) n) k 0 ≡ get_or xs (k - 1) 0
    after k high =
        let next : k - 1 + 1 ≡ k = omega arith in
        ap (λ m. get_or (insert xs (rank xs n) n) m 0) (sym next)
        ∙ get_or-insert_above xs (rank xs n) n 0 (k - 1) (omega arith) (rank_most xs n)

-- The value that belongs to a number, by its rank r.
pub beside_found : (xs places : List ℕ) → Ascends xs → length places ≡ length xs → (n r : ℕ) → r ≡ rank xs n → 0 < r →
    get_or xs (r - 1) 0 ≡ n → beside xs places n ≡ Some (get_or places (r - 1) 0)
beside_found xs places up paired n r is some here =
    let most = rank_most xs n in
    beside_at xs places paired n (r - 1) (omega arith) here
    (λ j less same. let before = up.at j (r - 1) less (omega arith) in omega arith)

pub beside_missing : (xs places : List ℕ) → Ascends xs → (n r : ℕ) → r ≡ rank xs n → (0 < r → get_or xs (r - 1) 0 ≢ n) →
    beside xs places n ≡ None
beside_missing xs places up n r is other =
    beside_none xs places n (rank_absent xs up n (λ some same. other (omega arith) (ap (λ k. get_or xs (k - 1) 0) is ∙ same)))
