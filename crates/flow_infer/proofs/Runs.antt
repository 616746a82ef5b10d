-- Runs of equal keys in ordered lists: the part between two binary searches is the result of a filter.
use Rattle.std.proofs.Common.{◌≡◌, ◌∙◌, sym, ap, refl, ℕ, ◌+◌, ◌<◌, ◌≤◌, true, false, nat_le, nat_lt, List, [], ◌∷◌, ◌++◌}
use Rattle.std.proofs.Common.{All, AllPairs, ⊎_elim, take, drop, length, get_or, cond, arith}
use Rattle.std.specs.Prelude.{◌==◌, Bool, filter}
use Rattle.std.specs.List.Sorted.{IsNonDecreasingBy, IsPartitionPoint}
use Rattle.std.proofs.lemmas.Bool.{cases_lt, eq-eqb, ne_eqb, leb-true, leb-false, ltb-true, ltb-false}
use Rattle.std.proofs.lemmas.List.{get_or-drop, get_or-take, length-drop, length-take, take-append-drop, append-nil}
use Rattle.std.proofs.lemmas.List.Elements.{All-head, All-tail, filter-append}
use Rattle.rv_code.specs.layout.Lists.{IsPairBefore}
use Rattle.edge_profile.specs.PairCounts.{Counted, IsCountedBefore}

filter_passing : {A : Type 0} (p : A → Bool) (xs : List A) → All (λ x. p x ≡ true) xs → filter p xs ≡ xs
filter_passing p [] all = refl
filter_passing p (x ∷ xs) all =
    ap (λ (b : Bool). cond b (x ∷ filter p xs) (filter p xs)) (All-head (λ y. p y ≡ true) x xs all)
    ∙ ap (λ ys. x ∷ ys) (filter_passing p xs (All-tail (λ y. p y ≡ true) x xs all))

filter_failing : {A : Type 0} (p : A → Bool) (xs : List A) → All (λ x. p x ≡ false) xs → filter p xs ≡ []
filter_failing p [] all = refl
filter_failing p (x ∷ xs) all =
    ap (λ (b : Bool). cond b (x ∷ filter p xs) (filter p xs)) (All-head (λ y. p y ≡ false) x xs all)
    ∙ filter_failing p xs (All-tail (λ y. p y ≡ false) x xs all)

-- the items that pass a test are at the front, or at the end
module _ {A : Type 0} (p : A → Bool) (xs : List A) (k : ℕ) where
  pub front_filtered : All (λ x. p x ≡ true) (take k xs) → All (λ x. p x ≡ false) (drop k xs) → take k xs ≡ filter p xs
  front_filtered passing failing =
      sym (append-nil (take k xs))
      ∙ sym (λ i. filter_passing p (take k xs) passing i ++ filter_failing p (drop k xs) failing i)
      ∙ sym (filter-append p (take k xs) (drop k xs))
      ∙ ap (filter p) (take-append-drop k xs)

  pub back_filtered : All (λ x. p x ≡ false) (take k xs) → All (λ x. p x ≡ true) (drop k xs) → drop k xs ≡ filter p xs
  back_filtered failing passing =
      sym (λ i. filter_failing p (take k xs) failing i ++ filter_passing p (drop k xs) passing i)
      ∙ sym (filter-append p (take k xs) (drop k xs))
      ∙ ap (filter p) (take-append-drop k xs)

module _ {A : Type 0} (key : A → ℕ) (k : ℕ) where
  abbrev at_key : A → Bool
  at_key x = key x == k

  pub run_filtered : (xs upto found : List A) (n m : ℕ) → upto ≡ take n xs → found ≡ drop m upto → n ≤ length xs →
      IsPartitionPoint (λ x. nat_le (key x) k ≡ true) (λ x. nat_le (key x) k ≡ false) xs n →
      IsPartitionPoint (λ x. nat_lt (key x) k ≡ true) (λ x. nat_lt (key x) k ≡ false) upto m →
      found ≡ filter at_key xs
  run_filtered xs upto found n m front back bound high low =
      back ∙ sym (filter_passing at_key (drop m upto) here)
      ∙ sym (ap (λ ys. ys ++ filter at_key (drop m upto)) (filter_failing at_key (take m upto) before))
      ∙ sym (filter-append at_key (take m upto) (drop m upto))
      ∙ ap (filter at_key) (take-append-drop m upto ∙ front)
      ∙ sym (append-nil (filter at_key (take n xs)))
      ∙ sym (ap (λ ys. filter at_key (take n xs) ++ ys) (filter_failing at_key (drop n xs) after))
      ∙ sym (filter-append at_key (take n xs) (drop n xs))
      ∙ ap (filter at_key) (take-append-drop n xs)
    where
      upto_len : length upto ≡ n
      upto_len = let l = length-take n xs in let l' = ap length front in omega arith

      before : All (λ x. at_key x ≡ false) (take m upto)
      before j d within =
          let l = length-take m upto in
          let at = get_or-take m upto j d (omega arith) in
          let less = ltb-true _ _ (low.0 j d (omega arith) (omega arith)) in
          let same = ap key at in
          let ne : key (get_or (take m upto) j d) ≡ k → ⊥ = λ e. absurd (omega arith) in
          ne_eqb (key (get_or (take m upto) j d)) k ne

      here : All (λ x. at_key x ≡ true) (drop m upto)
      here j d within =
          let l = length-drop m upto in
          let l' = upto_len in
          let at = get_or-drop m upto j d in
          let same = ap key at in
          let at' : get_or upto (m + j) d ≡ get_or xs (m + j) d =
          ap (λ (ys : List A). get_or ys (m + j) d) front ∙ get_or-take n xs (m + j) d (omega arith) in
          let same' = ap key at' in
          let upper = leb-true _ _ (high.0 (m + j) d (omega arith) (omega arith)) in
          let lower = ltb-false _ _ (low.1 (m + j) d (omega arith) (omega arith)) in
          eq-eqb (key (get_or (drop m upto) j d)) k (omega arith)

      after : All (λ x. at_key x ≡ false) (drop n xs)
      after j d within =
          let l = length-drop n xs in
          let at = get_or-drop n xs j d in
          let same = ap key at in
          let more = leb-false _ _ (high.1 (n + j) d (omega arith) (omega arith)) in
          let ne : key (get_or (drop n xs) j d) ≡ k → ⊥ = λ e. absurd (omega arith) in
          ne_eqb (key (get_or (drop n xs) j d)) k ne

-- a key that doesn't fall along the order of a list
module _ {A : Type 0} (R : A → A → Type 0) (key : A → ℕ) (rises : (x y : A) → R x y → key x ≤ key y) where
  pub ordered_rise : (xs : List A) → AllPairs R xs → IsNonDecreasingBy key xs
  ordered_rise xs up i j d upto within = ⊎_elim
      (λ (less : i < j). rises (get_or xs i d) (get_or xs j d) (up i j d less within))
      (λ (more : j ≤ i). let e : i ≡ j = omega arith in let s = ap (λ (k : ℕ). key (get_or xs k d)) e in omega arith)
      (cases_lt i j)

pub pairs_rise : (xs : List (ℕ × ℕ)) → AllPairs IsPairBefore xs → IsNonDecreasingBy (λ e. e.0) xs
pairs_rise = ordered_rise IsPairBefore (λ e. e.0)
    (λ p q. ⊎_elim (λ (below : p.0 < q.0). omega arith) (λ (same, below). omega arith))

pub counted_rise : (xs : List Counted) → AllPairs IsCountedBefore xs → IsNonDecreasingBy (λ p. p.0) xs
counted_rise = ordered_rise IsCountedBefore (λ p. p.0)
    (λ p q. ⊎_elim (λ (below : p.0 < q.0). omega arith) (λ (same, below). omega arith))
