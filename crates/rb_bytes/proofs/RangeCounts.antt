-- The number of members of an ascending list that are in a range.
use Rattle.std.proofs.Common.{◌≡◌, ℕ, zero, suc, ◌+◌, ◌-◌, ◌<◌, ◌≤◌, ◌∙◌, Bool, true, false, cond, List, [], ◌∷◌, length, get_or, map}
use Rattle.std.proofs.Common.{All, AllPairs, arith, refl, sym, ap, filter}
use Rattle.std.specs.Prelude.{◌&&◌, nat_lt, nat_le}
use Rattle.std.specs.List.Sorted.{IsPermutation}
use Rattle.std.specs.List.{sum_by}
use Rattle.std.proofs.lemmas.Bool.{lt-ltb, ltb-false, ltb-true}
use Rattle.std.proofs.lemmas.Grind.{common_steps}
use Rattle.std.proofs.lemmas.List.Sums.{sum_by-cons}
use Rattle.std.proofs.lemmas.List.Sorted.{sum_by-IsPermutation}

-- The number of members that pass a test.
abbrev pub count : {X : Type 0} → (X → Bool) → List X → ℕ
count p xs = length (filter p xs)

-- 1 if a member passes, and 0 otherwise.
abbrev pub one : Bool → ℕ
one b = cond b 1 0

pub count-cons : {X : Type 0} (p : X → Bool) (x : X) (xs : List X) → count p (x ∷ xs) ≡ one (p x) + count p xs
count-cons p x xs = by (p x) where
  by : (b : Bool) → length (cond b (x ∷ filter p xs) (filter p xs)) ≡ one b + count p xs
  by true = omega arith
  by false = omega arith

pub count-map : {X Y : Type 0} (p : Y → Bool) (f : X → Y) (xs : List X) → count p (map f xs) ≡ count (λ x. p (f x)) xs
count-map p f [] = refl
count-map p f (x ∷ xs) =
    let a = count-cons p (f x) (map f xs) in
    let b = count-cons (λ x. p (f x)) x xs in
    let c = count-map p f xs in
    omega (arith, a, b, c)

pub count-sum : {X : Type 0} (p : X → Bool) (xs : List X) → count p xs ≡ sum_by (λ x. one (p x)) xs
count-sum p [] = refl
count-sum p (x ∷ xs) =
    let a = count-cons p x xs in
    let b = sum_by-cons (λ x. one (p x)) x xs in
    let c = count-sum p xs in
    omega (arith, a, b, c)

pub count-permutation : {X : Type 0} (p : X → Bool) (xs ys : List X) → IsPermutation xs ys → count p ys ≡ count p xs
count-permutation p xs ys same =
    count-sum p ys ∙ sum_by-IsPermutation (λ x. one (p x)) xs ys same ∙ sym (count-sum p xs)

pub count-none : {X : Type 0} (p : X → Bool) (xs : List X) → ((x : X) → p x ≡ false) → count p xs ≡ 0
count-none p [] no_one = refl
count-none p (x ∷ xs) no_one =
    let a = count-cons p x xs in
    let b : one (p x) ≡ 0 = rw (no_one x) refl in
    let c = count-none p xs no_one in
    omega (arith, a, b, c)

-- The members before index k pass and the others don't.
pub count-partition : {X : Type 0} (p : X → Bool) (xs : List X) (k : ℕ) → k ≤ length xs →
    ((i : ℕ) (d : X) → i < k → p (get_or xs i d) ≡ true) →
    ((i : ℕ) (d : X) → k ≤ i → i < length xs → p (get_or xs i d) ≡ false) → count p xs ≡ k
count-partition p [] k within low high = omega (arith, within)
count-partition p (x ∷ xs) zero within low high =
    let a = count-cons p x xs in
    let b : one (p x) ≡ 0 = rw (high 0 x (omega arith) (omega arith)) refl in
    let c = count-partition p xs 0 (omega arith) (λ i d less. absurd (omega (arith, less)))
    (λ i d from less. high (suc i) d (omega arith) (omega (arith, less))) in
    omega (arith, a, b, c)
count-partition p (x ∷ xs) (suc k) within low high =
    let a = count-cons p x xs in
    let b : one (p x) ≡ 1 = rw (low 0 x (omega arith)) refl in
    let c = count-partition p xs k (omega (arith, within)) (λ i d less. low (suc i) d (omega (arith, less)))
    (λ i d from less. high (suc i) d (omega (arith, from)) (omega (arith, less))) in
    omega (arith, a, b, c)

-- The numbers strictly inside a range are those below its end without those up to its start.
module _ (low high : ℕ) (some : low < high) where
  inside_one : (n : ℕ) → one (nat_lt low n && nat_lt n high) + one (nat_le n low) ≡ one (nat_lt n high)
  inside_one n = grind (arith, common_steps)

  pub count-inside : (xs : List ℕ) →
      count (λ n. nat_lt low n && nat_lt n high) xs + count (λ n. nat_le n low) xs ≡ count (λ n. nat_lt n high) xs
  count-inside [] = refl
  count-inside (x ∷ xs) =
      let a = count-cons (λ n. nat_lt low n && nat_lt n high) x xs in
      let b = count-cons (λ n. nat_le n low) x xs in
      let c = count-cons (λ n. nat_lt n high) x xs in
      let d = inside_one x in
      let e = count-inside xs in
      omega (arith, a, b, c, d, e)

pub none_inside : (low high n : ℕ) → high ≤ low → (nat_lt low n && nat_lt n high) ≡ false
none_inside low high n no_room = grind (arith, common_steps)

-- Each member covers numbers from its start on, and the members follow each other.
module _ {B : Type 0} (start : B → ℕ) (has : B → Bool) (low high : ℕ) (some : low < high) where
  pub record AreStretches (xs : List B) : Type 0 where
    pub inside : All (λ b. low ≤ start b → start b < high → has b ≡ true) xs
    pub above : All (λ b. high ≤ start b → has b ≡ false) xs
    pub before : AllPairs (λ b c. start c ≤ low → has b ≡ false) xs
    pub rise : AllPairs (λ b c. start b < start c) xs

  tail : (x : B) (xs : List B) → AreStretches (x ∷ xs) → AreStretches xs
  tail x xs are = record {
    inside = λ k d less. are.inside (suc k) d (omega (arith, less));
    above = λ k d less. are.above (suc k) d (omega (arith, less));
    before = λ i j d less within. are.before (suc i) (suc j) d (omega (arith, less)) (omega (arith, within));
    rise = λ i j d less within. are.rise (suc i) (suc j) d (omega (arith, less)) (omega (arith, within));
  }

  abbrev pub below : ℕ → List B → ℕ
  below n xs = count (λ b. nat_lt (start b) n) xs

  pub below_up : (xs : List B) → below low xs ≤ below high xs
  below_up [] = omega arith
  below_up (x ∷ xs) =
      let a = count-cons (λ b. nat_lt (start b) low) x xs in
      let b = count-cons (λ b. nat_lt (start b) high) x xs in
      let c : one (nat_lt (start x) low) ≤ one (nat_lt (start x) high) = grind (arith, common_steps) in
      let d = below_up xs in
      omega (arith, a, b, c, d)

  -- The members in the range are those that start in it, and possibly the last one that starts before it.
  pub record IsCounted (xs : List B) : Type 0 where
    pub none_before : below low xs ≡ 0 → count has xs ≡ below high xs
    pub some_before : (d : B) → 0 < below low xs →
        count has xs + below low xs ≡ below high xs + one (has (get_or xs (below low xs - 1) d))

  -- If the first member starts at `low` or above, no member starts below `low`.
  none_below : (x : B) (xs : List B) → AreStretches (x ∷ xs) → low ≤ start x → below low xs ≡ 0
  none_below x xs are from =
      count-partition (λ b. nat_lt (start b) low) xs 0 (omega arith) (λ i d less. absurd (omega (arith, less)))
      (λ i d up within.
      let rise = are.rise 0 (suc i) d (omega arith) (omega (arith, within)) in
      let past : low ≤ start (get_or xs i d) = omega (arith, rise, from) in
      not_below (start (get_or xs i d)) past)
    where
      not_below : (n : ℕ) → low ≤ n → nat_lt n low ≡ false
      not_below n past = grind (arith, common_steps)

  -- If a later member starts below `low`, the first one has nothing in the range.
  passed : (x : B) (xs : List B) → AreStretches (x ∷ xs) → 0 < below low xs → has x ≡ false
  passed x [] are some_below = absurd (omega (arith, some_below))
  passed x (y ∷ ys) are some_below = by (nat_lt (start y) low) refl where
    by : (b : Bool) → nat_lt (start y) low ≡ b → has x ≡ false
    by true e = are.before 0 1 x (omega arith) (omega arith) (let less = ltb-true (start y) low e in omega (arith, less))
    by false e =
        let a = count-cons (λ b. nat_lt (start b) low) y ys in
        let b : one (nat_lt (start y) low) ≡ 0 = rw e refl in
        let c = none_below y ys (tail x (y ∷ ys) are) (ltb-false (start y) low e) in
        absurd (omega (arith, a, b, c, some_below))

  one_more : (x : B) (xs : List B) → AreStretches (x ∷ xs) → IsCounted xs → IsCounted (x ∷ xs)
  one_more x xs are rest = by (nat_lt (start x) low) refl where
    all : count has (x ∷ xs) ≡ one (has x) + count has xs
    all = count-cons has x xs

    lows : below low (x ∷ xs) ≡ one (nat_lt (start x) low) + below low xs
    lows = count-cons (λ b. nat_lt (start b) low) x xs

    highs : below high (x ∷ xs) ≡ one (nat_lt (start x) high) + below high xs
    highs = count-cons (λ b. nat_lt (start b) high) x xs

    at_or_above : low ≤ start x → has x ≡ nat_lt (start x) high
    at_or_above from = within (nat_lt (start x) high) refl where
      within : (b : Bool) → nat_lt (start x) high ≡ b → has x ≡ b
      within true e = are.inside 0 x (omega arith) from (ltb-true (start x) high e)
      within false e = are.above 0 x (omega arith) (ltb-false (start x) high e)

    last_one : (n : ℕ) → below low xs ≡ n → (d : B) → start x < low →
        count has (x ∷ xs) + suc n ≡ below high (x ∷ xs) + one (has (get_or (x ∷ xs) n d))
    last_one zero e d less =
        let a = rest.none_before e in
        let b : one (nat_lt (start x) high) ≡ 1 = rw (lt-ltb (start x) high (omega (arith, less, some))) refl in
        omega (arith, all, highs, a, b)
    last_one (suc n) e d less =
        let a = rest.some_before d (omega (arith, e)) in
        let b : one (nat_lt (start x) high) ≡ 1 = rw (lt-ltb (start x) high (omega (arith, less, some))) refl in
        let c : one (has x) ≡ 0 = rw (passed x xs are (omega (arith, e))) refl in
        let place : below low xs - 1 ≡ n = omega (arith, e) in
        let f = ap (λ (k : ℕ). one (has (get_or xs k d))) place in
        omega (arith, all, highs, a, b, c, e, f)

    by : (b : Bool) → nat_lt (start x) low ≡ b → IsCounted (x ∷ xs)
    by true e =
        let one_low : one (nat_lt (start x) low) ≡ 1 = rw e refl in
        record {
          none_before = λ none. absurd (omega (arith, lows, one_low, none));
          some_before = λ d less.
              let a = last_one (below low xs) refl d (ltb-true (start x) low e) in
              let place : below low (x ∷ xs) - 1 ≡ below low xs = omega (arith, lows, one_low) in
              let b = ap (λ (k : ℕ). one (has (get_or (x ∷ xs) k d))) place in
              omega (arith, lows, one_low, a, b);
        }
    by false e =
        let from = ltb-false (start x) low e in
        let one_low : one (nat_lt (start x) low) ≡ 0 = rw e refl in
        let none = none_below x xs are from in
        let a = rest.none_before none in
        let b : one (has x) ≡ one (nat_lt (start x) high) = ap one (at_or_above from) in
        record {
          none_before = λ zero_below. omega (arith, all, highs, a, b);
          some_before = λ d less. absurd (omega (arith, lows, one_low, none, less));
        }

  pub counted : (xs : List B) → AreStretches xs → IsCounted xs
  counted [] are = record { none_before = λ e. refl; some_before = λ d less. absurd (omega (arith, less)) }
  counted (x ∷ xs) are = one_more x xs are (counted xs (tail x xs are))

pub count-length : {X : Type 0} (p : X → Bool) (xs : List X) → count p xs ≤ length xs
count-length p [] = omega arith
count-length p (x ∷ xs) =
    let a = count-cons p x xs in
    let b = one_small (p x) in
    let c = count-length p xs in
    omega (arith, a, b, c)
  where
    one_small : (b : Bool) → one b ≤ 1
    one_small true = omega arith
    one_small false = omega arith
