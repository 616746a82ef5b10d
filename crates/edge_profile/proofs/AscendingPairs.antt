-- Pairs in order: each occurs once, and can be looked up.
use Rattle.std.proofs.Common.{◌≡◌, ◌≢◌, ◌<◌, ◌≤◌, ◌∙◌, ◌⊎◌, ℕ, suc, zero, Bool, true, false, List, [], ◌∷◌, length, get_or, arith}
use Rattle.std.proofs.Common.{refl, ap, sym, subst, inl, inr, ⊎_elim, All, AllPairs, Contains}
use Rattle.std.specs.Prelude.{◌==◌, ◌&&◌, if◌then◌else◌, sum_by}
use Rattle.std.specs.List.Sorted.{IsPartitionedBy}
use Rattle.std.proofs.lemmas.Bool.{eq-eqb, ne_eqb, eqb-true, lt-ltb, le-ltb, ltb-true, cases_lt, cases_eq}
use Rattle.std.proofs.lemmas.List.{get_or_default}
use Rattle.std.proofs.lemmas.List.Sums.{sum_by-cons}
use Rattle.edge_profile.specs.PairCounts.{Counted, count_among, is_pair, IsCountedBefore, IsCountOf, ArePairs}
use Rattle.edge_profile.specs.Pairs.{IsAscending, IsCountBelow, is_before}

-- Sums in which at most one term isn't 0.

pub sum_none : {X : Type 0} (f : X → ℕ) (xs : List X) →
    ((j : ℕ) (d : X) → j < length xs → f (get_or xs j d) ≡ 0) → sum_by f xs ≡ 0
sum_none f [] none = refl
sum_none f (x ∷ xs) none =
    let first : f x ≡ 0 = none 0 x (omega arith) in
    let rest = sum_none f xs (λ j d within. none (suc j) d (omega arith)) in
    sum_by-cons f x xs ∙ omega (arith, first, rest)

pub sum_only : {X : Type 0} (f : X → ℕ) (xs : List X) (k : ℕ) (d : X) → k < length xs
    → ((j : ℕ) (e : X) → j < length xs → j ≢ k → f (get_or xs j e) ≡ 0) → sum_by f xs ≡ f (get_or xs k d)
sum_only f [] k d within others = absurd (omega arith)
sum_only f (x ∷ xs) zero d within others =
    let rest = sum_none f xs (λ j e inside. others (suc j) e (omega arith) (λ is. omega arith)) in
    sum_by-cons f x xs ∙ omega (arith, rest)
sum_only f (x ∷ xs) (suc k) d within others =
    let first : f x ≡ 0 = others 0 x (omega arith) (λ is. omega arith) in
    let rest = sum_only f xs k d (omega arith) (λ j e inside ne. others (suc j) e (omega arith) (λ is. ne (omega arith))) in
    sum_by-cons f x xs ∙ omega (arith, first, rest)

-- a positive sum has a positive term
pub record HasPositive {X : Type 0} (f : X → ℕ) (xs : List X) : Type 0 where
  pub place : ℕ
  pub item : X
  pub within : place < length xs
  pub is : get_or xs place item ≡ item
  pub positive : 0 < f item

pub positive_term : {X : Type 0} (f : X → ℕ) (xs : List X) → 0 < sum_by f xs → HasPositive f xs
positive_term f [] positive = absurd (omega arith)
positive_term f (x ∷ xs) positive = ⊎_elim
    (λ (some : 0 < f x). record { place = 0; item = x; within = omega arith; is = refl; positive = some })
    (λ (none : f x ≤ 0).
    let more : 0 < sum_by f xs = omega (arith, sum_by-cons f x xs) in
    let rest = positive_term f xs more in
    record {
      place = suc rest.place;
      item = rest.item;
      within = let inside = rest.within in omega arith;
      is = rest.is;
      positive = rest.positive;
    })
    (cases_lt 0 (f x))

-- The order, as a test and as a fact.

pub before_from_test : (x y : Counted) → is_before x y ≡ true → IsCountedBefore x y
before_from_test x y is = ⊎_elim
    (λ (less : x.0 < y.0). inl less)
    (λ (more : y.0 ≤ x.0). ⊎_elim
    (λ (same : x.0 ≡ y.0). inr (same, ltb-true x.1 y.1 (sym (rw (le-ltb x.0 y.0 more, eq-eqb x.0 y.0 same) refl) ∙ is)))
    (λ (other : x.0 ≢ y.0).
    let none : is_before x y ≡ false = rw (le-ltb x.0 y.0 more, ne_eqb x.0 y.0 other) refl in
    absurd (cc))
    (cases_eq x.0 y.0))
    (cases_lt x.0 y.0)

pub before_test : (x y : Counted) → IsCountedBefore x y → is_before x y ≡ true
before_test x y (inl less) = rw (lt-ltb x.0 y.0 less) refl
before_test x y (inr (same, less)) = rw (le-ltb x.0 y.0 (omega arith), eq-eqb x.0 y.0 same, lt-ltb x.1 y.1 less) refl

pub ascending_pairs : (pairs : List Counted) → AllPairs IsCountedBefore pairs → IsAscending pairs
ascending_pairs pairs ordered i j d less within = before_test (get_or pairs i d) (get_or pairs j d) (ordered i j d less within)

ordered_pairs : (pairs : List Counted) → IsAscending pairs → AllPairs IsCountedBefore pairs
ordered_pairs pairs ascending i j d less within =
    before_from_test (get_or pairs i d) (get_or pairs j d) (ascending i j d less within)

before_trans : (x y z : Counted) → IsCountedBefore x y → IsCountedBefore y z → IsCountedBefore x z
before_trans x y z (inl a) (inl b) = inl (omega arith)
before_trans x y z (inl a) (inr (e, b)) = inl (omega arith)
before_trans x y z (inr (e, a)) (inl b) = inl (omega arith)
before_trans x y z (inr (e, a)) (inr (f, b)) = inr (e ∙ f, omega arith)

-- a pair that comes before another isn't the same pair, and neither is one that comes after it
other_before : (x y : Counted) → IsCountedBefore x y → is_pair y.0 y.1 x ≡ false
other_before x y (inl less) = rw (ne_eqb x.0 y.0 (λ e. omega arith)) refl
other_before x y (inr (same, less)) = rw (eq-eqb x.0 y.0 same, ne_eqb x.1 y.1 (λ e. omega arith)) refl

other_after : (x y : Counted) → IsCountedBefore y x → is_pair y.0 y.1 x ≡ false
other_after x y (inl less) = rw (ne_eqb x.0 y.0 (λ e. omega arith)) refl
other_after x y (inr (same, less)) = rw (eq-eqb x.0 y.0 (sym same), ne_eqb x.1 y.1 (λ e. omega arith)) refl

zero_of : (b : Bool) (n : ℕ) → b ≡ false → (if b then n else 0) ≡ 0
zero_of true n is = absurd (cc)
zero_of false n is = refl

pub partitioned : (pairs : List Counted) → IsAscending pairs → (q : Counted) → IsPartitionedBy (λ p. is_before p q) pairs
partitioned pairs ascending q i j d le within last = ⊎_elim
    (λ (less : i < j).
    before_test (get_or pairs i d) q
    (before_trans (get_or pairs i d) (get_or pairs j d) q (ordered_pairs pairs ascending i j d less within)
    (before_from_test (get_or pairs j d) q last)))
    (λ (more : j ≤ i). let same : j ≡ i = omega arith in subst (λ (k : ℕ). is_before (get_or pairs k d) q ≡ true) same last)
    (cases_lt i j)

-- Looking a pair up.

pub count_none : (pairs : List Counted) (from to k : ℕ) → IsCountBelow pairs from to k → k ≡ length pairs →
    count_among from to pairs ≡ 0
count_none pairs from to k is all =
    sum_none (λ p. if is_pair from to p then p.2 else 0) pairs
    (λ j d within.
    zero_of (is_pair from to (get_or pairs j d)) (get_or pairs j d).2
    (other_before (get_or pairs j d) (from, to, 0)
    (before_from_test (get_or pairs j d) (from, to, 0) (is.below j d (omega arith)))))

-- if a pair doesn't come before another, the pairs after it are other pairs
after_not_before : (x q : Counted) → is_before x q ≡ false → (y : Counted) → IsCountedBefore x y → is_pair q.0 q.1 y ≡ false
after_not_before x q not' y up = ⊎_elim
    (λ (here : (y.0 ≡ q.0) × (y.1 ≡ q.1)).
    let before : is_before x q ≡ true = before_test x q (before_same x y q here.0 here.1 up) in
    absurd (cc))
    (λ other. other)
    (either (y.0 == q.0) (y.1 == q.1) refl refl)
  where
    before_same : (x y q : Counted) → y.0 ≡ q.0 → y.1 ≡ q.1 → IsCountedBefore x y → IsCountedBefore x q
    before_same x y q e f (inl less) = inl (omega arith)
    before_same x y q e f (inr (same, less)) = inr (same ∙ e, omega arith)

    either : (a b : Bool) → (y.0 == q.0) ≡ a → (y.1 == q.1) ≡ b → ((y.0 ≡ q.0) × (y.1 ≡ q.1)) ⊎ ((a && b) ≡ false)
    either true true e f = inl (eqb-true y.0 q.0 e, eqb-true y.1 q.1 f)
    either true false e f = inr refl
    either false b e f = inr refl

pub count_at : (pairs : List Counted) → IsAscending pairs → (from to k : ℕ) → IsCountBelow pairs from to k
    → (d : Counted) → k < length pairs
    → count_among from to pairs ≡ (if is_pair from to (get_or pairs k d) then (get_or pairs k d).2 else 0)
count_at pairs ascending from to k is d within =
    sum_only (λ p. if is_pair from to p then p.2 else 0) pairs k d within
    (λ j e inside ne. zero_of (is_pair from to (get_or pairs j e)) (get_or pairs j e).2 (other j e inside ne))
  where
    other : (j : ℕ) (e : Counted) → j < length pairs → j ≢ k → is_pair from to (get_or pairs j e) ≡ false
    other j e inside ne = ⊎_elim
        (λ (less : j < k). other_before (get_or pairs j e) (from, to, 0)
        (before_from_test (get_or pairs j e) (from, to, 0) (is.below j e less)))
        (λ (more : k ≤ j).
        after_not_before (get_or pairs k e) (from, to, 0) (is.above k e (omega arith) within) (get_or pairs j e)
        (ordered_pairs pairs ascending k j e (omega arith) inside))
        (cases_lt j k)

-- The pairs in order are all pairs with positive counts.

count_of_item : (pairs : List Counted) → IsAscending pairs → (k : ℕ) (d : Counted) → k < length pairs
    → count_among (get_or pairs k d).0 (get_or pairs k d).1 pairs ≡ (get_or pairs k d).2
count_of_item pairs ascending k d within =
    sum_only (λ p. if is_pair x.0 x.1 p then p.2 else 0) pairs k d within
    (λ j e inside ne. zero_of (is_pair x.0 x.1 (get_or pairs j e)) (get_or pairs j e).2 (other j e inside ne))
    ∙ ap (λ b. if b then x.2 else 0) own
  where
    x : Counted
    x = get_or pairs k d

    own : is_pair x.0 x.1 x ≡ true
    own = rw (eq-eqb x.0 x.0 refl, eq-eqb x.1 x.1 refl) refl

    other : (j : ℕ) (e : Counted) → j < length pairs → j ≢ k → is_pair x.0 x.1 (get_or pairs j e) ≡ false
    other j e inside ne =
        let same : get_or pairs k e ≡ x = get_or_default pairs k e d within in
        subst (λ (y : Counted). is_pair y.0 y.1 (get_or pairs j e) ≡ false) same
        (⊎_elim
        (λ (less : j < k). other_before (get_or pairs j e) (get_or pairs k e) (ordered_pairs pairs ascending j k e less within))
        (λ (more : k ≤ j). other_after (get_or pairs j e) (get_or pairs k e)
        (ordered_pairs pairs ascending k j e (omega arith) inside))
        (cases_lt j k))

pub are_pairs : (pairs : List Counted) → IsAscending pairs → All (λ p. 0 < p.2) pairs →
    ArePairs (λ from to. count_among from to pairs) pairs
are_pairs pairs ascending positive = record {
  only = λ p contained.
      let is = contained.2 in
      subst (λ (q : Counted). IsCountOf (λ from to. count_among from to pairs) q) is
      (positive contained.0 p contained.1, count_of_item pairs ascending contained.0 p contained.1);
  each = λ p is. found p is
      (positive_term (λ q. if is_pair p.0 p.1 q then q.2 else 0) pairs (let some = is.0 in let sum = is.1 in omega arith));
  ordered = ordered_pairs pairs ascending;
}
  where
    ends : (b c : Bool) (n : ℕ) → 0 < (if b && c then n else 0) → (b ≡ true) × (c ≡ true)
    ends true true n some = (refl, refl)
    ends true false n some = absurd (omega arith)
    ends false c n some = absurd (omega arith)

    found : (p : Counted) → IsCountOf (λ from to. count_among from to pairs) p →
        HasPositive (λ q. if is_pair p.0 p.1 q then q.2 else 0) pairs → Contains pairs p
    found p is term =
        let x = term.item in
        let both = ends (x.0 == p.0) (x.1 == p.1) x.2 term.positive in
        let from : x.0 ≡ p.0 = eqb-true x.0 p.0 both.0 in
        let to : x.1 ≡ p.1 = eqb-true x.1 p.1 both.1 in
        let own : count_among x.0 x.1 pairs ≡ x.2 =
        subst (λ (y : Counted). count_among y.0 y.1 pairs ≡ y.2) term.is
        (count_of_item pairs ascending term.place x term.within) in
        let count : x.2 ≡ p.2 = sym own ∙ (λ i. count_among (from i) (to i) pairs) ∙ is.1 in
        let same : x ≡ p = λ i. (from i, to i, count i) in
        subst (λ (q : Counted). Contains pairs q) same (term.place, term.within, term.is)
