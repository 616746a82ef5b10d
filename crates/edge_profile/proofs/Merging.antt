-- Merging counts one after another.
use Rattle.std.proofs.Common.{◌≡◌, ◌≢◌, ◌<◌, ◌≤◌, ◌+◌, ◌-◌, ◌*◌, ◌^◌, ◌∙◌, ◌⊎◌, ℕ, Bool, true, false, List, [], ◌∷◌}
use Rattle.std.proofs.Common.{◌++◌, length, get_or, set, take, arith, refl, ap, sym, subst, inl, inr, ⊎_elim, All, AllPairs}
use Rattle.std.proofs.Common.{length-set, get_or-set_same, get_or-set_other}
use Rattle.std.specs.Prelude.{◌==◌, ◌&&◌, if◌then◌else◌, not}
use Rattle.std.specs.List.Sorted.{IsPermutation}
use Rattle.std.specs.Ordering.{nat_cmp, is_lt, ordering_then}
use Rattle.std.proofs.lemmas.Bool.{eq-eqb, ne_eqb, eqb-true, lt-ltb, le-ltb, cases_lt, cases_eq, and_parts}
use Rattle.std.proofs.lemmas.List.{get_or_default, take_all}
use Rattle.std.proofs.lemmas.List.Elements.{All-push, All-set}
use Rattle.std.proofs.lemmas.List.Quantifiers.{all_pairs_push}
use Rattle.std.proofs.lemmas.List.Sorted.{sum_by-IsPermutation, length_permutation}
use Rattle.std.proofs.lemmas.List.Sums.{sum_by_push, sum_by_more, sum_by-set}
use Rattle.edge_profile.specs.PairCounts.{Counted, count_among, is_pair, total_count, IsCountedBefore}
use Rattle.edge_profile.specs.Pairs.{IsNotAfter, AreMerged, AddsCount, is_last_pair}
use Rattle.edge_profile.proofs.Neighbours.{all_pairs}

-- Two counts of one pair count as their sum.
added-sum : (from to : ℕ) (x : Counted) (n : ℕ)
    → (if is_pair from to x then x.2 + n else 0) ≡ (if is_pair from to x then x.2 else 0) + (if is_pair from to x then n else 0)
added-sum from to x n = at (is_pair from to x)
  where
    at : (b : Bool) → (if b then x.2 + n else 0) ≡ (if b then x.2 else 0) + (if b then n else 0)
    at true = refl
    at false = refl

is_of-same : (from to : ℕ) (x p : Counted) → x.0 ≡ p.0 → x.1 ≡ p.1 → is_pair from to x ≡ is_pair from to p
is_of-same from to x p e f = λ i. (e i == from) && (f i == to)

module _ (old : List Counted) (k : ℕ) (p d : Counted) (within : k < length old) where
  abbrev pub item : Counted
  item = get_or old k d

  abbrev pub new : List Counted
  new = set old k (item.0, item.1, item.2 + p.2)

  -- the items of the new list have the same addresses as those of the old list
  same_from : (i : ℕ) (e : Counted) → i < length old → (get_or new i e).0 ≡ (get_or old i e).0
  same_from i e inside = ⊎_elim
      (λ (same : i ≡ k).
      rw same (ap (λ (x : Counted). x.0) (get_or-set_same old k (item.0, item.1, item.2 + p.2) e within)
      ∙ ap (λ (x : Counted). x.0) (get_or_default old k d e within)))
      (λ (other : i ≢ k). ap (λ (x : Counted). x.0) (get_or-set_other old k i (item.0, item.1, item.2 + p.2) e other))
      (cases_eq i k)

  same_to : (i : ℕ) (e : Counted) → i < length old → (get_or new i e).1 ≡ (get_or old i e).1
  same_to i e inside = ⊎_elim
      (λ (same : i ≡ k).
      rw same (ap (λ (x : Counted). x.1) (get_or-set_same old k (item.0, item.1, item.2 + p.2) e within)
      ∙ ap (λ (x : Counted). x.1) (get_or_default old k d e within)))
      (λ (other : i ≢ k). ap (λ (x : Counted). x.1) (get_or-set_other old k i (item.0, item.1, item.2 + p.2) e other))
      (cases_eq i k)

  -- a count is added to the pair of one item
  pub added_raised : item.0 ≡ p.0 → item.1 ≡ p.1 → AllPairs IsCountedBefore old → 0 < p.2 → AddsCount old new p
  added_raised e f ordered some = record {
    counts = λ from to.
        let sum = sum_by-set (λ q. if is_pair from to q then q.2 else 0) old k (item.0, item.1, item.2 + p.2) d within in
        let both = added-sum from to item p.2 in
        let own : (if is_pair from to item then p.2 else 0) ≡ (if is_pair from to p then p.2 else 0) =
        ap (λ b. if b then p.2 else 0) (is_of-same from to item p e f) in
        omega (arith, sum, both, own);
    total = let sum = sum_by-set (λ (q : Counted). q.2) old k (item.0, item.1, item.2 + p.2) d within in omega (arith, sum);
    positive = λ all. All-set (λ q. 0 < q.2) old k (item.0, item.1, item.2 + p.2) (omega arith) all;
    ordered = λ i j e less inside.
        let long : length new ≡ length old = length-set old k (item.0, item.1, item.2 + p.2) in
        let j_in : j < length old = omega (arith, long, inside) in
        let i_in : i < length old = omega arith in
        before_both (get_or old i e) (get_or old j e) (get_or new i e) (get_or new j e)
        (same_from i e i_in) (same_to i e i_in) (same_from j e j_in) (same_to j e j_in) (ordered i j e less j_in);
    not_after = λ q after all i e inside.
        let long : length new ≡ length old = length-set old k (item.0, item.1, item.2 + p.2) in
        let i_in : i < length old = omega (arith, long, inside) in
        not_after_same (get_or old i e) (get_or new i e) q (same_from i e i_in) (same_to i e i_in) (all i e i_in);
  }
    where
      before_both : (x y x' y' : Counted) → x'.0 ≡ x.0 → x'.1 ≡ x.1 → y'.0 ≡ y.0 → y'.1 ≡ y.1 →
          IsCountedBefore x y → IsCountedBefore x' y'
      before_both x y x' y' a b c d' (inl less) = inl (omega arith)
      before_both x y x' y' a b c d' (inr (same, less)) = inr (a ∙ same ∙ sym c, omega arith)

      not_after_same : (x x' q : Counted) → x'.0 ≡ x.0 → x'.1 ≡ x.1 → IsNotAfter x q → IsNotAfter x' q
      not_after_same x x' q a b (inl less) = inl (omega arith)
      not_after_same x x' q a b (inr (same, le)) = inr (a ∙ same, omega arith)

-- the test of the last pair, split
last_is : (b c : Bool) → (not b && c) ≡ true → (b ≡ false) × (c ≡ true)
last_is true c is = absurd (cc)
last_is false c is = (refl, is)

-- a count is added to the last pair
pub raised_last : (old : List Counted) (k : ℕ) (x p : Counted) → is_last_pair p.0 p.1 old ≡ true
    → k ≡ length old - 1 → x ≡ get_or old k x
    → AllPairs IsCountedBefore old → 0 < p.2 → AddsCount old (set old k (x.0, x.1, x.2 + p.2)) p
raised_last old k x p last at read ordered some =
    let parts = last_is (length old == 0) (is_pair p.0 p.1 (get_or old (length old - 1) (0, 0, 0))) last in
    let many : length old ≢ 0 = λ e. let t = eq-eqb (length old) 0 e in let f = parts.0 in absurd (cc) in
    let within : k < length old = omega arith in
    let same : get_or old (length old - 1) (0, 0, 0) ≡ get_or old k x =
    ap (λ (j : ℕ). get_or old j (0, 0, 0)) (sym at) ∙ get_or_default old k (0, 0, 0) x within in
    let ends =
    and_parts ((get_or old (length old - 1) (0, 0, 0)).0 == p.0) ((get_or old (length old - 1) (0, 0, 0)).1 == p.1) parts.1 in
    let from = sym (ap (λ (q : Counted). q.0) same) ∙ eqb-true _ _ ends.0 in
    let to = sym (ap (λ (q : Counted). q.1) same) ∙ eqb-true _ _ ends.1 in
    subst (λ (y : Counted). AddsCount old (set old k (y.0, y.1, y.2 + p.2)) p) (sym read)
    (added_raised old k p x within from to ordered some)

-- a pair that doesn't come after another, and isn't the same pair, comes before it
strictly : (x p : Counted) → IsNotAfter x p → is_pair p.0 p.1 x ≡ false → IsCountedBefore x p
strictly x p (inl less) other = inl less
strictly x p (inr (same, le)) other = ⊎_elim
    (λ (less : x.1 < p.1). inr (same, less))
    (λ (more : p.1 ≤ x.1).
    let equal : x.1 ≡ p.1 = omega arith in
    let yes' : is_pair p.0 p.1 x ≡ true = rw (eq-eqb x.0 p.0 same, eq-eqb x.1 p.1 equal) refl in
    absurd (cc))
    (cases_lt x.1 p.1)

then_before : (x y p : Counted) → IsCountedBefore x y → IsNotAfter y p → IsCountedBefore x p
then_before x y p (inl a) (inl b) = inl (omega arith)
then_before x y p (inl a) (inr (e, b)) = inl (omega arith)
then_before x y p (inr (e, a)) (inl b) = inl (omega arith)
then_before x y p (inr (e, a)) (inr (f, b)) = inr (e ∙ f, omega arith)

-- a count of a pair that comes after all others
pub added_pushed : (old : List Counted) (p : Counted) → 0 < p.2 → All (λ q. IsNotAfter q p) old → AllPairs IsCountedBefore old
    → is_last_pair p.0 p.1 old ≡ false → AddsCount old (old ++ p ∷ []) p
added_pushed old p some all ordered other = record {
  counts = λ from to. sum_by_push (λ q. if is_pair from to q then q.2 else 0) old p;
  total = sum_by_push (λ (q : Counted). q.2) old p;
  positive = λ positive. All-push (λ q. 0 < q.2) old p positive some;
  ordered = all_pairs_push IsCountedBefore old p ordered before;
  not_after = λ q after behind. All-push (λ r. IsNotAfter r q) old p behind after;
}
  where
    last_other : 0 < length old → (d : Counted) → is_pair p.0 p.1 (get_or old (length old - 1) d) ≡ false
    last_other some d =
        let many : (length old == 0) ≡ false = ne_eqb (length old) 0 (λ e. omega arith) in
        ap (is_pair p.0 p.1) (get_or_default old (length old - 1) d (0, 0, 0) (omega arith))
        ∙ sym (ap (λ b. not b && is_pair p.0 p.1 (get_or old (length old - 1) (0, 0, 0))) many) ∙ other

    before : (k : ℕ) (d : Counted) → k < length old → IsCountedBefore (get_or old k d) p
    before k d within = ⊎_elim
        (λ (less : k < length old - 1).
        then_before (get_or old k d) (get_or old (length old - 1) d) p (ordered k (length old - 1) d less (omega arith))
        (all (length old - 1) d (omega arith)))
        (λ (more : length old - 1 ≤ k).
        let same : length old - 1 ≡ k = omega arith in
        let differs = last_other (omega arith) d in
        strictly (get_or old k d) p (all k d within) (subst (λ (j : ℕ). is_pair p.0 p.1 (get_or old j d) ≡ false) same differs))
        (cases_lt k (length old - 1))

-- The first i counts are merged, and no later count is of a pair before theirs.
pub record IsMergedTo (said : List Counted) (i : ℕ) (pairs : List Counted) : Type 0 where
  pub counts : (from to : ℕ) → count_among from to pairs ≡ count_among from to (take i said)
  pub bound : total_count pairs ≤ i * 2 ^ 64
  pub positive : All (λ p. 0 < p.2) pairs
  pub ordered : AllPairs IsCountedBefore pairs
  pub not_after : (j : ℕ) (d : Counted) → i ≤ j → j < length said → All (λ p. IsNotAfter p (get_or said j d)) pairs

-- one more count
pub merged_more : (said : List Counted) (i : ℕ) (pairs new : List Counted) (d : Counted)
    → AllPairs IsNotAfter said → i < length said
    → (get_or said i d).2 < 2 ^ 64 → AddsCount pairs new (get_or said i d) → IsMergedTo said i pairs → IsMergedTo said (i + 1) new
merged_more said i pairs new d ordered within small is was =
    let p = get_or said i d in
    record {
      counts = λ from to.
          let one = is.counts from to in
          let before = was.counts from to in
          let more = sum_by_more (λ q. if is_pair from to q then q.2 else 0) said i d within in
          omega (arith, one, before, more);
      bound = omega (arith, is.total, was.bound, small);
      positive = is.positive was.positive;
      ordered = is.ordered;
      not_after = λ j e from inside.
          let same : get_or said i d ≡ get_or said i e = get_or_default said i d e within in
          is.not_after (get_or said j e)
          (subst (λ (q : Counted). IsNotAfter q (get_or said j e)) (sym same) (ordered i j e (omega arith) inside))
          (was.not_after j e (omega arith) inside);
    }

pub merged_all : (said : List Counted) (i : ℕ) (pairs : List Counted) → length said ≤ i → i ≤ length said →
    IsMergedTo said i pairs → AreMerged said pairs
merged_all said i pairs all within is =
    let whole = take_all i said all in
    record {
      counts = λ from to. is.counts from to ∙ ap (count_among from to) whole;
      bound = omega (arith, is.bound);
      positive = is.positive;
      ordered = is.ordered;
    }

-- the order of the counts doesn't matter
pub merged-permutation : (xs ys pairs : List Counted) → IsPermutation xs ys → AreMerged ys pairs → AreMerged xs pairs
merged-permutation xs ys pairs moved is = record {
  counts = λ from to. is.counts from to ∙ sum_by-IsPermutation (λ q. if is_pair from to q then q.2 else 0) xs ys moved;
  bound = let same = length_permutation xs ys moved in omega (arith, is.bound, same);
  positive = is.positive;
  ordered = is.ordered;
}

-- The result of a sort by both addresses.

from_cmp : (a b c d : ℕ) → is_lt (ordering_then (nat_cmp c a) (nat_cmp d b)) ≡ false → (a < c) ⊎ ((a ≡ c) × (b ≤ d))
from_cmp a b c d is = ⊎_elim
    (λ (less : c < a). let e : true ≡ false = rw (lt-ltb c a less) at is in absurd (cc))
    (λ (more : a ≤ c). ⊎_elim
    (λ (up : a < c). inl up)
    (λ (not' : c ≤ a).
    let same : c ≡ a = omega arith in
    ⊎_elim
    (λ (low : d < b). let e : true ≡ false = rw (le-ltb c a more, eq-eqb c a same, lt-ltb d b low) at is in absurd (cc))
    (λ (high : b ≤ d). inr (sym same, high))
    (cases_lt d b))
    (cases_lt a c))
    (cases_lt c a)

not_after_trans : (x y z : Counted) → IsNotAfter x y → IsNotAfter y z → IsNotAfter x z
not_after_trans x y z (inl a) (inl b) = inl (omega arith)
not_after_trans x y z (inl a) (inr (e, b)) = inl (omega arith)
not_after_trans x y z (inr (e, a)) (inl b) = inl (omega arith)
not_after_trans x y z (inr (e, a)) (inr (f, b)) = inr (e ∙ f, omega arith)

pub pairs-sorted : (xs : List Counted)
    → ((k : ℕ) (d : Counted) → 0 ≤ k → k + 1 < length xs
    → is_lt (ordering_then (nat_cmp (get_or xs (k + 1) d).0 (get_or xs k d).0)
    (nat_cmp (get_or xs (k + 1) d).1 (get_or xs k d).1)) ≡ false) → AllPairs IsNotAfter xs
pairs-sorted xs sorted =
    all_pairs IsNotAfter not_after_trans xs
    (λ k e inside. from_cmp (get_or xs k e).0 (get_or xs k e).1 (get_or xs (k + 1) e).0 (get_or xs (k + 1) e).1
    (sorted k e (omega arith) inside))
