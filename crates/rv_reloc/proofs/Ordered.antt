-- Items sorted by place and class, and the only item with a place and class.
use Rattle.std.proofs.Common.{◌≡◌, ◌≢◌, ◌∙◌, sym, subst, ap, refl, ℕ, zero, suc, ◌+◌, ◌-◌, ◌<◌, ◌≤◌, ◌⊎◌, inl, inr, ⊎_elim, Bool, true}
use Rattle.std.proofs.Common.{false, not, ◌&&◌, ◌||◌, ◌==◌, nat_lt, IsTrue, ◌↔◌, cond, List, [], ◌∷◌, length, slice_index_or, arith}
use Rattle.std.specs.List.{Any, count_by}
use Rattle.std.specs.List.Sorted.{IsPartitionedBy}
use Rattle.std.specs.Ordering.{nat_cmp, is_lt, ordering_then}
use Rattle.std.proofs.lemmas.Bool.{cases_lt, cases_eq, lt-ltb, le-ltb, eq-eqb, ne_eqb}
use Rattle.std.proofs.lemmas.List.{get_or_default}
use Rattle.std.proofs.lemmas.List.Sums.{sum_by-cons}
use Rattle.rv_reloc.specs.declared.records.Record.{Record}
use Rattle.elf_code.specs.Cells.{IsOnly}
use Rattle.rv_reloc.specs.Records.{class_of, IsBelow, IsFrom, AreInOrder, has_key, IsSplit, HasKeyAt}
use Rattle.rv_reloc.proofs.Lexicographic.{number_up, then_up, less_trans, AllPairs-from_next}

below_or_from : (p q c d : ℕ) → ((p < q) ⊎ ((p ≡ q) × (c < d))) ⊎ ((q < p) ⊎ ((q ≡ p) × (d ≤ c)))
below_or_from p q c d =
    ⊎_elim
    (λ (less : p < q). inl (inl less))
    (λ (more : q ≤ p). ⊎_elim
    (λ (same : p ≡ q). ⊎_elim (λ (low : c < d). inl (inr (same, low)))
    (λ (high : d ≤ c). inr (inr (sym same, high))) (cases_lt c d))
    (λ (differ : p ≢ q). inr (inl (omega arith)))
    (cases_eq p q))
    (cases_lt p q)

from_trans : (x y z : Record) → IsFrom x.place (class_of x) y → IsFrom y.place (class_of y) z → IsFrom x.place (class_of x) z
from_trans x y z =
    less_trans x.place y.place z.place (class_of x ≤ class_of y) (class_of y ≤ class_of z)
    (class_of x ≤ class_of z) (λ p q. omega arith)

pub AreInOrder-sorted : (xs : List Record) →
    ((k : ℕ) (d : Record) → 0 ≤ k → k + 1 < length xs →
    is_lt (ordering_then (nat_cmp (slice_index_or xs (k + 1) d).place (slice_index_or xs k d).place)
    (nat_cmp (class_of (slice_index_or xs (k + 1) d)) (class_of (slice_index_or xs k d)))) ≡ false) →
    AreInOrder xs
AreInOrder-sorted xs sorted =
    AllPairs-from_next (λ q r. IsFrom q.place (class_of q) r) from_trans xs
    (λ k d inside.
    let x = slice_index_or xs k d in
    let y = slice_index_or xs (k + 1) d in
    then_up x.place y.place (nat_cmp (class_of y) (class_of x)) (class_of x ≤ class_of y) (number_up (class_of x) (class_of y))
    (sorted k d (omega arith) inside))

-- The number of items with a place and class.

pub has_key-true : (place class : ℕ) (x : Record) → IsTrue (has_key place class x) → (x.place ≡ place) × ((class_of x) ≡ class)
has_key-true place class x is =
    ⊎_elim
    (λ (p : x.place ≡ place). ⊎_elim (λ (c : (class_of x) ≡ class). (p, c))
    (λ (c : (class_of x) ≢ class).
    let e : false ≡ true = rw (eq-eqb x.place place p, ne_eqb (class_of x) class c) at is in absurd (cc))
    (cases_eq (class_of x) class))
    (λ (p : x.place ≢ place). let e : false ≡ true = rw (ne_eqb x.place place p) at is in absurd (cc))
    (cases_eq x.place place)

pub has_key-same : (place class : ℕ) (x : Record) → x.place ≡ place → (class_of x) ≡ class → has_key place class x ≡ true
has_key-same place class x p c = rw (eq-eqb x.place place p, eq-eqb (class_of x) class c) refl

pub has_key-other : (place class : ℕ) (x : Record) → ((x.place ≡ place) × ((class_of x) ≡ class) → ⊥) →
    has_key place class x ≡ false
has_key-other place class x differ = by (has_key place class x) refl
  where
    by : (b : Bool) → has_key place class x ≡ b → has_key place class x ≡ false
    by true is = absurd (differ (has_key-true place class x is))
    by false is = is

abbrev pub one_if : Bool → ℕ
one_if b = cond b 1 0

pub count-cons : {A : Type 0} (test : A → Bool) (x : A) (xs : List A) →
    count_by test (x ∷ xs) ≡ one_if (test x) + count_by test xs
count-cons test x xs = sum_by-cons (λ y. cond (test y) 1 0) x xs

-- The items of a range pass a test, and the others don't.
pub count-run : {A : Type 0} (test : A → Bool) (xs : List A) (a b : ℕ) → a ≤ b → b ≤ length xs →
    ((k : ℕ) (d : A) → k < a → test (slice_index_or xs k d) ≡ false) →
    ((k : ℕ) (d : A) → a ≤ k → k < b → test (slice_index_or xs k d) ≡ true) →
    ((k : ℕ) (d : A) → b ≤ k → k < length xs → test (slice_index_or xs k d) ≡ false) → count_by test xs ≡ b - a
count-run test [] a b upto within before run after = omega arith
count-run test (x ∷ xs) (suc a) zero upto within before run after = absurd (omega arith)
count-run test (x ∷ xs) (suc a) (suc b) upto within before run after =
    let rest : count_by test xs ≡ b - a =
    count-run test xs a b (omega arith) (omega arith) (λ k d l. before (suc k) d (omega arith))
    (λ k d l m. run (suc k) d (omega arith) (omega arith)) (λ k d l m. after (suc k) d (omega arith) (omega arith)) in
    let here : one_if (test x) ≡ 0 = ap one_if (before 0 x (omega arith)) in
    let more : count_by test (x ∷ xs) ≡ one_if (test x) + count_by test xs = count-cons test x xs in
    omega arith
count-run test (x ∷ xs) zero (suc b) upto within before run after =
    let rest : count_by test xs ≡ b - 0 =
    count-run test xs 0 b (omega arith) (omega arith) (λ k d l. absurd (omega arith))
    (λ k d l m. run (suc k) d (omega arith) (omega arith)) (λ k d l m. after (suc k) d (omega arith) (omega arith)) in
    let here : one_if (test x) ≡ 1 = ap one_if (run 0 x (omega arith) (omega arith)) in
    let more : count_by test (x ∷ xs) ≡ one_if (test x) + count_by test xs = count-cons test x xs in
    omega arith
count-run test (x ∷ xs) zero zero upto within before run after =
    let rest : count_by test xs ≡ 0 - 0 =
    count-run test xs 0 0 (omega arith) (omega arith) (λ k d l. absurd (omega arith)) (λ k d l m. absurd (omega arith))
    (λ k d l m. after (suc k) d (omega arith) (omega arith)) in
    let here : one_if (test x) ≡ 0 = ap one_if (after 0 x (omega arith) (omega arith)) in
    let more : count_by test (x ∷ xs) ≡ one_if (test x) + count_by test xs = count-cons test x xs in
    omega arith

-- An item that passes is counted.
pub count-some : {A : Type 0} (test : A → Bool) (xs : List A) (i : ℕ) → i < length xs →
    ((d : A) → test (slice_index_or xs i d) ≡ true) → 1 ≤ count_by test xs
count-some test [] i within passes = absurd (omega arith)
count-some test (x ∷ xs) zero within passes =
    let here : one_if (test x) ≡ 1 = ap one_if (passes x) in
    let more : count_by test (x ∷ xs) ≡ one_if (test x) + count_by test xs = count-cons test x xs in
    omega arith
count-some test (x ∷ xs) (suc i) within passes =
    let rest = count-some test xs i (omega arith) passes in
    let more : count_by test (x ∷ xs) ≡ one_if (test x) + count_by test xs = count-cons test x xs in
    omega arith

-- Two neighbours that pass count as two.
count-two : {A : Type 0} (test : A → Bool) (xs : List A) (i : ℕ) → suc i < length xs →
    ((d : A) → test (slice_index_or xs i d) ≡ true) → ((d : A) → test (slice_index_or xs (suc i) d) ≡ true) → 2 ≤ count_by test xs
count-two test [] i within one two = absurd (omega arith)
count-two test (x ∷ xs) zero within one two =
    let rest = count-some test xs 0 (omega arith) two in
    let here : one_if (test x) ≡ 1 = ap one_if (one x) in
    let more : count_by test (x ∷ xs) ≡ one_if (test x) + count_by test xs = count-cons test x xs in
    omega arith
count-two test (x ∷ xs) (suc i) within one two =
    let rest = count-two test xs i (omega arith) one two in
    let more : count_by test (x ∷ xs) ≡ one_if (test x) + count_by test xs = count-cons test x xs in
    omega arith

-- A search for a place and class, in a sorted list from a split index on.

below_other : (place class : ℕ) (x : Record) → IsBelow place class x → (x.place ≡ place) × ((class_of x) ≡ class) → ⊥
below_other place class x (inl less) (p, c) = omega arith
below_other place class x (inr (p', less)) (p, c) = omega arith

-- After an item with another key, no item has the key.
after_other : (place class : ℕ) (x y : Record) → IsFrom place class x → IsFrom x.place (class_of x) y →
    ((x.place ≡ place) × ((class_of x) ≡ class) → ⊥) → (y.place ≡ place) × ((class_of y) ≡ class) → ⊥
after_other place class x y (inl a) (inl b) other (p, c) = omega arith
after_other place class x y (inl a) (inr (e, b)) other (p, c) = omega arith
after_other place class x y (inr (e, a)) (inl b) other (p, c) = omega arith
after_other place class x y (inr (e, a)) (inr (f, b)) other (p, c) = other (sym e, omega arith)

-- If the item at an index has another key, no later item has the key.
other_after : (place class : ℕ) (items : List Record) (from i k : ℕ) (d : Record) → AreInOrder items →
    IsSplit place class items from →
    from ≤ i → (HasKeyAt place class items i → ⊥) → i ≤ k → k < length items → (slice_index_or items k d).place ≡ place →
    (class_of (slice_index_or items k d)) ≡ class → ⊥
other_after place class items from i k d ordered split upto other above within p c =
    let here : ((slice_index_or items i d).place ≡ place) × ((class_of (slice_index_or items i d)) ≡ class) → ⊥ =
    λ (q, b). other (
      omega arith,
      λ e. let same = get_or_default items i e d (omega arith) in
          (ap (λ (x : Record). x.place) same ∙ q, ap (λ (x : Record). (class_of x)) same ∙ b),
    ) in
    ⊎_elim
    (λ (more : i < k). after_other place class (slice_index_or items i d) (slice_index_or items k d)
    (split.above i d upto (omega arith))
    (ordered i k d more within) here (p, c))
    (λ (not_more : k ≤ i). let e : k ≡ i = omega arith in
    here (
      sym (ap (λ (n : ℕ). (slice_index_or items n d).place) e) ∙ p,
      sym (ap (λ (n : ℕ). (class_of (slice_index_or items n d))) e)
          ∙ c,
    ))
    (cases_lt i k)

-- No item.
pub only-none : (place class : ℕ) (items : List Record) (from : ℕ) (x : Record) → AreInOrder items →
    IsSplit place class items from → (HasKeyAt place class items from → ⊥) → IsOnly (has_key place class) items x → ⊥
only-none place class items from x ordered split other is =
    let (k, within, there) = is.listed in
    let (p, c) = has_key-true place class x is.passes in
    let p_k = ap (λ (y : Record). y.place) there ∙ p in
    let c_k = ap (λ (y : Record). (class_of y)) there ∙ c in
    ⊎_elim
    (λ (less : k < from). below_other place class (slice_index_or items k x) (split.below k x less) (p_k, c_k))
    (λ (more : from ≤ k). other_after place class items from from k x ordered split (omega arith) other more within p_k c_k)
    (cases_lt k from)

passes_at : (place class : ℕ) (items : List Record) (k : ℕ) → HasKeyAt place class items k → (d : Record) →
    has_key place class (slice_index_or items k d) ≡ true
passes_at place class items k (within, same) d = let (p, c) = same d in has_key-same place class (slice_index_or items k d) p c

-- Two items.
pub only-two : (place class : ℕ) (items : List Record) (from : ℕ) (x : Record) → HasKeyAt place class items from →
    HasKeyAt place class items (from + 1) → IsOnly (has_key place class) items x → ⊥
only-two place class items from x one two is =
    let e : from + 1 ≡ suc from = omega arith in
    let two' = subst (HasKeyAt place class items) e two in
    let many = count-two (has_key place class) items from two'.0 (passes_at place class items from one)
    (passes_at place class items (suc from) two') in
    let alone = is.alone in
    omega arith

-- One item.
pub only-one : (place class : ℕ) (items : List Record) (from : ℕ) (x : Record) → AreInOrder items →
    IsSplit place class items from →
    HasKeyAt place class items from → (HasKeyAt place class items (from + 1) → ⊥) → x ≡ slice_index_or items from x →
    IsOnly (has_key place class) items x
only-one place class items from x ordered split one other is = record {
  listed = (from, one.0, sym is);
  passes = subst (λ (y : Record). has_key place class y ≡ true) (sym is) (passes_at place class items from one x);
  alone = let n = count-run (has_key place class) items from (from + 1) (omega arith) (let w = one.0 in omega arith)
      (λ k d less. has_key-other place class (slice_index_or items k d)
      (below_other place class (slice_index_or items k d) (split.below k d less)))
      (λ k d low high. let e : from ≡ k = omega arith in
      subst (λ (m : ℕ). has_key place class (slice_index_or items m d) ≡ true) e (passes_at place class items from one d))
      (λ k d above within. has_key-other place class (slice_index_or items k d)
      (λ (p, c). other_after place class items from (from + 1) k d ordered split (omega arith) other above within p c))
      in omega arith;
}

pub only-same : (place class : ℕ) (items : List Record) (from : ℕ) (x y : Record) → AreInOrder items →
    IsSplit place class items from →
    (HasKeyAt place class items (from + 1) → ⊥) → x ≡ slice_index_or items from x → IsOnly (has_key place class) items y → x ≡ y
only-same place class items from x y ordered split other is only =
    let (k, within, there) = only.listed in
    let (p, c) = has_key-true place class y only.passes in
    let p_k = ap (λ (z : Record). z.place) there ∙ p in
    let c_k = ap (λ (z : Record). (class_of z)) there ∙ c in
    ⊎_elim
    (λ (less : k < from). absurd (below_other place class (slice_index_or items k y) (split.below k y less) (p_k, c_k)))
    (λ (more : from ≤ k). ⊎_elim
    (λ (above : from < k). absurd
    (other_after place class items from (from + 1) k y ordered split (omega arith) other (omega arith) within p_k c_k))
    (λ (here : k ≤ from). let e : from ≡ k = omega arith in is ∙ get_or_default items from x y (omega arith)
    ∙ ap (λ (n : ℕ). slice_index_or items n y) e ∙ there)
    (cases_lt from k))
    (cases_lt k from)

-- The test of a search.

abbrev pub is_below : ℕ → ℕ → Record → Bool
is_below place class x = nat_lt x.place place || (x.place == place && nat_lt (class_of x) class)

below_test : (place class : ℕ) (x : Record) → IsBelow place class x → is_below place class x ≡ true
below_test place class x (inl less) = rw (lt-ltb x.place place less) refl
below_test place class x (inr (p, c)) =
    rw (le-ltb x.place place (omega arith), eq-eqb x.place place p, lt-ltb (class_of x) class c) refl

from_test : (place class : ℕ) (x : Record) → IsFrom place class x → is_below place class x ≡ false
from_test place class x (inl more) =
    let differ : x.place ≢ place = λ e. omega arith in
    rw (le-ltb x.place place (omega arith), ne_eqb x.place place differ) refl
from_test place class x (inr (p, c)) =
    rw (le-ltb x.place place (omega arith), eq-eqb x.place place (sym p), le-ltb (class_of x) class c) refl

pub test_below : (place class : ℕ) (x : Record) → is_below place class x ≡ true → IsBelow place class x
test_below place class x is =
    ⊎_elim (λ below. below) (λ from. let f = from_test place class x from in let e : true ≡ false = sym is ∙ f in absurd (cc))
    (below_or_from x.place place (class_of x) class)

pub test_from : (place class : ℕ) (x : Record) → is_below place class x ≡ false → IsFrom place class x
test_from place class x is =
    ⊎_elim (λ below. let f = below_test place class x below in let e : true ≡ false = sym f ∙ is in absurd (cc)) (λ from. from)
    (below_or_from x.place place (class_of x) class)

below_back : (place class : ℕ) (x y : Record) → IsFrom x.place (class_of x) y → IsBelow place class y → IsBelow place class x
below_back place class x y (inl a) (inl b) = inl (omega arith)
below_back place class x y (inl a) (inr (e, b)) = inl (omega arith)
below_back place class x y (inr (e, a)) (inl b) = inl (omega arith)
below_back place class x y (inr (e, a)) (inr (f, b)) = inr (e ∙ f, omega arith)

pub parted : (place class : ℕ) (items : List Record) → AreInOrder items → IsPartitionedBy (is_below place class) items
parted place class items ordered i j d upto within is =
    ⊎_elim
    (λ (less : i < j). below_test place class (slice_index_or items i d)
    (below_back place class (slice_index_or items i d) (slice_index_or items j d) (ordered i j d less within)
    (test_below place class (slice_index_or items j d) is)))
    (λ (more : j ≤ i).
    let e : j ≡ i = omega arith in
    subst (λ (k : ℕ). is_below place class (slice_index_or items k d) ≡ true) e is)
    (cases_lt i j)

-- An index is the split if the record before it is below, and the record at it isn't.
pub split-here : (place class : ℕ) (items : List Record) (from : ℕ) → AreInOrder items → from ≤ length items →
    (0 < from → (d : Record) → IsBelow place class (slice_index_or items (from - 1) d)) →
    (from < length items → (d : Record) → IsFrom place class (slice_index_or items from d)) → IsSplit place class items from
split-here place class items from ordered bound last first = record {
  bound = bound;
  below = λ k d under. ⊎_elim
      (λ (less : k < from - 1). below_back place class (slice_index_or items k d) (slice_index_or items (from - 1) d)
      (ordered k (from - 1) d less (omega arith)) (last (omega arith) d))
      (λ (more : from - 1 ≤ k). let e : from - 1 ≡ k = omega arith in
      subst (λ (i : ℕ). IsBelow place class (slice_index_or items i d)) e (last (omega arith) d))
      (cases_lt k (from - 1));
  above = λ k d onward within. ⊎_elim
      (λ (more : from < k). less_trans place (slice_index_or items from d).place (slice_index_or items k d).place
      (class ≤ class_of (slice_index_or items from d))
      (class_of (slice_index_or items from d) ≤ class_of (slice_index_or items k d))
      (class ≤ class_of (slice_index_or items k d)) (λ p q. omega arith)
      (first (omega arith) d) (ordered from k d more within))
      (λ (upto : k ≤ from). let e : from ≡ k = omega arith in
      subst (λ (i : ℕ). IsFrom place class (slice_index_or items i d)) e (first (omega arith) d))
      (cases_lt from k);
}

from-not_below : (place class : ℕ) (x : Record) → (IsBelow place class x → ⊥) → IsFrom place class x
from-not_below place class x other =
    ⊎_elim (λ below. absurd (other below)) (λ from. from) (below_or_from x.place place (class_of x) class)

pub from-tested : (place class i : ℕ) (items : List Record) (e d : Record) (b : Bool) → i < length items →
    (IsBelow place class (slice_index_or items i e) → b ≡ true) → not b ≡ true → IsFrom place class (slice_index_or items i d)
from-tested place class i items e d true within below is = absurd (cc)
from-tested place class i items e d false within below is =
    subst (IsFrom place class) (get_or_default items i e d within)
    (from-not_below place class (slice_index_or items i e) (λ under. let yes : false ≡ true = below under in absurd (cc)))

-- Whether an item has the key.

item_at : {A : Type 0} (xs : List A) (k : ℕ) → k < length xs → (x : A) × (slice_index_or xs k x ≡ x)
item_at [] k within = absurd (omega arith)
item_at (x ∷ xs) zero within = (x, refl)
item_at (x ∷ xs) (suc k) within = item_at xs k (omega arith)

any-at : (place class : ℕ) (items : List Record) (k : ℕ) → HasKeyAt place class items k →
    Any (λ r. IsTrue (has_key place class r)) items
any-at place class items k (within, same) =
    let (x, there) = item_at items k within in
    let (p, c) = same x in (
      k,
      x,
      within,
      there,
      has_key-same place class x (sym (ap (λ (y : Record). y.place) there) ∙ p)
          (sym (ap (λ (y : Record). class_of y) there) ∙ c),
    )

any-none : (place class : ℕ) (items : List Record) (from : ℕ) → AreInOrder items → IsSplit place class items from →
    (HasKeyAt place class items from → ⊥) → Any (λ r. IsTrue (has_key place class r)) items → ⊥
any-none place class items from ordered split other (k, x, within, there, passes) =
    let (p, c) = has_key-true place class x passes in
    let p_k = ap (λ (y : Record). y.place) there ∙ p in
    let c_k = ap (λ (y : Record). class_of y) there ∙ c in
    ⊎_elim
    (λ (less : k < from). below_other place class (slice_index_or items k x) (split.below k x less) (p_k, c_k))
    (λ (more : from ≤ k). other_after place class items from from k x ordered split (omega arith) other more within p_k c_k)
    (cases_lt k from)

pub any-where : (place class : ℕ) (items : List Record) (from : ℕ) (here : Bool) → AreInOrder items →
    IsSplit place class items from →
    IsTrue here ↔ HasKeyAt place class items from → IsTrue here ↔ Any (λ r. IsTrue (has_key place class r)) items
any-where place class items from true ordered split tells = (λ is. any-at place class items from (tells.0 is), λ some. refl)
any-where place class items from false ordered split tells = (
  λ is. any-at place class items from (tells.0 is),
  λ some. absurd
      (any-none place class items from ordered split (λ at. let e : false ≡ true = tells.1 at in cc) some),
)
