-- Labels sorted by place, and then by label.
use Rattle.std.proofs.Common.{◌≡◌, ◌≢◌, ◌∙◌, sym, subst, ap, refl, ℕ, ◌+◌, ◌<◌, ◌≤◌, ℤ, ◌⊎◌, inl, inr, ⊎_elim, Bool, true, false}
use Rattle.std.proofs.Common.{◌&&◌, ◌||◌, ◌==◌, nat_lt, List, length, slice_index_or, arith}
use Rattle.std.specs.Prelude.{◌<ℤ◌, ◌≤ℤ◌, int_lt}
use Rattle.std.specs.List.{Contains, AllPairs}
use Rattle.std.specs.List.Sorted.{IsPartitionedBy}
use Rattle.std.specs.Ordering.{nat_cmp, int_cmp, is_lt, ordering_then}
use Rattle.std.proofs.lemmas.Bool.{cases_lt, cases_eq, lt-ltb, le-ltb, eq-eqb, ne_eqb}
use Rattle.std.proofs.lemmas.Int.{ints, by_lt_z}
use Rattle.rv_reloc.specs.declared.slots.SlotLabel.{SlotLabel}
use Rattle.rv_reloc.specs.Slots.{IsLabelBelow, IsLabelFrom}
use Rattle.rv_reloc.proofs.Lexicographic.{integer_up, then_up, less_trans, AllPairs-from_next}

lt_test : (a b : ℤ) → a <ℤ b → int_lt a b ≡ true
lt_test a b less = grind (arith, ints)

ge_test : (a b : ℤ) → b ≤ℤ a → int_lt a b ≡ false
ge_test a b more = grind (arith, ints)

upto_trans : (a b c : ℤ) → a ≤ℤ b → b ≤ℤ c → a ≤ℤ c
upto_trans a b c one other = omega (arith, ints)

upto_below : (a b c : ℤ) → a ≤ℤ b → b <ℤ c → a <ℤ c
upto_below a b c one other = omega (arith, ints)

pub not_both : (a b : ℤ) → a ≤ℤ b → b <ℤ a → ⊥
not_both a b one other = omega (arith, ints)

below_or_from : (p q : ℕ) (c d : ℤ) → ((p < q) ⊎ ((p ≡ q) × (c <ℤ d))) ⊎ ((q < p) ⊎ ((q ≡ p) × (d ≤ℤ c)))
below_or_from p q c d =
    ⊎_elim
    (λ (less : p < q). inl (inl less))
    (λ (more : q ≤ p). ⊎_elim
    (λ (same : p ≡ q). by_lt_z c d (λ low. inl (inr (same, low))) (λ high. inr (inr (sym same, high))))
    (λ (differ : p ≢ q). inr (inl (omega arith)))
    (cases_eq p q))
    (cases_lt p q)

from_trans : (x y z : SlotLabel) → IsLabelFrom x.place x.label y → IsLabelFrom y.place y.label z → IsLabelFrom x.place x.label z
from_trans x y z =
    less_trans x.place y.place z.place (x.label ≤ℤ y.label) (y.label ≤ℤ z.label) (x.label ≤ℤ z.label)
    (upto_trans x.label y.label z.label)

pub labels-sorted : (xs : List SlotLabel) →
    ((k : ℕ) (d : SlotLabel) → 0 ≤ k → k + 1 < length xs →
    is_lt (ordering_then (nat_cmp (slice_index_or xs (k + 1) d).place (slice_index_or xs k d).place)
    (int_cmp (slice_index_or xs (k + 1) d).label (slice_index_or xs k d).label)) ≡ false) →
    AllPairs (λ s t. IsLabelFrom s.place s.label t) xs
labels-sorted xs sorted =
    AllPairs-from_next (λ s t. IsLabelFrom s.place s.label t) from_trans xs
    (λ k d inside.
    let x = slice_index_or xs k d in
    let y = slice_index_or xs (k + 1) d in
    then_up x.place y.place (int_cmp y.label x.label) (x.label ≤ℤ y.label) (integer_up x.label y.label)
    (sorted k d (omega arith) inside))

-- The test of a search.

abbrev pub is_below : ℕ → ℤ → SlotLabel → Bool
is_below place label x = nat_lt x.place place || (x.place == place && int_lt x.label label)

below_test : (place : ℕ) (label : ℤ) (x : SlotLabel) → IsLabelBelow place label x → is_below place label x ≡ true
below_test place label x (inl less) = rw (lt-ltb x.place place less) refl
below_test place label x (inr (p, c)) =
    rw (le-ltb x.place place (omega arith), eq-eqb x.place place p, lt_test x.label label c) refl

from_test : (place : ℕ) (label : ℤ) (x : SlotLabel) → IsLabelFrom place label x → is_below place label x ≡ false
from_test place label x (inl more) =
    let differ : x.place ≢ place = λ e. omega arith in
    rw (le-ltb x.place place (omega arith), ne_eqb x.place place differ) refl
from_test place label x (inr (p, c)) =
    rw (le-ltb x.place place (omega arith), eq-eqb x.place place (sym p), ge_test x.label label c) refl

pub test_below : (place : ℕ) (label : ℤ) (x : SlotLabel) → is_below place label x ≡ true → IsLabelBelow place label x
test_below place label x is =
    ⊎_elim (λ below. below) (λ from. let f = from_test place label x from in let e : true ≡ false = sym is ∙ f in absurd (cc))
    (below_or_from x.place place x.label label)

pub test_from : (place : ℕ) (label : ℤ) (x : SlotLabel) → is_below place label x ≡ false → IsLabelFrom place label x
test_from place label x is =
    ⊎_elim (λ below. let f = below_test place label x below in let e : true ≡ false = sym f ∙ is in absurd (cc)) (λ from. from)
    (below_or_from x.place place x.label label)

below_back : (place : ℕ) (label : ℤ) (x y : SlotLabel) → IsLabelFrom x.place x.label y → IsLabelBelow place label y →
    IsLabelBelow place label x
below_back place label x y (inl a) (inl b) = inl (omega arith)
below_back place label x y (inl a) (inr (e, b)) = inl (omega arith)
below_back place label x y (inr (e, a)) (inl b) = inl (omega arith)
below_back place label x y (inr (e, a)) (inr (f, b)) = inr (e ∙ f, upto_below x.label y.label label a b)

pub parted : (place : ℕ) (label : ℤ) (items : List SlotLabel) → AllPairs (λ s t. IsLabelFrom s.place s.label t) items →
    IsPartitionedBy (is_below place label) items
parted place label items ordered i j d upto within is =
    ⊎_elim
    (λ (less : i < j). below_test place label (slice_index_or items i d)
    (below_back place label (slice_index_or items i d) (slice_index_or items j d) (ordered i j d less within)
    (test_below place label (slice_index_or items j d) is)))
    (λ (more : j ≤ i).
    let e : j ≡ i = omega arith in
    subst (λ (k : ℕ). is_below place label (slice_index_or items k d) ≡ true) e is)
    (cases_lt i j)

-- A search for a label.

pub listed-first : (items : List SlotLabel) (place : ℕ) (label : ℤ) (n : ℕ) →
    AllPairs (λ s t. IsLabelFrom s.place s.label t) items →
    n ≤ length items → ((k : ℕ) (d : SlotLabel) → k < n → IsLabelBelow place label (slice_index_or items k d)) →
    ((k : ℕ) (d : SlotLabel) → n ≤ k → k < length items → IsLabelFrom place label (slice_index_or items k d)) →
    Contains items (record { place = place; label = label }) → (n < length items)
    × ((slice_index_or items n (record { place = place; label = label })).place ≡ place)
    × ((slice_index_or items n (record { place = place; label = label })).label ≤ℤ label)
    × (label ≤ℤ (slice_index_or items n (record { place = place; label = label })).label)
listed-first items place label n ordered bound below above (k, within, there) =
    let item : SlotLabel = record { place = place; label = label } in
    let at_place : (slice_index_or items k item).place ≡ place = ap (λ (s : SlotLabel). s.place) there in
    let at_label : (slice_index_or items k item).label ≡ label = ap (λ (s : SlotLabel). s.label) there in
    ⊎_elim
    (λ (less : k < n). absurd (⊎_elim
    (λ (low : (slice_index_or items k item).place < place). omega arith)
    (λ (same, low). not_both label label (same_upto label) (subst (λ (z : ℤ). z <ℤ label) at_label low))
    (below k item less)))
    (λ (more : n ≤ k).
    let inside : n < length items = omega arith in
    let from : IsLabelFrom place label (slice_index_or items n item) = above n item (omega arith) inside in
    let upto : IsLabelFrom (slice_index_or items n item).place (slice_index_or items n item).label (slice_index_or items k item) =
    ⊎_elim
    (λ (earlier : n < k). ordered n k item earlier within)
    (λ (here : k ≤ n). let e : n ≡ k = omega arith in
    inr (
      ap (λ (i : ℕ). (slice_index_or items i item).place) e,
      subst
          (λ (i : ℕ). (slice_index_or items n item).label ≤ℤ (slice_index_or items i item).label) e
          (same_upto (slice_index_or items n item).label),
    ))
    (cases_lt n k) in
    ⊎_elim
    (λ (past : place < (slice_index_or items n item).place). absurd
    (⊎_elim (λ less. omega arith) (λ (same, _). omega arith) upto))
    (λ (same, high). ⊎_elim
    (λ (less : (slice_index_or items n item).place < (slice_index_or items k item).place). absurd (omega arith))
    (λ (_, low). (inside, sym same, subst (λ (z : ℤ). (slice_index_or items n item).label ≤ℤ z) at_label low, high))
    upto)
    from)
    (cases_lt k n)
  where
    same_upto : (z : ℤ) → z ≤ℤ z
    same_upto z = omega (arith, ints)
