-- Labels with one place, by the end of a search for one.
use Rattle.std.proofs.Common.{◌≡◌, ◌≢◌, ◌∙◌, sym, subst, ap, ℕ, ◌-◌, ◌<◌, ◌≤◌, ℤ, pos, ◌+ℤ◌, ◌⊎◌, inl, inr, ⊎_elim, List, length}
use Rattle.std.proofs.Common.{slice_index_or, arith, IsTrue, ◌==◌, ◌↔◌, true, false, eq-eqb}
use Rattle.std.specs.Prelude.{◌<ℤ◌, ◌≤ℤ◌}
use Rattle.std.specs.List.{AllPairs}
use Rattle.std.proofs.lemmas.Bool.{cases_lt, eqb-true}
use Rattle.std.proofs.lemmas.Int.{ints, by_lt_z}
use Rattle.std.proofs.lemmas.List.{get_or_default}
use Rattle.rv_reloc.specs.declared.slots.SlotLabel.{SlotLabel}
use Rattle.rv_reloc.specs.Slots.{IsLabelBelow, IsLabelFrom, HasLabelAt, HasLabelBelow, HasLabelFrom, HasOtherLabel}
use Rattle.rv_reloc.proofs.LabelOrder.{not_both}

-- A default for indices past the end.
abbrev pub no_label : SlotLabel
no_label = record { place = 0; label = pos 0 }

abbrev pub at : List SlotLabel → ℕ → SlotLabel
at items k = slice_index_or items k no_label

upto_place : (place : ℕ) (label : ℤ) (s : SlotLabel) → IsLabelBelow place label s → s.place ≤ place
upto_place place label s (inl less) = omega arith
upto_place place label s (inr (same, low)) = omega arith

from_place : (place : ℕ) (label : ℤ) (s : SlotLabel) → IsLabelFrom place label s → place ≤ s.place
from_place place label s (inl more) = omega arith
from_place place label s (inr (same, high)) = omega arith

below_at : (place : ℕ) (label : ℤ) (s : SlotLabel) → s.place ≡ place → IsLabelBelow place label s → s.label <ℤ label
below_at place label s here (inl less) = absurd (omega arith)
below_at place label s here (inr (same, low)) = low

from_at : (place : ℕ) (label : ℤ) (s : SlotLabel) → s.place ≡ place → IsLabelFrom place label s → label ≤ℤ s.label
from_at place label s here (inl more) = absurd (omega arith)
from_at place label s here (inr (same, high)) = high

-- The labels in a list are sorted by place.
places_up : (items : List SlotLabel) (j k : ℕ) (d : SlotLabel) → AllPairs (λ s t. IsLabelFrom s.place s.label t) items → j ≤ k →
    k < length items → (slice_index_or items j d).place ≤ (slice_index_or items k d).place
places_up items j k d ordered upto within =
    ⊎_elim
    (λ (less : j < k). from_place _ _ (slice_index_or items k d) (ordered j k d less within))
    (λ (more : k ≤ j). let e : j ≡ k = omega arith in let f = ap (λ (i : ℕ). (slice_index_or items i d).place) e in omega arith)
    (cases_lt j k)

module _ (items : List SlotLabel) (place : ℕ) (label z : ℤ) (n : ℕ) (same : z ≡ label) (bound : n ≤ length items)
    (below : (k : ℕ) (d : SlotLabel) → k < n → IsLabelBelow place z (slice_index_or items k d))
    (above : (k : ℕ) (d : SlotLabel) → n ≤ k → k < length items → IsLabelFrom place z (slice_index_or items k d)) where
  below-is : 0 < n → (at items (n - 1)).place ≡ place → HasLabelBelow items place label
  below-is some here = record {
    found = at items (n - 1);
    listed = (n - 1, omega arith, get_or_default items (n - 1) (at items (n - 1)) no_label (omega arith));
    place_is = here;
    below = subst (λ (y : ℤ). (at items (n - 1)).label <ℤ y) same
        (below_at place z (at items (n - 1)) here (below (n - 1) no_label (omega arith)));
  }

  from-is : n < length items → (at items n).place ≡ place → HasLabelFrom items place label
  from-is within here = record {
    found = at items n;
    listed = (n, within, get_or_default items n (at items n) no_label within);
    place_is = here;
    above = subst (λ (y : ℤ). y ≤ℤ (at items n).label) same
        (from_at place z (at items n) here (above n no_label (omega arith) within));
  }

  below-only : AllPairs (λ s t. IsLabelFrom s.place s.label t) items → HasLabelBelow items place label → (0 < n)
      × ((at items (n - 1)).place ≡ place)
  below-only ordered has =
      let (k, within, there) = has.listed in
      let there' : at items k ≡ has.found = get_or_default items k no_label has.found within ∙ there in
      let here : (at items k).place ≡ place = ap (λ (s : SlotLabel). s.place) there' ∙ has.place_is in
      ⊎_elim
      (λ (less : k < n).
      let up = places_up items k (n - 1) no_label ordered (omega arith) (omega arith) in
      let down = upto_place place z (at items (n - 1)) (below (n - 1) no_label (omega arith)) in
      (omega arith, omega arith))
      (λ (more : n ≤ k).
      let high = from_at place z (at items k) here (above k no_label more within) in
      let low = subst (λ (y : ℤ). (at items k).label <ℤ y) (sym same)
      (subst (λ (s : SlotLabel). s.label <ℤ label) (sym there') has.below) in
      absurd (not_both z (at items k).label high low))
      (cases_lt k n)

  from-only : AllPairs (λ s t. IsLabelFrom s.place s.label t) items → HasLabelFrom items place label → (n < length items)
      × ((at items n).place ≡ place)
  from-only ordered has =
      let (k, within, there) = has.listed in
      let there' : at items k ≡ has.found = get_or_default items k no_label has.found within ∙ there in
      let here : (at items k).place ≡ place = ap (λ (s : SlotLabel). s.place) there' ∙ has.place_is in
      ⊎_elim
      (λ (less : k < n).
      let low = below_at place z (at items k) here (below k no_label less) in
      let high = subst (λ (y : ℤ). y ≤ℤ (at items k).label) (sym same)
      (subst (λ (s : SlotLabel). label ≤ℤ s.label) (sym there') has.above) in
      absurd (not_both z (at items k).label high low))
      (λ (more : n ≤ k).
      let inside : n < length items = omega arith in
      let up = from_place place z (at items n) (above n no_label (omega arith) inside) in
      let down = places_up items n k no_label ordered more within in
      (inside, omega arith))
      (cases_lt k n)

  -- Tests of the labels before and after the end of the search.

  tested : {P : Type 0} (m : ℕ) → (m ≡ place → P) → (P → m ≡ place) → IsTrue (m == place) ↔ P
  tested m to from = (λ is. to (eqb-true m place is), λ has. eq-eqb m place (from has))

  never : {P : Type 0} → (P → ⊥) → IsTrue false ↔ P
  never none = (λ is. let e : false ≡ true = is in absurd (cc), λ has. absurd (none has))

  module _ (ordered : AllPairs (λ s t. IsLabelFrom s.place s.label t) items) where
    pub below-test : 0 < n → IsTrue ((at items (n - 1)).place == place) ↔ HasLabelBelow items place label
    below-test some = tested (at items (n - 1)).place (below-is some) (λ has. (below-only ordered has).1)

    pub below-none : n ≡ 0 → IsTrue false ↔ HasLabelBelow items place label
    below-none none = never (λ has. let some = (below-only ordered has).0 in omega arith)

    pub from-test : n < length items → IsTrue ((at items n).place == place) ↔ HasLabelFrom items place label
    from-test within = tested (at items n).place (from-is within) (λ has. (from-only ordered has).1)

    pub from-none : n ≡ length items → IsTrue false ↔ HasLabelFrom items place label
    from-none all = never (λ has. let within = (from-only ordered has).0 in omega arith)

-- Another label, and any label.

pub other-below : (items : List SlotLabel) (place number : ℕ) (z : ℤ) → z ≡ pos number → HasLabelBelow items place z →
    HasOtherLabel items place number
other-below items place number z is has = record {
  found = has.found;
  listed = has.listed;
  place_is = has.place_is;
  differs = λ same. let low = has.below in not_both z has.found.label (omega (arith, ints)) low;
}

pub other-from : (items : List SlotLabel) (place number : ℕ) (z : ℤ) → z ≡ pos number +ℤ pos 1 → HasLabelFrom items place z →
    HasOtherLabel items place number
other-from items place number z is has = record {
  found = has.found;
  listed = has.listed;
  place_is = has.place_is;
  differs = λ same. let high = has.above in omega (arith, ints);
}

pub other-cases : (items : List SlotLabel) (place number : ℕ) (y z : ℤ) → y ≡ pos number → z ≡ pos number +ℤ pos 1 →
    HasOtherLabel items place number → HasLabelBelow items place y ⊎ HasLabelFrom items place z
other-cases items place number y z is is' has =
    by_lt_z has.found.label (pos number)
    (λ low. inl (record {
      found = has.found;
      listed = has.listed;
      place_is = has.place_is;
      below = subst (λ (x : ℤ). has.found.label <ℤ x) (sym is) low;
    }))
    (λ high. inr
    (record { found = has.found; listed = has.listed; place_is = has.place_is; above = next has.found.label high has.differs }))
  where
    next : (x : ℤ) → pos number ≤ℤ x → x ≢ pos number → z ≤ℤ x
    next x high differs = by_lt_z x z (λ low. absurd (differs (grind (arith, ints)))) (λ up. up)

pub at-below : (items : List SlotLabel) (place : ℕ) (z : ℤ) → HasLabelBelow items place z → HasLabelAt items place
at-below items place z has = record { found = has.found; listed = has.listed; place_is = has.place_is }

pub at-from : (items : List SlotLabel) (place : ℕ) (z : ℤ) → HasLabelFrom items place z → HasLabelAt items place
at-from items place z has = record { found = has.found; listed = has.listed; place_is = has.place_is }

pub at-cases : (items : List SlotLabel) (place : ℕ) (y z : ℤ) → y ≡ z → HasLabelAt items place → HasLabelBelow items place y
    ⊎ HasLabelFrom items place z
at-cases items place y z same has =
    by_lt_z has.found.label y
    (λ low. inl (record { found = has.found; listed = has.listed; place_is = has.place_is; below = low }))
    (λ high. inr
    (record {
      found = has.found;
      listed = has.listed;
      place_is = has.place_is;
      above = subst (λ (x : ℤ). x ≤ℤ has.found.label) same high;
    }))
