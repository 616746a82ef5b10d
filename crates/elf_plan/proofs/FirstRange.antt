-- The first of some ranges that contains a given range, by whether a range before a middle one does.
use Rattle.std.proofs.Common.{◌≡◌, ◌∙◌, ap, subst, sym, refl, ℕ, ◌<◌, ◌↔◌, ◌||◌, Bool, true, false, cond, Some, List, [], ◌∷◌, ◌++◌}
use Rattle.std.specs.Prelude.{find}
use Rattle.std.specs.List.{list_any}
use Rattle.std.specs.List.Sorted.{IsNonDecreasingBy, IsPermutation}
use Rattle.std.proofs.lemmas.Bool.{and_from, and_parts, leb-true, le-leb}
use Rattle.std.proofs.lemmas.List.Folds.{Any-from_list_any, list_any-from_Any}
use Rattle.elf_image.specs.declared.extent.Extent.{Extent}
use Rattle.elf_image.specs.internal.Extents.{IsInOneExtent}
use Rattle.elf_plan.specs.RangeTree.{IsReachOf, covers}
use Rattle.elf_plan.proofs.KeptRanges.{in_one-permutation}

-- The ranges covered by sorted and extended ranges.
pub reach-of : (ranges copy sorted now reaches : List Extent) → copy ≡ ranges → IsPermutation copy sorted → now ≡ sorted →
    IsNonDecreasingBy (λ s. s.start) reaches → IsNonDecreasingBy (λ s. s.end) reaches →
    ((a e : ℕ) → a < e → IsInOneExtent reaches a e ↔ IsInOneExtent now a e) → IsReachOf reaches ranges
reach-of ranges copy sorted now reaches copied there same rising growing covered = record {
  rising = rising;
  growing = growing;
  covered = λ a e some.
      let one = in_one-permutation copy sorted a e there in
      let held = subst (λ (xs : List Extent). IsInOneExtent reaches a e ↔ IsInOneExtent xs a e) same (covered a e some) in
      subst (λ (xs : List Extent). IsInOneExtent reaches a e ↔ IsInOneExtent xs a e) copied
      (λ h. one.1 (held.0 h), λ h. held.1 (one.0 h));
}

-- The first element of two lists that passes a test.

find-there : {A : Type 0} (p : A → Bool) (xs ys : List A) → list_any p xs ≡ true → find p (xs ++ ys) ≡ find p xs
find-there p [] ys any = absurd (cc)
find-there {A} p (x ∷ xs) ys any = step (p x) (find-there p xs ys) any
  where
    step : (b : Bool) → (list_any p xs ≡ true → find p (xs ++ ys) ≡ find p xs) → (b || list_any p xs) ≡ true →
        cond b (Some x) (find p (xs ++ ys)) ≡ cond b (Some x) (find p xs)
    step true more any = refl
    step false more any = more any

find-behind : {A : Type 0} (p : A → Bool) (xs ys : List A) → list_any p xs ≡ false → find p (xs ++ ys) ≡ find p ys
find-behind p [] ys none = refl
find-behind {A} p (x ∷ xs) ys none = step (p x) (find-behind p xs ys) none
  where
    step : (b : Bool) → (list_any p xs ≡ false → find p (xs ++ ys) ≡ find p ys) → (b || list_any p xs) ≡ false →
        cond b (Some x) (find p (xs ++ ys)) ≡ find p ys
    step true more none = absurd (cc)
    step false more none = more none

module _ (start end : ℕ) where
  any-from_one : (xs : List Extent) → IsInOneExtent xs start end → list_any (covers start end) xs ≡ true
  any-from_one xs (s, (k, below, at), low, high) =
      list_any-from_Any (covers start end) xs (k, s, below, at, and_from _ _ (le-leb _ _ low) (le-leb _ _ high))

  one-from_any : (xs : List Extent) → list_any (covers start end) xs ≡ true → IsInOneExtent xs start end
  one-from_any xs any =
      let (k, s, below, at, holds) = Any-from_list_any (covers start end) xs any in
      let both = and_parts _ _ holds in
      (s, (k, below, at), leb-true _ _ both.0, leb-true _ _ both.1)

  none-from_not : (xs : List Extent) → (IsInOneExtent xs start end → ⊥) → list_any (covers start end) xs ≡ false
  none-from_not xs none = cases (list_any (covers start end) xs) refl
    where
      cases : (b : Bool) → list_any (covers start end) xs ≡ b → list_any (covers start end) xs ≡ false
      cases true e = absurd (none (one-from_any xs e))
      cases false e = e

  module _ (reaches before : List Extent) (range : Extent) (behind : List Extent) (are : IsReachOf reaches before)
      (some : start < end) where
    pub first-before : IsInOneExtent reaches start end →
        find (covers start end) (before ++ range ∷ behind) ≡ find (covers start end) before
    first-before holds =
        find-there (covers start end) before (range ∷ behind) (any-from_one before ((are.covered start end some).0 holds))

    skipped : (IsInOneExtent reaches start end → ⊥) →
        find (covers start end) (before ++ range ∷ behind)
        ≡ cond (covers start end range) (Some range) (find (covers start end) behind)
    skipped none = find-behind (covers start end) before (range ∷ behind)
        (none-from_not before (λ h. none ((are.covered start end some).1 h)))

    pub first-here : (IsInOneExtent reaches start end → ⊥) → covers start end range ≡ true →
        find (covers start end) (before ++ range ∷ behind) ≡ Some range
    first-here none holds = skipped none ∙ ap (λ (b : Bool). cond b (Some range) (find (covers start end) behind)) holds

    pub first-behind : (IsInOneExtent reaches start end → ⊥) → covers start end range ≡ false →
        find (covers start end) (before ++ range ∷ behind) ≡ find (covers start end) behind
    first-behind none fails = skipped none ∙ ap (λ (b : Bool). cond b (Some range) (find (covers start end) behind)) fails

-- A test that fails.
pub not-covered : (xs ys : List Extent) (start end : ℕ) (b : Bool) → xs ≡ ys → (IsInOneExtent xs start end → b ≡ true) →
    b ≡ false → IsInOneExtent ys start end → ⊥
not-covered xs ys start end b same gives off there =
    let on : b ≡ true = gives (subst (λ (zs : List Extent). IsInOneExtent zs start end) (sym same) there) in cc
