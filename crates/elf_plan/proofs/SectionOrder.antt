-- The sections that pass a test, as sorted pairs of their offsets and indices.
use Rattle.std.proofs.Common.{◌≡◌, ◌∙◌, sym, subst, ap, refl, ℕ, ◌+◌, ◌-◌, ◌<◌, ◌≤◌, ◌⊎◌, inl, inr, ⊎_elim, ◌↔◌, List, [], ◌∷◌, ◌++◌, Bool}
use Rattle.std.proofs.Common.{true, false, if◌then◌else◌, Option, Some, None, IsSomeAnd, IsTrue, length, get_or, slice_get, arith}
use Rattle.std.specs.Prelude.{AllPairs, Contains}
use Rattle.std.specs.List.Sorted.{IsPermutation}
use Rattle.std.proofs.lemmas.Bool.{cases_lt}
use Rattle.std.proofs.lemmas.List.{get_or_default}
use Rattle.std.proofs.lemmas.List.Elements.{Contains-append_left, Contains-push, Contains-push_cases}
use Rattle.std.proofs.lemmas.List.Sorted.{Contains-permutation, IsPermutation-sym}
use Rattle.std.proofs.lemmas.Option.{slice_get_within}
use Rattle.elf_image.specs.declared.section.Section.{Section}
use Rattle.rv_code.specs.layout.Lists.{IsPairBefore, ListsPairs}
use Rattle.elf_plan.specs.FileLayout.{PassesAt}
use Rattle.elf_plan.specs.WrittenSections.{offset_if}

-- Sorted pairs.

before-trans : (x y z : ℕ × ℕ) → IsPairBefore x y → IsPairBefore y z → IsPairBefore x z
before-trans x y z (inl p) (inl q) = inl (omega arith)
before-trans x y z (inl p) (inr (e, q)) = inl (omega arith)
before-trans x y z (inr (e, p)) (inl q) = inl (omega arith)
before-trans x y z (inr (e, p)) (inr (f, q)) = inr (e ∙ f, omega arith)

-- The pairs with an index below n.
abbrev pub AscendBelow : List (ℕ × ℕ) → ℕ → Type 0
AscendBelow xs n = (j k : ℕ) (d : ℕ × ℕ) → j < k → k < n → IsPairBefore (get_or xs j d) (get_or xs k d)

pub ascend-more : (xs : List (ℕ × ℕ)) (i : ℕ) (e : ℕ × ℕ) → 0 < i → i < length xs → AscendBelow xs i →
    IsPairBefore (get_or xs (i - 1) e) (get_or xs i e) → AscendBelow xs (i + 1)
ascend-more xs i e some inside below is j k d less within = cases (cases_lt k i)
  where
    next : IsPairBefore (get_or xs (i - 1) d) (get_or xs i d)
    next =
        subst (λ (y : ℕ × ℕ). IsPairBefore (get_or xs (i - 1) d) y) (get_or_default xs i e d inside)
        (subst (λ (x : ℕ × ℕ). IsPairBefore x (get_or xs i e)) (get_or_default xs (i - 1) e d (omega arith)) is)

    last : (j < i - 1) ⊎ (i - 1 ≤ j) → k ≡ i → IsPairBefore (get_or xs j d) (get_or xs i d)
    last (inl early) same = before-trans _ _ _ (below j (i - 1) d early (omega arith)) next
    last (inr late) same =
        let there : i - 1 ≡ j = omega arith in
        subst (λ (n : ℕ). IsPairBefore (get_or xs n d) (get_or xs i d)) there next

    cases : (k < i) ⊎ (i ≤ k) → IsPairBefore (get_or xs j d) (get_or xs k d)
    cases (inl early) = below j k d less early
    cases (inr late) =
        let same : k ≡ i = omega arith in
        subst (λ (n : ℕ). IsPairBefore (get_or xs j d) (get_or xs n d)) (sym same) (last (cases_lt j (i - 1)) same)

-- Sections that pass a test.

pub passes : (sections : List Section) (test : ℕ → Section → Bool) (offset index : ℕ) →
    PassesAt sections test (offset, index) ↔ (offset_if test index (slice_get sections index) ≡ Some offset)
passes sections test offset index = of (slice_get sections index)
  where
    by : (b : Bool) (at : ℕ) → ((at ≡ offset) × IsTrue b) ↔ ((if b then Some at else None) ≡ Some offset)
    by true at = ((λ both. ap Some both.0), (λ e. (cc, refl)))
    by false at = ((λ both. absurd (let t = both.1 in cc)), (λ e. absurd (cc)))

    of : (o : Option Section) → IsSomeAnd o (λ s. (s.offset ≡ offset) × IsTrue (test index s))
        ↔ (offset_if test index o ≡ Some offset)
    of None = ((λ no. absurd no), (λ e. absurd (cc)))
    of (Some s) = by (test index s) s.offset

-- A list with the sections that have an index below n.
abbrev pub ListsBelow : List Section → (ℕ → Section → Bool) → ℕ → List (ℕ × ℕ) → Type 0
ListsBelow sections test n xs = (e : ℕ × ℕ) → Contains xs e ↔ ((e.1 < n) × PassesAt sections test e)

pub lists_skip : (sections : List Section) (test : ℕ → Section → Bool) (i : ℕ) (xs : List (ℕ × ℕ)) →
    offset_if test i (slice_get sections i) ≡ None → ListsBelow sections test i xs → ListsBelow sections test (i + 1) xs
lists_skip sections test i xs none lists (o, k) = (
  (λ has. let (low, is) = (lists (o, k)).0 has in (omega arith, is)),
  (λ (low, is). cases is (cases_lt k i) low),
)
  where
    cases : PassesAt sections test (o, k) → (k < i) ⊎ (i ≤ k) → k < i + 1 → Contains xs (o, k)
    cases is (inl below) low = (lists (o, k)).1 (below, is)
    cases is (inr above) low =
        let same : k ≡ i = omega arith in
        let found = (passes sections test o i).0 (subst (λ (n : ℕ). PassesAt sections test (o, n)) same is) in
        absurd (cc)

pub lists_push : (sections : List Section) (test : ℕ → Section → Bool) (i at : ℕ) (xs : List (ℕ × ℕ)) →
    offset_if test i (slice_get sections i) ≡ Some at → ListsBelow sections test i xs →
    ListsBelow sections test (i + 1) (xs ++ (at, i) ∷ [])
lists_push sections test i at xs some lists (o, k) = (
  (λ has. ⊎_elim
      (λ old. let (low, is) = (lists (o, k)).0 old in (omega arith, is))
      (λ (same : (at, i) ≡ (o, k)). subst (λ (e : ℕ × ℕ). (e.1 < i + 1) × PassesAt sections test e) same
      (omega arith, (passes sections test at i).1 some))
      (Contains-push_cases xs (at, i) (o, k) has)),
  (λ (low, is). cases is (cases_lt k i) low),
)
  where
    cases : PassesAt sections test (o, k) → (k < i) ⊎ (i ≤ k) → k < i + 1 → Contains (xs ++ (at, i) ∷ []) (o, k)
    cases is (inl below) low = Contains-append_left xs ((at, i) ∷ []) (o, k) ((lists (o, k)).1 (below, is))
    cases is (inr above) low =
        let same : k ≡ i = omega arith in
        let found = (passes sections test o i).0 (subst (λ (n : ℕ). PassesAt sections test (o, n)) same is) in
        let there : at ≡ o = some-same at o (sym some ∙ found) in
        subst (Contains (xs ++ (at, i) ∷ [])) (λ j. (there j, sym same j)) (Contains-push xs (at, i))
      where
        some-same : (a b : ℕ) → Some a ≡ Some b → a ≡ b
        some-same a b e = cc

-- All sections, after sorting.
pub lists_all : (sections : List Section) (test : ℕ → Section → Bool) (n : ℕ) (xs sorted : List (ℕ × ℕ)) → length sections ≤ n →
    ListsBelow sections test n xs → IsPermutation xs sorted → AllPairs IsPairBefore sorted →
    ListsPairs (PassesAt sections test) sorted
lists_all sections test n xs sorted whole lists moved ascending = record {
  only = λ e has. ((lists e).0 (Contains-permutation sorted xs e (IsPermutation-sym xs sorted moved) has)).1;
  each = λ e is. Contains-permutation xs sorted e moved ((lists e).1 (within e (slice_get sections e.1) refl is, is));
  ordered = ascending;
}
  where
    within : (e : ℕ × ℕ) (o : Option Section) → slice_get sections e.1 ≡ o → PassesAt sections test e → e.1 < n
    within e None is passed =
        let Passes : Option Section → Type 0 = λ o. IsSomeAnd o (λ s. (s.offset ≡ e.0) × IsTrue (test e.1 s)) in
        absurd (subst Passes is passed)
    within e (Some s) is passed = let low = slice_get_within sections e.1 s is in omega arith

pub lists-same : (sections : List Section) (test other : ℕ → Section → Bool) (xs : List (ℕ × ℕ)) →
    ((i : ℕ) (s : Section) → test i s ≡ other i s) → ListsPairs (PassesAt sections test) xs →
    ListsPairs (PassesAt sections other) xs
lists-same sections test other xs same lists =
    subst (λ (f : ℕ → Section → Bool). ListsPairs (PassesAt sections f) xs) (λ j i s. same i s j) lists
