-- The ranges of segments, and segments that overlap.
use Rattle.std.proofs.Common.{◌≡◌, ◌≢◌, ◌∙◌, sym, ap, subst, refl, ℕ, ◌+◌, ◌<◌, inl, inr, ◌↔◌, IsTrue, List, [], ◌∷◌, ◌++◌, rules}
use Rattle.std.proofs.Common.{get_or, Option, Some, None, IfSome, IfNone, All, arith}
use Rattle.std.specs.List.{Contains}
use Rattle.std.specs.Option.{option_to_list}
use Rattle.std.proofs.lemmas.Bool.{cases_lt}
use Rattle.std.proofs.lemmas.List.{append-nil}
use Rattle.std.proofs.lemmas.List.Elements.{Contains-push, Contains-push_cases, Contains-append_left, Contains-get_or}
use Rattle.std.proofs.lemmas.List.Quantifiers.{all_pairs_push}
use Rattle.elf_image.specs.declared.extent.Extent.{Extent}
use Rattle.elf_image.specs.declared.faults.segment_extents.ExtentKind.{ExtentKind}
use Rattle.elf_image.specs.declared.faults.segment_extents.ExtentKind.TheVariants.{Addresses, CodeAddresses, FileBytes}
use Rattle.elf_image.specs.file.Header.{segment, segment_place}
use Rattle.elf_image.specs.memory.Image.{end_of, loads_address}
use Rattle.elf_image.specs.faults.SegmentLayout.{IsFileByte}
use Rattle.elf_image.specs.faults.LowestPlace.{IsLowest, SomeBelow}
use Rattle.elf_image.specs.internal.SegmentExtents.{IsCodeExtent, IsAddressExtent, IsFileExtent, IsExtentOf, AreExtents}
use Rattle.elf_image.specs.internal.Extents.{IsInExtent, SharesAnother}
use Rattle.elf_image.proofs.LoadLemmas.{loads-parts, loads-from_parts}
use Rattle.elf_image.proofs.LowestPlaces.{IsLowest-same}

-- Places ascend with the index.

segment_place-less : (file : List ℕ) (i j : ℕ) → i < j → segment_place file i < segment_place file j
segment_place-less file i j less = omega arith

segment_place-only : (file : List ℕ) (i j : ℕ) → segment_place file i ≡ segment_place file j → i ≡ j
segment_place-only file i j same = omega arith

-- Ranges with the same fields are the same.

Extent-same : (s t : Extent) → s.start ≡ t.start → s.end ≡ t.end → s.place ≡ t.place → s ≡ t
Extent-same s t start end place = λ i. record { start = start i; end = end i; place = place i }

-- A loop over the segments that appends the range of each segment that has one.

none_more : (IsExtent : ℕ → Extent → Type 0) (n : ℕ) (extents : List Extent) → ((s : Extent) → IsExtent n s → ⊥) →
    AreExtents IsExtent n extents → AreExtents IsExtent (n + 1) extents
none_more IsExtent n extents none are = record {
  each = λ s is_in. let is = are.each s is_in in let below = is.1 in (is.0, omega arith, is.2);
  all = λ i s below is. elim (cases_lt i n) [
    | inl earlier ↦ are.all i s earlier is
    | inr last ↦ let same : i ≡ n = omega arith in absurd (none s (subst (λ (j : ℕ). IsExtent j s) same is))
  ];
  ascending = are.ascending;
}

some_more : (file : List ℕ) (IsExtent : ℕ → Extent → Type 0)
    (unique : (i : ℕ) (s t : Extent) → IsExtent i s → IsExtent i t → s ≡ t)
    (at : (i : ℕ) (s : Extent) → IsExtent i s → s.place ≡ segment_place file i) (n : ℕ) (extents : List Extent) (t : Extent) →
    IsExtent n t → AreExtents IsExtent n extents → AreExtents IsExtent (n + 1) (extents ++ t ∷ [])
some_more file IsExtent unique at n extents t new are = record {
  each = λ s is_in. elim (Contains-push_cases extents t s is_in) [
    | inl old ↦ let is = are.each s old in let below = is.1 in (is.0, omega arith, is.2)
    | inr same ↦ (n, omega arith, subst (IsExtent n) same new)
  ];
  all = λ i s below is. elim (cases_lt i n) [
    | inl earlier ↦ Contains-append_left extents (t ∷ []) s (are.all i s earlier is)
    | inr last ↦ let same : i ≡ n = omega arith in
        let there : t ≡ s = unique n t s new (subst (λ (j : ℕ). IsExtent j s) same is) in
        subst (Contains (extents ++ t ∷ [])) there (Contains-push extents t)
  ];
  ascending = all_pairs_push (λ s r. s.place < r.place) extents t are.ascending
      (λ k d within. let is = are.each (get_or extents k d) (Contains-get_or extents k d within) in
      let old = at is.0 (get_or extents k d) is.2 in
      let place = at n t new in
      let less = segment_place-less file is.0 n is.1 in omega arith);
}

pub AreExtents-more : (file : List ℕ) (IsExtent : ℕ → Extent → Type 0)
    (unique : (i : ℕ) (s t : Extent) → IsExtent i s → IsExtent i t → s ≡ t)
    (at : (i : ℕ) (s : Extent) → IsExtent i s → s.place ≡ segment_place file i) (n : ℕ) (o : Option Extent)
    (old new : List Extent) →
    IfSome o (IsExtent n) → IfNone o ((s : Extent) → IsExtent n s → ⊥) → new ≡ old ++ option_to_list o →
    AreExtents IsExtent n old → AreExtents IsExtent (n + 1) new
AreExtents-more file IsExtent unique at n None old new some none is are =
    subst (AreExtents IsExtent (n + 1)) (sym (append-nil old) ∙ sym is) (none_more IsExtent n old none are)
AreExtents-more file IsExtent unique at n (Some t) old new some none is are =
    subst (AreExtents IsExtent (n + 1)) (sym is) (some_more file IsExtent unique at n old t some are)

pub not_empty : (IsExtent : ℕ → Extent → Type 0) (n : ℕ) (extents : List Extent) →
    ((i : ℕ) (s : Extent) → IsExtent i s → s.start < s.end) → AreExtents IsExtent n extents → All (λ s. s.start < s.end) extents
not_empty IsExtent n extents some are k d within =
    let is = are.each (get_or extents k d) (Contains-get_or extents k d within) in some is.0 (get_or extents k d) is.2

-- The place of a range that overlaps another is the place of a segment that does.

abbrev pub SharesSome : (List ℕ) → (ℕ → ℕ → Type 0) → ℕ → ℕ → ℕ → Type 0
SharesSome file IsOf n i place = ((j : ℕ) × (j < n) × (j ≢ i) × ((x : ℕ) × IsOf i x × IsOf j x)) × (place ≡ segment_place file i)

pub IsLowest-extents : (file : List ℕ) (IsExtent : ℕ → Extent → Type 0) (IsOf : ℕ → ℕ → Type 0)
    (at : (i : ℕ) (s : Extent) → IsExtent i s → s.place ≡ segment_place file i)
    (some : (i x : ℕ) → IsOf i x → (s : Extent) × IsExtent i s)
    (holds : (i x : ℕ) (s : Extent) → IsExtent i s → IsOf i x ↔ IsInExtent x s) (n : ℕ) (extents : List Extent) (o : Option ℕ) →
    AreExtents IsExtent n extents → IsLowest (SharesAnother extents) o → IsLowest (SomeBelow n (SharesSome file IsOf n)) o
IsLowest-extents file IsExtent IsOf at some holds n extents o are is =
    IsLowest-same o
    (λ p (s, t, in_s, in_t, (at_s, other, (x, hold_s, hold_t))).
    let of_s = are.each s in_s in
    let of_t = are.each t in_t in
    let place_s = at of_s.0 s of_s.2 in
    let place_t = at of_t.0 t of_t.2 in (
      of_s.0,
      of_s.1,
      (
        (
          of_t.0,
          of_t.1,
          (λ same. other (place_t ∙ (ap (segment_place file) same ∙ (sym place_s ∙ at_s)))),
          (x, (holds of_s.0 x s of_s.2).1 hold_s, (holds of_t.0 x t of_t.2).1 hold_t),
        ),
        sym at_s ∙ place_s,
      ),
    ))
    (λ p (i, below, ((j, below_j, differ, (x, in_i, in_j)), place)).
    let s = some i x in_i in
    let t = some j x in_j in
    let place_s = at i s.0 s.1 in
    let place_t = at j t.0 t.1 in (
      s.0,
      t.0,
      are.all i s.0 below s.1,
      are.all j t.0 below_j t.1,
      (
        place_s ∙ sym place,
        (λ same. differ (segment_place-only file j i (sym place_t ∙ (same ∙ place)))),
        (x, (holds i x s.0 s.1).0 in_i, (holds j x t.0 t.1).0 in_j),
      ),
    ))
    is

-- Addresses.

abbrev pub IsAddressOf : List ℕ → ℕ → ℕ → Type 0
IsAddressOf file i a = IsTrue (loads_address a (segment file i))

IsAddressExtent-unique : (file : List ℕ) (i : ℕ) (s t : Extent) → IsAddressExtent file i s → IsAddressExtent file i t → s ≡ t
IsAddressExtent-unique file i s t (load, start, end, some, place) (load', start', end', some', place') =
    Extent-same s t (start ∙ sym start') (end ∙ sym end') (place ∙ sym place')

pub IsAddressExtent-place : (file : List ℕ) (i : ℕ) (s : Extent) → IsAddressExtent file i s → s.place ≡ segment_place file i
IsAddressExtent-place file i s (load, start, end, some, place) = place

pub IsAddressExtent-not_empty : (file : List ℕ) (i : ℕ) (s : Extent) → IsAddressExtent file i s → s.start < s.end
IsAddressExtent-not_empty file i s (load, start, end, some, place) = some

pub IsAddressExtent-some : (file : List ℕ) (i a : ℕ) → IsAddressOf file i a → (s : Extent) × IsAddressExtent file i s
IsAddressExtent-some file i a loads =
    let p = segment file i in
    let parts = loads-parts a p loads in
    let low = parts.1 in
    let high = parts.2 in
    (record { start = p.vaddr; end = end_of p; place = segment_place file i }, (parts.0, refl, refl, omega arith, refl))

pub IsAddressExtent-holds : (file : List ℕ) (i a : ℕ) (s : Extent) → IsAddressExtent file i s →
    IsAddressOf file i a ↔ IsInExtent a s
IsAddressExtent-holds file i a s (load, start, end, some, place) = search (rules, loads-parts, segment, loads-from_parts)

-- Bytes of the file.

abbrev pub IsByteOf : List ℕ → ℕ → ℕ → Type 0
IsByteOf file i k = IsFileByte k (segment file i)

IsFileExtent-unique : (file : List ℕ) (i : ℕ) (s t : Extent) → IsFileExtent file i s → IsFileExtent file i t → s ≡ t
IsFileExtent-unique file i s t (load, start, end, some, place) (load', start', end', some', place') =
    Extent-same s t (start ∙ sym start') (end ∙ sym end') (place ∙ sym place')

pub IsFileExtent-place : (file : List ℕ) (i : ℕ) (s : Extent) → IsFileExtent file i s → s.place ≡ segment_place file i
IsFileExtent-place file i s (load, start, end, some, place) = place

pub IsFileExtent-not_empty : (file : List ℕ) (i : ℕ) (s : Extent) → IsFileExtent file i s → s.start < s.end
IsFileExtent-not_empty file i s (load, start, end, some, place) = some

pub IsFileExtent-some : (file : List ℕ) (i k : ℕ) → IsByteOf file i k → (s : Extent) × IsFileExtent file i s
IsFileExtent-some file i k (load, low, high) =
    let p = segment file i in
    (record { start = p.offset; end = p.offset + p.filesz; place = segment_place file i }, (load, refl, refl, omega arith, refl))

pub IsFileExtent-holds : (file : List ℕ) (i k : ℕ) (s : Extent) → IsFileExtent file i s → IsByteOf file i k ↔ IsInExtent k s
IsFileExtent-holds file i k s (load, start, end, some, place) = search rules

-- Addresses of executable segments.

-- A segment without addresses has no executable addresses.
IfNone-weaker : {X : Type 0} (o : Option X) {P Q : Type 0} → (P → Q) → IfNone o P → IfNone o Q
IfNone-weaker None to is = to is
IfNone-weaker (Some x) to is = is

pub IsCodeExtent-none : (file : List ℕ) (i : ℕ) (o : Option Extent) → IfNone o ((s : Extent) → IsAddressExtent file i s → ⊥) →
    IfNone o ((s : Extent) → IsCodeExtent file i s → ⊥)
IsCodeExtent-none file i o none = IfNone-weaker o (λ never s is. never s is.1) none

-- Ranges of any kind.

pub IsExtentOf-unique : (kind : ExtentKind) (file : List ℕ) (i : ℕ) (s t : Extent) → IsExtentOf kind file i s →
    IsExtentOf kind file i t → s ≡ t
IsExtentOf-unique Addresses file = IsAddressExtent-unique file
IsExtentOf-unique CodeAddresses file = λ i s t is is'. IsAddressExtent-unique file i s t is.1 is'.1
IsExtentOf-unique FileBytes file = IsFileExtent-unique file

pub IsExtentOf-place : (kind : ExtentKind) (file : List ℕ) (i : ℕ) (s : Extent) → IsExtentOf kind file i s →
    s.place ≡ segment_place file i
IsExtentOf-place Addresses file = IsAddressExtent-place file
IsExtentOf-place CodeAddresses file = λ i s is. IsAddressExtent-place file i s is.1
IsExtentOf-place FileBytes file = IsFileExtent-place file
