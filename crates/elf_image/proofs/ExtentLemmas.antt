-- Ranges in the order of their starts.
use Rattle.std.proofs.Common.{◌≡◌, ◌≢◌, ◌∙◌, sym, ap, subst, ℕ, ◌+◌, ◌≤◌, ◌<◌, inl, inr, ⊎_elim, Bool, List, length, get_or, rules}
use Rattle.std.proofs.Common.{max, nat_eq, Option, All, arith}
use Rattle.std.specs.List.{IsDistinct}
use Rattle.std.specs.List.Sorted.{IsNonDecreasingBy, IsPermutation}
use Rattle.std.proofs.lemmas.Bool.{cases_lt, cases_order, cases_eq, eq-eqb, ne_eqb, eqb-false}
use Rattle.std.proofs.lemmas.List.{get_or_default}
use Rattle.std.proofs.lemmas.List.Elements.{Contains-get_or}
use Rattle.std.proofs.lemmas.List.Sorted.{Contains-permutation, IsPermutation-sym}
use Rattle.std.proofs.lemmas.Map.Keys.{IsDistinct-from_apart, IsDistinct-IsPermutation, apart_from_distinct}
use Rattle.elf_image.specs.declared.extent.Extent.{Extent}
use Rattle.elf_image.specs.faults.LowestPlace.{IsLowest, SomeBelow}
use Rattle.elf_image.specs.internal.Extents.{SharesAnother, HavePlaces, MeetsAnother, MeetsNext, IsReach}
use Rattle.elf_image.proofs.LowestPlaces.{IsLowest-same}

-- A default range for indices past the end of a list.
abbrev pub no_extent : Extent
no_extent = record { start = 0; end = 0; place = 0 }

-- The place of the range with index k, if it overlaps another.
abbrev pub MeetingPlace : List Extent → ℕ → ℕ → Type 0
MeetingPlace extents k place = MeetsAnother extents k × (place ≡ (get_or extents k no_extent).place)

-- A range overlaps another if it overlaps a neighbour, or starts before the greatest end so far.

pub MeetsAnother-from_next : (extents : List Extent) (k : ℕ) → IsNonDecreasingBy (λ s. s.start) extents →
    All (λ s. s.start < s.end) extents → MeetsNext extents k → MeetsAnother extents k
MeetsAnother-from_next extents k rising not_empty next = (
  k + 1,
  next.0,
  (λ same. let e : k + 1 ≡ k = same in omega arith),
  λ d.
      let before = rising k (k + 1) d (omega arith) next.0 in
      let some = not_empty (k + 1) d next.0 in
      (omega arith, next.1 d),
)

pub MeetsNext-from_another : (extents : List Extent) (k reach : ℕ) (e : Extent) → IsNonDecreasingBy (λ s. s.start) extents →
    IsReach extents k reach → reach ≤ (get_or extents k e).start → MeetsAnother extents k → MeetsNext extents k
MeetsNext-from_another extents k reach e rising reached past (m, within, differ, meet) = search rules

pub IsReach-more : (extents : List Extent) (k reach new : ℕ) (e : Extent) → k < length extents →
    new ≡ max reach (get_or extents k e).end → IsReach extents k reach → IsReach extents (k + 1) new
IsReach-more extents k reach new e within is reached = record {
  above = λ m d below. elim (cases_lt m k) [
    | inl earlier ↦ let before = reached.above m d earlier in omega arith
    | inr from ↦ let last : m ≡ k = omega arith in
        let at : get_or extents m d ≡ get_or extents k e =
        ap (λ (j : ℕ). get_or extents j d) last ∙ get_or_default extents k d e within in
        let end = ap (λ (s : Extent). s.end) at in omega arith
  ];
  reached = elim (cases_lt reach (get_or extents k e).end) [
    | inl beyond ↦
        inr (k, omega arith, λ d. let end = ap (λ (s : Extent). s.end) (get_or_default extents k d e within) in omega arith)
    | inr by ↦ let same : new ≡ reach = omega arith in
        ⊎_elim (λ zero_reach. inl (same ∙ zero_reach))
        (λ (m, below, end). inr (m, omega arith, λ d. end d ∙ sym same)) reached.reached
  ];
}

-- Overlap by index is the same as sharing a number with a range of another place.

meeting_shares : (extents : List Extent) → HavePlaces extents → All (λ s. s.start < s.end) extents → (place : ℕ) →
    SomeBelow (length extents) (MeetingPlace extents) place → SharesAnother extents place
meeting_shares extents places not_empty place (k, within, ((m, there, differ, meet), at)) =
    let s = get_or extents k no_extent in
    let t = get_or extents m no_extent in
    let met = meet no_extent in
    let some_s = not_empty k no_extent within in
    let some_t = not_empty m no_extent there in
    let other : t.place ≢ s.place = elim (cases_order m k) [
      | inl same ↦ absurd (differ same)
      | inr apart ↦ elim apart [
        | inl earlier ↦ places m k no_extent earlier within
        | inr later ↦ λ same. places k m no_extent later there
            (sym same)
      ]
    ] in (
      s,
      t,
      Contains-get_or extents k no_extent within,
      Contains-get_or extents m no_extent there,
      (
        sym at,
        (λ same. other (same ∙ at)),
        elim (cases_lt s.start t.start) [
          | inl before ↦ (t.start, (omega arith, met.1), (omega arith, some_t))
          | inr after ↦ (s.start, (omega arith, some_s), (after, met.0))
        ],
      ),
    )

shares_meet : (extents : List Extent) → (place : ℕ) → SharesAnother extents place →
    SomeBelow (length extents) (MeetingPlace extents) place
shares_meet extents place (s, t, (k, within, is), (m, there, is_t), (at, other, (x, in_s, in_t))) =
    let same_s : (d : Extent) → get_or extents k d ≡ s = λ d. get_or_default extents k d s within ∙ is in
    let same_t : (d : Extent) → get_or extents m d ≡ t = λ d. get_or_default extents m d t there ∙ is_t in
    let differ : m ≢ k =
    λ same. other (ap (λ (r : Extent). r.place) (sym (same_t s) ∙ (ap (λ (j : ℕ). get_or extents j s) same ∙ same_s s)) ∙ at) in (
      k,
      within,
      (
        (
          m,
          there,
          differ,
          λ d.
              let start_s = ap (λ (r : Extent). r.start) (same_s d) in
              let end_s = ap (λ (r : Extent). r.end) (same_s d) in
              let start_t = ap (λ (r : Extent). r.start) (same_t d) in
              let end_t = ap (λ (r : Extent). r.end) (same_t d) in
              let low_s = in_s.0 in let high_s = in_s.1 in let low_t = in_t.0 in let high_t = in_t.1 in
              (omega arith, omega arith),
        ),
        sym at ∙ sym (ap (λ (r : Extent). r.place) (same_s no_extent)),
      ),
    )

pub IsLowest-shared : (extents : List Extent) (o : Option ℕ) (n : ℕ) → HavePlaces extents → All (λ s. s.start < s.end) extents →
    n ≡ length extents → IsLowest (SomeBelow n (MeetingPlace extents)) o → IsLowest (SharesAnother extents) o
IsLowest-shared extents o n places not_empty all is =
    let Below : ℕ → Type 0 = λ k. IsLowest (SomeBelow k (MeetingPlace extents)) o in
    IsLowest-same o (meeting_shares extents places not_empty) (shares_meet extents) (subst Below all is)

-- The order of ranges doesn't matter.

eqb_comm : (a b : ℕ) → nat_eq a b ≡ nat_eq b a
eqb_comm a b = search (rules, cases_eq, eq-eqb, ne_eqb)

pub HavePlaces-permutation : (xs ys : List Extent) → IsPermutation xs ys → HavePlaces xs → HavePlaces ys
HavePlaces-permutation xs ys order places =
    let same : Extent → Extent → Bool = λ s t. nat_eq s.place t.place in
    let flips : (s t : Extent) → same s t ≡ same t s = λ s t. eqb_comm s.place t.place in
    let apart : IsDistinct same xs =
    IsDistinct-from_apart same xs (λ i j d before within. ne_eqb _ _ (places i j d before within)) in
    λ i j d before within. eqb-false _ _
    (apart_from_distinct same ys i j d (IsDistinct-IsPermutation same flips xs ys order apart) before within)

pub IsLowest-permutation : (xs ys : List Extent) (o : Option ℕ) → IsPermutation xs ys → IsLowest (SharesAnother ys) o →
    IsLowest (SharesAnother xs) o
IsLowest-permutation xs ys o order is =
    let back = IsPermutation-sym xs ys order in
    IsLowest-same o
    (λ p (s, t, in_s, in_t, rest). (s, t, Contains-permutation ys xs s back in_s, Contains-permutation ys xs t back in_t, rest))
    (λ p (s, t, in_s, in_t, rest). (s, t, Contains-permutation xs ys s order in_s, Contains-permutation xs ys t order in_t, rest))
    is
