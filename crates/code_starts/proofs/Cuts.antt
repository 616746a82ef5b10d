-- Parts between neighbouring cuts, in a list of all cuts.
use Rattle.std.proofs.Common.{◌≡◌, ◌∙◌, sym, subst, ap, refl, ℕ, ◌+◌, ◌-◌, ◌<◌, ◌≤◌, ◌⊎◌, inl, inr, ⊎_elim, ◌↔◌, Bool, true}
use Rattle.std.proofs.Common.{false, not, ◌||◌, IsTrue, List, [], ◌∷◌, ◌++◌, length, slice_index, slice_index_or, arith}
use Rattle.std.specs.List.{Contains}
use Rattle.std.proofs.lemmas.Bool.{cases_lt}
use Rattle.std.proofs.lemmas.List.{get_or_default}
use Rattle.std.proofs.lemmas.List.Kept.{AllPairs-from_increasing}
use Rattle.std.proofs.lemmas.List.Elements.{Contains-append_left, Contains-push, Contains-push_cases}
use Rattle.std.proofs.lemmas.List.Quantifiers.{all_pairs_push}
use Rattle.std.specs.List.Sorted.{IsStrictlyIncreasing}
use Rattle.rv_code.specs.layout.Lists.{ListsAll}
use Rattle.elf_image.specs.declared.elf.Elf.{Elf}
use Rattle.elf_code.specs.Parts.{IsCut, IsInCode, IsCovered, IsPart, IsCodePart}
use Rattle.code_starts.specs.declared.parts.Part.{Part}
use Rattle.code_starts.specs.Parts.{AreZeros, IsCodeStretch, Precedes, AreCodeParts}

-- All cuts, by address.
pub record AreCuts (elf : Elf) (cuts : List ℕ) : Type 0 where
  pub ascending : IsStrictlyIncreasing cuts
  pub exact : (a : ℕ) → Contains cuts a ↔ IsCut elf a

-- Ascending numbers.

pub rises : (cuts : List ℕ) (i j : ℕ) → IsStrictlyIncreasing cuts → i < j → j < length cuts →
    slice_index cuts i < slice_index cuts j
rises cuts i j up less within = AllPairs-from_increasing cuts up i j 0 less within

pub index_below : (cuts : List ℕ) (i j : ℕ) → IsStrictlyIncreasing cuts → i < length cuts →
    slice_index cuts i < slice_index cuts j → i < j
index_below cuts i j up within less =
    ⊎_elim
    (λ (is : i < j). is)
    (λ (more : j ≤ i). ⊎_elim
    (λ (above : j < i). let r = rises cuts j i up above within in absurd (omega arith))
    (λ (not_above : i ≤ j). let e : i ≡ j = omega arith in let s = ap (slice_index cuts) e in absurd (omega arith))
    (cases_lt j i))
    (cases_lt i j)

-- The index of a cut in the list.
pub cut_at : (elf : Elf) (cuts : List ℕ) (a : ℕ) → AreCuts elf cuts → IsCut elf a →
    (k : ℕ) × (k < length cuts) × (slice_index cuts k ≡ a)
cut_at elf cuts a are is =
    let (k, within, there) = (are.exact a).1 is in
    (k, within, get_or_default cuts k 0 a within ∙ there)

pub is_cut : (elf : Elf) (cuts : List ℕ) (k : ℕ) → AreCuts elf cuts → k < length cuts → IsCut elf (slice_index cuts k)
is_cut elf cuts k are within = (are.exact (slice_index cuts k)).0 (k, within, get_or_default cuts k (slice_index cuts k) 0 within)

-- Two neighbouring cuts bound a part.
pub part_at : (elf : Elf) (cuts : List ℕ) (k : ℕ) → AreCuts elf cuts → k + 1 < length cuts → IsInCode elf (slice_index cuts k) →
    IsPart elf (slice_index cuts k) (slice_index cuts (k + 1))
part_at elf cuts k are within in_code = record {
  starts = is_cut elf cuts k are (omega arith);
  ends = is_cut elf cuts (k + 1) are within;
  has_bytes = rises cuts k (k + 1) are.ascending (omega arith) within;
  neighbours = λ a above below cut.
      let (j, inside, there) = cut_at elf cuts a are cut in
      let low = index_below cuts k j are.ascending (omega arith) (omega arith) in
      let high = index_below cuts j (k + 1) are.ascending inside (omega arith) in
      omega arith;
  in_code = in_code;
}

-- The bounds of a part are neighbouring cuts.
pub part_from : (elf : Elf) (cuts : List ℕ) (start end : ℕ) → AreCuts elf cuts → IsPart elf start end →
    (k : ℕ) × (k + 1 < length cuts)
    × (slice_index cuts k ≡ start) × (slice_index cuts (k + 1) ≡ end)
part_from elf cuts start end are part =
    let (j, at_j, starts) = cut_at elf cuts start are part.starts in
    let (k, at_k, ends) = cut_at elf cuts end are part.ends in
    let bytes = part.has_bytes in
    let less : j < k = index_below cuts j k are.ascending at_j (omega arith) in
    ⊎_elim
    (λ (between : j + 1 < k).
    let low = rises cuts j (j + 1) are.ascending (omega arith) (omega arith) in
    let high = rises cuts (j + 1) k are.ascending between at_k in
    absurd (part.neighbours (slice_index cuts (j + 1)) (omega arith) (omega arith) (is_cut elf cuts (j + 1) are (omega arith))))
    (λ (beside : k ≤ j + 1). let e : k ≡ j + 1 = omega arith in (j, omega arith, starts, sym (ap (slice_index cuts) e) ∙ ends))
    (cases_lt (j + 1) k)

-- Parts, one after another.

abbrev pub IsPartUpTo : Elf → ℕ → Part → Type 0
IsPartUpTo elf bound p = IsCodePart elf p.start p.end × (p.end ≤ bound)

pub parts_begin : (elf : Elf) (cuts : List ℕ) → AreCuts elf cuts → ListsAll (IsPartUpTo elf (slice_index cuts 0)) Precedes []
parts_begin elf cuts are = record {
  only = λ p (k, within, is). absurd (omega arith);
  each = λ p is.
      let (k, within, starts, ends) = part_from elf cuts p.start p.end are is.0.part in
      let below = is.1 in
      let up = ⊎_elim (λ (e : 0 < k + 1). rises cuts 0 (k + 1) are.ascending e within) (λ (e : k + 1 ≤ 0). absurd (omega arith))
      (cases_lt 0 (k + 1)) in
      absurd (omega arith);
  ordered = λ i j d less within. absurd (omega arith);
}

kept_part : (elf : Elf) (start end : ℕ) → IsPart elf start end → IsCodeStretch elf start end → IsCodePart elf start end
kept_part elf start end part kept = record { part = part; no_padding = λ zeros. kept.no_padding (zeros.uncovered, zeros.zeros) }

part_kept : (elf : Elf) (start end : ℕ) → IsCodePart elf start end → IsCodeStretch elf start end
part_kept elf start end code = record {
  in_code = code.part.in_code;
  no_padding = λ padding. code.no_padding (record { part = code.part; uncovered = padding.0; zeros = padding.1 });
}

-- A part that ends at or before the next cut ends at or before this cut, or is the range from this cut to the next.
part_cases : (elf : Elf) (cuts : List ℕ) (k : ℕ) (p : Part) → AreCuts elf cuts → k + 1 < length cuts →
    IsPartUpTo elf (slice_index cuts (k + 1)) p → IsPartUpTo elf (slice_index cuts k) p
    ⊎ ((p.start ≡ slice_index cuts k) × (p.end ≡ slice_index cuts (k + 1)))
part_cases elf cuts k p are within is =
    let (j, inside, starts, ends) = part_from elf cuts p.start p.end are is.0.part in
    let high = is.1 in
    ⊎_elim
    (λ (less : j < k).
    ⊎_elim
    (λ (far : j + 1 < k). let r = rises cuts (j + 1) k are.ascending far (omega arith) in inl (is.0, omega arith))
    (λ (near : k ≤ j + 1). let e : j + 1 ≡ k = omega arith in let s = ap (slice_index cuts) e in inl (is.0, omega arith))
    (cases_lt (j + 1) k))
    (λ (more : k ≤ j).
    ⊎_elim
    (λ (above : k < j). let r = rises cuts (k + 1) (j + 1) are.ascending (omega arith) inside in absurd (omega arith))
    (λ (not_above : j ≤ k). let e : k ≡ j = omega arith in
    inr (sym (ap (slice_index cuts) e ∙ starts), sym (ap (λ (n : ℕ). slice_index cuts (n + 1)) e ∙ ends)))
    (cases_lt k j))
    (cases_lt j k)

up_to : (elf : Elf) (low high : ℕ) (p : Part) → low ≤ high → IsPartUpTo elf low p → IsPartUpTo elf high p
up_to elf low high p above is = let below = is.1 in (is.0, omega arith)

-- A range with code.
pub parts_keeps : (elf : Elf) (cuts : List ℕ) (parts now : List Part) (k : ℕ) → AreCuts elf cuts → k + 1 < length cuts →
    IsCodeStretch elf (slice_index cuts k) (slice_index cuts (k + 1)) → now ≡ parts
    ++ record { start = slice_index cuts k; end = slice_index cuts (k + 1) } ∷ [] →
    ListsAll (IsPartUpTo elf (slice_index cuts k)) Precedes parts →
    ListsAll (IsPartUpTo elf (slice_index cuts (k + 1))) Precedes now
parts_keeps elf cuts parts now k are within kept pushed listed =
    subst (ListsAll (IsPartUpTo elf (slice_index cuts (k + 1))) Precedes) (sym pushed) (record {
      only = λ p is_in. ⊎_elim
          (λ before. up_to elf _ _ p low (listed.only p before))
          (λ (same : x ≡ p). subst (IsPartUpTo elf (slice_index cuts (k + 1))) same (code, omega arith))
          (Contains-push_cases parts x p is_in);
      each = λ p is. ⊎_elim
          (λ before. Contains-append_left parts (x ∷ []) p (listed.each p before))
          (λ (starts, ends). subst (Contains (parts ++ x ∷ [])) (λ i. record { start = sym starts i; end = sym ends i })
          (Contains-push parts x))
          (part_cases elf cuts k p are within is);
      ordered = all_pairs_push Precedes parts x listed.ordered
          (λ j d inside.
          (listed.only (slice_index_or parts j d) (j, inside, get_or_default parts j (slice_index_or parts j d) d inside)).1);
    })
  where
    x : Part
    x = record { start = slice_index cuts k; end = slice_index cuts (k + 1) }

    code : IsCodePart elf (slice_index cuts k) (slice_index cuts (k + 1))
    code = kept_part elf _ _ (part_at elf cuts k are within kept.in_code) kept

    low : slice_index cuts k ≤ slice_index cuts (k + 1)
    low = let r = rises cuts k (k + 1) are.ascending (omega arith) within in omega arith

-- A range without code.
pub parts_drops : (elf : Elf) (cuts : List ℕ) (parts : List Part) (k : ℕ) → AreCuts elf cuts → k + 1 < length cuts →
    (IsCodeStretch elf (slice_index cuts k) (slice_index cuts (k + 1)) → ⊥) →
    ListsAll (IsPartUpTo elf (slice_index cuts k)) Precedes parts →
    ListsAll (IsPartUpTo elf (slice_index cuts (k + 1))) Precedes parts
parts_drops elf cuts parts k are within dropped listed = record {
  only = λ p is_in. up_to elf _ _ p low (listed.only p is_in);
  each = λ p is. ⊎_elim
      (λ before. listed.each p before)
      (λ (starts, ends). absurd
      (dropped (subst (λ (s : ℕ). IsCodeStretch elf s (slice_index cuts (k + 1))) starts
      (subst (IsCodeStretch elf p.start) ends (part_kept elf p.start p.end is.0)))))
      (part_cases elf cuts k p are within is);
  ordered = listed.ordered;
}
  where
    low : slice_index cuts k ≤ slice_index cuts (k + 1)
    low = let r = rises cuts k (k + 1) are.ascending (omega arith) within in omega arith

-- The last part ends at a cut.
pub parts_all : (elf : Elf) (cuts : List ℕ) (parts : List Part) (k : ℕ) → AreCuts elf cuts → length cuts ≤ k + 1 →
    ListsAll (IsPartUpTo elf (slice_index cuts k)) Precedes parts → k < length cuts → AreCodeParts elf parts
parts_all elf cuts parts k are all listed within = record {
  only = λ p is_in. (listed.only p is_in).0;
  each = λ p is.
      let (j, inside, starts, ends) = part_from elf cuts p.start p.end are is.part in
      ⊎_elim
      (λ (less : j + 1 < k). let r = rises cuts (j + 1) k are.ascending less within in listed.each p (is, omega arith))
      (λ (more : k ≤ j + 1).
      let e : j + 1 ≡ k = omega arith in
      let s = ap (slice_index cuts) e in
      listed.each p (is, omega arith))
      (cases_lt (j + 1) k);
  ordered = listed.ordered;
}

-- Without cuts there are no parts.
pub parts_none : (elf : Elf) (cuts : List ℕ) (parts : List Part) (bound : ℕ) → AreCuts elf cuts → length cuts ≡ 0 →
    ListsAll (IsPartUpTo elf bound) Precedes parts → AreCodeParts elf parts
parts_none elf cuts parts bound are none listed = record {
  only = λ p is_in. (listed.only p is_in).0;
  each = λ p is. let (j, inside, starts, ends) = part_from elf cuts p.start p.end are is.part in absurd (omega arith);
  ordered = listed.ordered;
}

-- The condition for keeping a part.
pub kept_if : (elf : Elf) (start end : ℕ) (covered zeros : Bool) → IsInCode elf start → IsTrue covered ↔ IsCovered elf start end →
    IsTrue zeros ↔ AreZeros elf start end → IsTrue (covered || not zeros) ↔ IsCodeStretch elf start end
kept_if elf start end true zeros in_code cover blank =
    (λ _. record { in_code = in_code; no_padding = λ padding. padding.0 (cover.0 refl) }, λ _. refl)
kept_if elf start end false true in_code cover blank = (
  λ no. let e : false ≡ true = no in
      absurd (cc),
  λ kept. absurd (kept.no_padding (λ is. let e : false ≡ true = cover.1 is in cc, blank.0 refl)),
)
kept_if elf start end false false in_code cover blank =
    (λ _. record { in_code = in_code; no_padding = λ padding. let e : false ≡ true = blank.1 padding.1 in cc }, λ _. refl)

-- Facts on the values that the loop reads at an index.

read_at : (cuts : List ℕ) (k a : ℕ) → k < length cuts → a ≡ slice_index_or cuts k a → a ≡ slice_index cuts k
read_at cuts k a within is = is ∙ get_or_default cuts k a 0 within

pub parts_push : (elf : Elf) (cuts : List ℕ) (parts now : List Part) (k start end : ℕ) → AreCuts elf cuts → k < length cuts - 1 →
    start ≡ slice_index_or cuts k start → end ≡ slice_index_or cuts (k + 1) end → IsCodeStretch elf start end → now ≡ parts
    ++ record { start = start; end = end } ∷ [] → ListsAll (IsPartUpTo elf (slice_index cuts k)) Precedes parts →
    ListsAll (IsPartUpTo elf (slice_index cuts (k + 1))) Precedes now
parts_push elf cuts parts now k start end are within starts ends kept pushed listed =
    let s = read_at cuts k start (omega arith) starts in
    let e = read_at cuts (k + 1) end (omega arith) ends in
    parts_keeps elf cuts parts now k are (omega arith)
    (subst (λ (a : ℕ). IsCodeStretch elf a (slice_index cuts (k + 1))) s (subst (IsCodeStretch elf start) e kept))
    (pushed ∙ (λ i. parts ++ record { start = s i; end = e i } ∷ [])) listed

pub parts_skip : (elf : Elf) (cuts : List ℕ) (parts : List Part) (k start end : ℕ) → AreCuts elf cuts → k < length cuts - 1 →
    start ≡ slice_index_or cuts k start → end ≡ slice_index_or cuts (k + 1) end → (IsCodeStretch elf start end → ⊥) →
    ListsAll (IsPartUpTo elf (slice_index cuts k)) Precedes parts →
    ListsAll (IsPartUpTo elf (slice_index cuts (k + 1))) Precedes parts
parts_skip elf cuts parts k start end are within starts ends dropped listed =
    let s = read_at cuts k start (omega arith) starts in
    let e = read_at cuts (k + 1) end (omega arith) ends in
    parts_drops elf cuts parts k are (omega arith)
    (λ kept. dropped
    (subst (λ (a : ℕ). IsCodeStretch elf a end) (sym s) (subst (IsCodeStretch elf (slice_index cuts k)) (sym e) kept))) listed

pub parts_end : (elf : Elf) (cuts : List ℕ) (parts : List Part) (k : ℕ) → AreCuts elf cuts → k ≡ length cuts - 1 →
    ListsAll (IsPartUpTo elf (slice_index cuts k)) Precedes parts → AreCodeParts elf parts
parts_end elf cuts parts k are all listed =
    ⊎_elim
    (λ (some : 0 < length cuts). parts_all elf cuts parts k are (omega arith) listed (omega arith))
    (λ (none : length cuts ≤ 0). parts_none elf cuts parts (slice_index cuts k) are (omega arith) listed)
    (cases_lt 0 (length cuts))

-- Neighbouring cuts ascend.
pub read_rises : (elf : Elf) (cuts : List ℕ) (k start end : ℕ) → AreCuts elf cuts → k < length cuts - 1 →
    start ≡ slice_index_or cuts k start → end ≡ slice_index_or cuts (k + 1) end → start < end
read_rises elf cuts k start end are within starts ends =
    let s = read_at cuts k start (omega arith) starts in
    let e = read_at cuts (k + 1) end (omega arith) ends in
    let r = rises cuts k (k + 1) are.ascending (omega arith) (omega arith) in
    omega arith
