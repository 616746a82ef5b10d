-- Lower parts of one AUIPC that differ, in a list sorted by AUIPC.
use Rattle.std.proofs.Common.{◌≡◌, ◌≢◌, ◌∙◌, sym, subst, ap, refl, ℕ, zero, suc, ◌+◌, ◌-◌, ◌<◌, ◌≤◌, ℤ, pos, negsuc, ◌⊎◌, inl}
use Rattle.std.proofs.Common.{inr, ⊎_elim, List, length, slice_index_or, Option, arith}
use Rattle.std.specs.List.Sorted.{IsNonDecreasingBy}
use Rattle.std.proofs.lemmas.Bool.{cases_lt, cases_eq}
use Rattle.std.proofs.lemmas.List.{get_or_default}
use Rattle.elf_image.specs.declared.elf.Elf.{Elf}
use Rattle.elf_image.specs.faults.LowestPlace.{IsLowest, SomeBelow}
use Rattle.elf_code.specs.Roles.{PcrelLo}
use Rattle.elf_code.specs.ReferenceFaults.{IsLoMismatch}
use Rattle.elf_image.proofs.LowestPlaces.{IsLowest-same}
use Rattle.rv_reloc.specs.declared.lows.Low.{Low}
use Rattle.rv_reloc.specs.Lows.{AreLows, DiffersFromNext, TwoDiffer}

abbrev pub no_low : Low
no_low = record { hi = 0; imm = pos 0 }

abbrev pub at : List Low → ℕ → Low
at lows k = slice_index_or lows k no_low

abbrev pub DifferingPlace : List Low → ℕ → ℕ → Type 0
DifferingPlace lows k place = DiffersFromNext lows k × (place ≡ (at lows k).hi)

pub same_or_not : (a b : ℤ) → (a ≡ b) ⊎ (a ≢ b)
same_or_not (pos n) (pos m) =
    ⊎_elim (λ (same : n ≡ m). inl (ap pos same)) (λ (differ : n ≢ m). inr (λ (e : pos n ≡ pos m). differ (cc))) (cases_eq n m)
same_or_not (negsuc n) (negsuc m) =
    ⊎_elim (λ (same : n ≡ m). inl (ap negsuc same))
    (λ (differ : n ≢ m). inr (λ (e : negsuc n ≡ negsuc m). differ (cc))) (cases_eq n m)
same_or_not (pos n) (negsuc m) = inr (λ (e : pos n ≡ negsuc m). cc)
same_or_not (negsuc n) (pos m) = inr (λ (e : negsuc n ≡ pos m). cc)

differs_here : (lows : List Low) (j hi : ℕ) → j + 1 < length lows → (at lows j).hi ≡ hi → (at lows (j + 1)).hi ≡ hi →
    (at lows j).imm ≢ (at lows (j + 1)).imm → SomeBelow (length lows) (DifferingPlace lows) hi
differs_here lows j hi within first next apart = (
  j,
  omega arith,
  (
    (
      within,
      λ d.
          let e : slice_index_or lows j d ≡ at lows j = get_or_default lows j d no_low (omega arith) in
          let f : slice_index_or lows (j + 1) d ≡ at lows (j + 1) = get_or_default lows (j + 1) d no_low within in (
            ap (λ (l : Low). l.hi) e ∙ first ∙ sym next
                ∙ sym (ap (λ (l : Low). l.hi) f),
            λ same. apart (sym (ap (λ (l : Low). l.imm) e) ∙ same ∙ ap (λ (l : Low). l.imm) f),
          ),
    ),
    sym first,
  ),
)

-- If two lower parts differ, two neighbours between them do.
neighbours : (lows : List Low) (n j k hi : ℕ) → k ≡ j + suc n → IsNonDecreasingBy (λ l. l.hi) lows → k < length lows →
    (at lows j).hi ≡ hi → (at lows k).hi ≡ hi → (at lows j).imm ≢ (at lows k).imm →
    SomeBelow (length lows) (DifferingPlace lows) hi
neighbours lows zero j k hi gap rising within first last differ =
    let e : k ≡ j + 1 = omega arith in
    differs_here lows j hi (omega arith) first (sym (ap (λ (i : ℕ). (at lows i).hi) e) ∙ last)
    (λ same. differ (same ∙ sym (ap (λ (i : ℕ). (at lows i).imm) e)))
neighbours lows (suc n) j k hi gap rising within first last differ =
    let low = rising j (j + 1) no_low (omega arith) (omega arith) in
    let high = rising (j + 1) k no_low (omega arith) within in
    let next : (at lows (j + 1)).hi ≡ hi = omega arith in
    ⊎_elim
    (λ (same : (at lows j).imm ≡ (at lows (j + 1)).imm). neighbours lows n (j + 1) k hi (omega arith) rising within next last
    (λ equal. differ (same ∙ equal)))
    (λ (apart : (at lows j).imm ≢ (at lows (j + 1)).imm). differs_here lows j hi (omega arith) first next apart)
    (same_or_not (at lows j).imm (at lows (j + 1)).imm)

-- Two lower parts at any indices.
two_at : (lows : List Low) (j k hi : ℕ) → IsNonDecreasingBy (λ l. l.hi) lows → j < k → k < length lows → (at lows j).hi ≡ hi →
    (at lows k).hi ≡ hi → (at lows j).imm ≢ (at lows k).imm → SomeBelow (length lows) (DifferingPlace lows) hi
two_at lows j k hi rising less within first last differ =
    neighbours lows (k - j - 1) j k hi (omega arith) rising within first last differ

two_below : (lows : List Low) (hi : ℕ) → IsNonDecreasingBy (λ l. l.hi) lows → TwoDiffer lows hi →
    SomeBelow (length lows) (DifferingPlace lows) hi
two_below lows hi rising two =
    let (j, at_j, is_one) = two.listed in
    let (k, at_k, is_other) = two.listed' in
    let one : at lows j ≡ two.one = get_or_default lows j no_low two.one at_j ∙ is_one in
    let other : at lows k ≡ two.other = get_or_default lows k no_low two.other at_k ∙ is_other in
    let first = ap (λ (l : Low). l.hi) one ∙ two.of in
    let last = ap (λ (l : Low). l.hi) other ∙ two.of' in
    ⊎_elim
    (λ (less : j < k). two_at lows j k hi rising less at_k first last
    (λ same. two.differ (sym (ap (λ (l : Low). l.imm) one) ∙ same ∙ ap (λ (l : Low). l.imm) other)))
    (λ (more : k ≤ j). ⊎_elim
    (λ (above : k < j). two_at lows k j hi rising above at_j last first
    (λ same. two.differ (sym (ap (λ (l : Low). l.imm) one) ∙ sym same ∙ ap (λ (l : Low). l.imm) other)))
    (λ (upto : j ≤ k). let e : j ≡ k = omega arith in
    absurd (two.differ (sym (ap (λ (l : Low). l.imm) one) ∙ ap (λ (i : ℕ). (at lows i).imm) e ∙ ap (λ (l : Low). l.imm) other)))
    (cases_lt k j))
    (cases_lt j k)

two_from : (lows : List Low) (hi : ℕ) → SomeBelow (length lows) (DifferingPlace lows) hi → TwoDiffer lows hi
two_from lows hi (k, below, ((within, differ), place)) =
    let both = differ no_low in
    record {
      one = at lows k;
      listed = (k, below, get_or_default lows k (at lows k) no_low below);
      of = sym place;
      other = at lows (k + 1);
      listed' = (k + 1, within, get_or_default lows (k + 1) (at lows (k + 1)) no_low within);
      of' = sym both.0 ∙ sym place;
      differ = both.1;
    }

pub IsLowest-two : (lows : List Low) (i : ℕ) (o : Option ℕ) → IsNonDecreasingBy (λ l. l.hi) lows → i ≡ length lows →
    IsLowest (SomeBelow i (DifferingPlace lows)) o → IsLowest (TwoDiffer lows) o
IsLowest-two lows i o rising all is =
    IsLowest-same o (two_from lows) (λ hi. two_below lows hi rising)
    (subst (λ (n : ℕ). IsLowest (SomeBelow n (DifferingPlace lows)) o) all is)

-- The lower parts of a file's relocations.

mismatch_from : (elf : Elf) (lows : List Low) (hi : ℕ) → AreLows elf lows → TwoDiffer lows hi → IsLoMismatch elf hi
mismatch_from elf lows hi are two =
    let one = (are.all two.one).0 two.listed in
    let other = (are.all two.other).0 two.listed' in
    record {
      low = one.source;
      imm = two.one.imm;
      part = subst (λ (h : ℕ). PcrelLo elf one.source h two.one.imm) two.of one.part;
      low' = other.source;
      imm' = two.other.imm;
      part' = subst (λ (h : ℕ). PcrelLo elf other.source h two.other.imm) two.of' other.part;
      differ = two.differ;
    }

mismatch_two : (elf : Elf) (lows : List Low) (hi : ℕ) → AreLows elf lows → IsLoMismatch elf hi → TwoDiffer lows hi
mismatch_two elf lows hi are is = record {
  one = record { hi = hi; imm = is.imm };
  listed = (are.all (record { hi = hi; imm = is.imm })).1 (record { source = is.low; part = is.part });
  of = refl;
  other = record { hi = hi; imm = is.imm' };
  listed' = (are.all (record { hi = hi; imm = is.imm' })).1 (record { source = is.low'; part = is.part' });
  of' = refl;
  differ = is.differ;
}

pub IsLowest-mismatch : (elf : Elf) (lows : List Low) (o : Option ℕ) → AreLows elf lows → IsLowest (TwoDiffer lows) o →
    IsLowest (IsLoMismatch elf) o
IsLowest-mismatch elf lows o are is =
    IsLowest-same o (λ hi. mismatch_from elf lows hi are) (λ hi. mismatch_two elf lows hi are) is
