-- The part that contains an address.
use Rattle.std.proofs.Common.{◌≡◌, ◌≢◌, ◌∙◌, sym, ap, ℕ, ◌<◌, ◌≤◌, ⊎_elim, List, length, slice_index_or, arith}
use Rattle.std.specs.List.Sorted.{IsNonDecreasingBy}
use Rattle.std.proofs.lemmas.Bool.{cases_eq, cases_lt}
use Rattle.std.proofs.lemmas.List.{get_or_default}
use Rattle.elf_image.specs.declared.elf.Elf.{Elf}
use Rattle.code_starts.specs.declared.parts.Part.{Part}
use Rattle.code_starts.specs.Parts.{ArePartsApart, AreCodeParts, HoldsAddress}

pub AreApart-parts : (elf : Elf) (parts : List Part) → AreCodeParts elf parts → ArePartsApart parts
AreApart-parts elf parts are = record {
  has_bytes = λ k d within.
      (are.only (slice_index_or parts k d)
      (k, within, get_or_default parts k (slice_index_or parts k d) d within)).part.has_bytes;
  ordered = are.ordered;
}

pub rising : (parts : List Part) → ArePartsApart parts → IsNonDecreasingBy (λ p. p.start) parts
rising parts are i j d upto within =
    ⊎_elim
    (λ (less : i < j). let b = are.has_bytes i d (omega arith) in let o = are.ordered i j d less within in omega arith)
    (λ (not_less : j ≤ i).
    let e : i ≡ j = omega arith in
    let s = ap (λ (k : ℕ). (slice_index_or parts k d).start) e in
    omega arith)
    (cases_lt i j)

-- No address is in two parts.
pub same_holder : (parts : List Part) (a : ℕ) (p q : Part) → ArePartsApart parts → HoldsAddress parts a p → HoldsAddress parts a q →
    p ≡ q
same_holder parts a p q are first second =
    let (i, within, is) = first.listed in
    let (j, within', is') = second.listed in
    let at : slice_index_or parts j p ≡ q = get_or_default parts j p q within' ∙ is' in
    let p_start = ap (λ (r : Part). r.start) is in
    let p_end = ap (λ (r : Part). r.end) is in
    let q_start = ap (λ (r : Part). r.start) at in
    let q_end = ap (λ (r : Part). r.end) at in
    let p_above = first.above in
    let p_below = first.below in
    let q_above = second.above in
    let q_below = second.below in
    ⊎_elim
    (λ (less : i < j). let o = are.ordered i j p less within' in absurd (omega arith))
    (λ (not_less : j ≤ i). ⊎_elim
    (λ (same : i ≡ j). sym is ∙ ap (λ (k : ℕ). slice_index_or parts k p) same ∙ at)
    (λ (other : i ≢ j).
    let less : j < i = omega arith in let o = are.ordered j i p less within in absurd (omega arith))
    (cases_eq i j))
    (cases_lt i j)

pub found_holder : (parts : List Part) (a i : ℕ) (d p : Part) → ArePartsApart parts → i < length parts →
    (slice_index_or parts i d).start ≤ a → a < (slice_index_or parts i d).end → HoldsAddress parts a p →
    slice_index_or parts i d ≡ p
found_holder parts a i d p are within above below other =
    let found : HoldsAddress parts a (slice_index_or parts i d) = record {
      listed = (i, within, get_or_default parts i (slice_index_or parts i d) d within);
      above = above;
      below = below;
    } in
    same_holder parts a (slice_index_or parts i d) p are found other
