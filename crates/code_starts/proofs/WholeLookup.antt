-- Whole parts, and labels in one of them.
use Rattle.std.proofs.Common.{◌≡◌, ◌∙◌, sym, subst, ap, ℕ, ◌+◌, ◌-◌, ◌<◌, ◌≤◌, ℤ, pos, ◌≤ℤ◌, ◌<ℤ◌, ◌⊎◌, ⊎_elim, ◌↔◌, List, length}
use Rattle.std.proofs.Common.{slice_index_or, arith, []}
use Rattle.std.specs.List.{AllPairs, Contains, Any}
use Rattle.std.proofs.lemmas.Bool.{cases_lt}
use Rattle.std.proofs.lemmas.Int.{ints}
use Rattle.std.proofs.lemmas.List.{get_or_default}
use Rattle.elf_image.specs.declared.elf.Elf.{Elf}
use Rattle.elf_image.specs.declared.extent.Extent.{Extent}
use Rattle.elf_code.specs.Cells.{IsInOneWhole}
use Rattle.elf_code.specs.FileCode.{AreStarts}
use Rattle.elf_code.specs.Parts.{IsInTabled, IsCodePart, IsPart, StartsIn, IsWholePart}
use Rattle.elf_image.specs.internal.Extents.{IsInOneExtent}
use Rattle.code_starts.specs.declared.parts.Part.{Part}
use Rattle.code_starts.specs.Parts.{ArePartsApart, Precedes}
use Rattle.code_starts.specs.WholeParts.{AreWholeParts, HoldsBoth}
use Rattle.code_starts.proofs.StartLists.{starts_inside}

-- Parts that share an address are equal.

same_order : (elf : Elf) (start end start' end' a : ℕ) → IsPart elf start end → IsPart elf start' end' → start ≤ a → a < end →
    start' ≤ a → a < end' → start < start' → ⊥
same_order elf start end start' end' a part other low high low' high' less =
    part.neighbours start' less (omega arith) other.starts

pub same_start : (elf : Elf) (start end start' end' a : ℕ) → IsPart elf start end → IsPart elf start' end' → start ≤ a → a < end →
    start' ≤ a → a < end' → start ≡ start'
same_start elf start end start' end' a part other low high low' high' =
    ⊎_elim
    (λ (less : start < start'). absurd (same_order elf start end start' end' a part other low high low' high' less))
    (λ (more : start' ≤ start). ⊎_elim
    (λ (above : start' < start). absurd (same_order elf start' end' start end a other part low' high' low high above))
    (λ (not_above : start ≤ start'). omega arith)
    (cases_lt start' start))
    (cases_lt start start')

same_end_order : (elf : Elf) (start end start' end' a : ℕ) → IsPart elf start end → IsPart elf start' end' → start ≤ a → a < end →
    start' ≤ a → a < end' → end < end' → ⊥
same_end_order elf start end start' end' a part other low high low' high' less = other.neighbours end (omega arith) less part.ends

pub same_end : (elf : Elf) (start end start' end' a : ℕ) → IsPart elf start end → IsPart elf start' end' → start ≤ a → a < end →
    start' ≤ a → a < end' → end ≡ end'
same_end elf start end start' end' a part other low high low' high' =
    ⊎_elim
    (λ (less : end < end'). absurd (same_end_order elf start end start' end' a part other low high low' high' less))
    (λ (more : end' ≤ end). ⊎_elim
    (λ (above : end' < end). absurd (same_end_order elf start' end' start end a other part low' high' low high above))
    (λ (not_above : end ≤ end'). omega arith)
    (cases_lt end' end))
    (cases_lt end end')

-- The starts in a part are the file's starts between its bounds.
pub StartsIn-inside : (elf : Elf) (starts : List ℕ) (start end : ℕ) → AreStarts elf starts → IsCodePart elf start end → (a : ℕ) →
    (Contains starts a × (start ≤ a) × (a < end)) ↔ StartsIn elf start end a
StartsIn-inside elf starts start end are part a = (
  (λ (listed, low, high).
      let is = are.only a listed in
      let inside = starts_inside elf is.start is.end a is.is_start.starts in
      let first = same_start elf is.start is.end start end a is.is_start.part.part part.part inside.0 inside.1 low high in
      let last = same_end elf is.start is.end start end a is.is_start.part.part part.part inside.0 inside.1 low high in
      subst (λ (s : ℕ). StartsIn elf s end a) first (subst (λ (e : ℕ). StartsIn elf is.start e a) last is.is_start.starts)),
  (λ there.
      let inside = starts_inside elf start end a there in
      (are.each a (record { start = start; end = end; is_start = record { part = part; starts = there } }), inside.0, inside.1)),
)

-- A part is whole if one of its starts is in a range.
pub IsWholePart-starts : (elf : Elf) (tabled : List (ℕ × ℕ)) (start end : ℕ) (reaches : List Extent) (inside : List ℕ) →
    IsCodePart elf start end → ((a : ℕ) → Contains inside a ↔ StartsIn elf start end a) →
    ((a : ℕ) → IsInOneExtent reaches a (a + 1) ↔ Any (IsInTabled a) tabled) →
    Any (λ a. IsInOneExtent reaches a (a + 1)) inside ↔ IsWholePart elf tabled start end
IsWholePart-starts elf tabled start end reaches inside part are same = (
  (λ (k, a, within, is, covered). record {
    place = a;
    starts = record { part = part; starts = (are a).0 (k, within, is) };
    tabled_there = (same a).0 covered;
  }),
  (λ whole.
      let (k, within, is) = (are whole.place).1 whole.starts.starts in
      (k, whole.place, within, is, (same whole.place).1 whole.tabled_there)),
)

-- Labels in the same whole part.

pub AreApart-wholes : (elf : Elf) (tabled : List (ℕ × ℕ)) (wholes : List Part) → AreWholeParts elf tabled wholes →
    ArePartsApart wholes
AreApart-wholes elf tabled wholes are = record {
  has_bytes = λ k d within.
      (are.only (slice_index_or wholes k d)
      (k, within, get_or_default wholes k (slice_index_or wholes k d) d within)).starts.part.part.has_bytes;
  ordered = are.ordered;
}

pub IsInOneWhole-from : (elf : Elf) (tabled : List (ℕ × ℕ)) (wholes : List Part) (p : Part) (to from : ℤ) →
    AreWholeParts elf tabled wholes → Contains wholes p → HoldsBoth to from p → IsInOneWhole elf tabled to from
IsInOneWhole-from elf tabled wholes p to from are listed holds = record {
  start = p.start;
  end = p.end;
  whole = are.only p listed;
  to_in = holds.to_in;
  from_in = holds.from_in;
}

pub IsInOneWhole-part : (elf : Elf) (tabled : List (ℕ × ℕ)) (wholes : List Part) (to from : ℤ) → AreWholeParts elf tabled wholes →
    IsInOneWhole elf tabled to from → (p : Part) × Contains wholes p × HoldsBoth to from p
IsInOneWhole-part elf tabled wholes to from are is =
    let p : Part = record { start = is.start; end = is.end } in
    (p, are.each p is.whole, record { to_in = is.to_in; from_in = is.from_in })

-- The lower of two labels.
abbrev pub IsLower : ℤ → ℤ → ℤ → Type 0
IsLower low to from = (low ≡ to) ⊎ (low ≡ from)

-- A part that contains both labels starts at or below the lower one.
pub lower_address : (p : Part) (low to from : ℤ) → IsLower low to from → HoldsBoth to from p → pos p.start ≤ℤ low
lower_address p low to from lower holds =
    let (to_low, to_high) = holds.to_in in
    let (from_low, from_high) = holds.from_in in
    ⊎_elim (λ (same : low ≡ to). omega (arith, ints)) (λ (same : low ≡ from). omega (arith, ints)) lower

-- If a part contains both labels, the last part that starts at or below the lower label does.
pub last_holds_both : (wholes : List Part) (count : ℕ) (x p d : Part) (low to from : ℤ) → ArePartsApart wholes →
    low ≤ℤ to → low ≤ℤ from →
    IsLower low to from → 0 < count → count ≤ length wholes → x ≡ slice_index_or wholes (count - 1) d → pos x.start ≤ℤ low →
    ((k : ℕ) (d : Part) → count ≤ k → k < length wholes → low <ℤ pos (slice_index_or wholes k d).start) → Contains wholes p →
    HoldsBoth to from p → HoldsBoth to from x
last_holds_both wholes count x p d low to from are low_to low_from lower some bound is start above (k, within, there) holds =
    let (to_low, to_high) = holds.to_in in
    let (from_low, from_high) = holds.from_in in
    let first = lower_address p low to from lower holds in
    let at : slice_index_or wholes k d ≡ p = get_or_default wholes k d p within ∙ there in
    ⊎_elim
    (λ (early : k < count - 1).
    let apart : (slice_index_or wholes k d).end ≤ (slice_index_or wholes (count - 1) d).start =
    are.ordered k (count - 1) d early (omega arith) in
    let ends : (slice_index_or wholes k d).end ≡ p.end = ap (λ (q : Part). q.end) at in
    let begins : x.start ≡ (slice_index_or wholes (count - 1) d).start = ap (λ (q : Part). q.start) is in
    let bytes : (slice_index_or wholes (count - 1) d).start < (slice_index_or wholes (count - 1) d).end =
    are.has_bytes (count - 1) d (omega arith) in
    let finishes : x.end ≡ (slice_index_or wholes (count - 1) d).end = ap (λ (q : Part). q.end) is in
    let gap : p.end ≤ x.start = omega arith in
    let size : x.start < x.end = omega arith in
    beside x p low to from gap size start low_to low_from to_high from_high)
    (λ (late : count - 1 ≤ k). ⊎_elim
    (λ (near : k < count).
    let e : count - 1 ≡ k = omega arith in
    subst (HoldsBoth to from) (sym (is ∙ ap (λ (j : ℕ). slice_index_or wholes j d) e ∙ at)) holds)
    (λ (far : count ≤ k).
    let beyond = above k p far within in
    let same = ap (λ (q : Part). q.start) there in
    absurd (omega (arith, ints)))
    (cases_lt k count))
    (cases_lt k (count - 1))
  where
    beside : (x p : Part) (low to from : ℤ) → p.end ≤ x.start → x.start < x.end → pos x.start ≤ℤ low → low ≤ℤ to → low ≤ℤ from →
        to ≤ℤ pos p.end → from ≤ℤ pos p.end → HoldsBoth to from x
    beside x p low to from gap size start low_to low_from to_high from_high = record {
      to_in = (omega (arith, ints), omega (arith, ints));
      from_in = (omega (arith, ints), omega (arith, ints));
    }

-- If no part starts at or below the lower label, no part contains both.
pub none_holds_both : (wholes : List Part) (p : Part) (low to from : ℤ) → IsLower low to from →
    ((k : ℕ) (d : Part) → k < length wholes → low <ℤ pos (slice_index_or wholes k d).start) →
    Contains wholes p → HoldsBoth to from p → ⊥
none_holds_both wholes p low to from lower above (k, within, there) holds =
    let first = lower_address p low to from lower holds in
    let beyond = above k p within in
    let same = ap (λ (q : Part). q.start) there in
    omega (arith, ints)

-- Without ranges with exception tables there is no whole part.
pub whole-nowhere : (elf : Elf) (tabled : List (ℕ × ℕ)) (wholes : List Part) → length tabled ≡ 0 → wholes ≡ [] →
    AreWholeParts elf tabled wholes
whole-nowhere elf tabled wholes none empty = record {
  only = λ p listed. absurd (let (k, within, there) = subst (λ (xs : List Part). Contains xs p) empty listed in omega arith);
  each = λ p whole. absurd (let (k, r, within, there, inside) = whole.tabled_there in omega arith);
  ordered = subst (AllPairs Precedes) (sym empty) (λ i j d less within. absurd (omega arith));
}
