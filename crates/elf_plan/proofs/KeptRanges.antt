-- The ranges that move, segment by segment.
use Rattle.std.proofs.Common.{◌≡◌, ◌≢◌, sym, ap, refl, ℕ, ◌+◌, ◌<◌, ◌≤◌, ◌&&◌, ◌||◌, ◌↔◌, inl, inr, ⊎_elim, Bool, true, false}
use Rattle.std.proofs.Common.{IsTrue, List, [], ◌∷◌, ◌++◌, length, get_or, take, arith, ◌∙◌}
use Rattle.std.specs.Prelude.{nat_le, if◌then◌else◌, Contains}
use Rattle.std.specs.List.{list_any}
use Rattle.std.specs.List.Sorted.{IsPermutation}
use Rattle.std.proofs.lemmas.Grind.{common_steps}
use Rattle.std.proofs.lemmas.Bool.{or_cases, or_left, or_right, leb-true}
use Rattle.std.proofs.lemmas.List.Folds.{list_any_more}
use Rattle.std.proofs.lemmas.List.Elements.{Contains-append_left, Contains-push, Contains-push_cases}
use Rattle.std.proofs.lemmas.List.Sorted.{Contains-permutation, IsPermutation-sym}
use Rattle.elf_image.specs.declared.extent.Extent.{Extent}
use Rattle.elf_image.specs.declared.segment.Segment.{Segment}
use Rattle.elf_image.specs.declared.segment.TheConstants.{PT_LOAD}
use Rattle.elf_image.specs.internal.Extents.{IsInOneExtent}
use Rattle.elf_image.specs.memory.Image.{is_load}
use Rattle.elf_plan.specs.declared.area.Area.{Area}
use Rattle.elf_plan.specs.declared.area.Shift.{Shift}
use Rattle.elf_plan.specs.Area.{loads_end}
use Rattle.elf_plan.specs.Contents.{moves_with, stays}
use Rattle.elf_plan.specs.KeptBytes.{IsKeptBy}

-- The ranges cover the bytes that the segments load.
abbrev pub AreRanges : ℕ → List Segment → List Extent → Type 0
AreRanges from segments ranges = (start end : ℕ) →
    IsTrue (list_any (moves_with from start end) segments) ↔ IsInOneExtent ranges start end

-- The bytes of a segment move.
abbrev pub moves : ℕ → Segment → Bool
moves from p = is_load p && nat_le from p.offset

pub moves-true : (from : ℕ) (p : Segment) → p.kind ≡ PT_LOAD → from ≤ p.offset → moves from p ≡ true
moves-true from p load low = grind (arith, common_steps)

pub moves-other : (from : ℕ) (p : Segment) → p.kind ≢ PT_LOAD → moves from p ≡ false
moves-other from p other = grind (arith, common_steps)

pub moves-low : (from : ℕ) (p : Segment) → p.offset < from → moves from p ≡ false
moves-low from p low = both (is_load p) (nat_le from p.offset) (grind (arith, common_steps))
  where
    both : (a b : Bool) → b ≡ false → (a && b) ≡ false
    both a true e = absurd (cc)
    both true false e = refl
    both false false e = refl

-- A segment whose bytes don't move.
pub ranges-skipped : (from : ℕ) (segments : List Segment) (i : ℕ) (d : Segment) (ranges : List Extent) →
    i < length segments → AreRanges from (take i segments) ranges →
    moves from (get_or segments i d) ≡ false → AreRanges from (take (i + 1) segments) ranges
ranges-skipped from segments i d ranges within was out start end =
    let p = get_or segments i d in
    let more = list_any_more (moves_with from start end) segments i d within in
    let none : moves_with from start end p ≡ false = skipped (is_load p) (nat_le from p.offset) (nat_le p.offset start)
    (nat_le end (p.offset + p.filesz)) out in (
      λ h. ⊎_elim
          (λ (old : list_any (moves_with from start end) (take i segments) ≡ true). (was start end).0 old)
          (λ (new : moves_with from start end p ≡ true). absurd (no_both _ new none))
          (or_cases _ _ (sym more ∙ h)),
      λ h. more ∙ or_left _ _ ((was start end).1 h),
    )
  where
    skipped : (a b c d : Bool) → (a && b) ≡ false → (a && (b && (c && d))) ≡ false
    skipped true true c d e = absurd (cc)
    skipped true false c d e = refl
    skipped false b c d e = refl

    no_both : (b : Bool) → b ≡ true → b ≡ false → ⊥
    no_both b on off = cc

-- A segment whose bytes move.
pub ranges-added : (from : ℕ) (segments : List Segment) (i : ℕ) (d : Segment) (ranges : List Extent) (e : Extent) →
    i < length segments → AreRanges from (take i segments) ranges →
    moves from (get_or segments i d) ≡ true → e.start ≡ (get_or segments i d).offset →
    e.end ≡ (get_or segments i d).offset + (get_or segments i d).filesz →
    AreRanges from (take (i + 1) segments) (ranges ++ e ∷ [])
ranges-added from segments i d ranges e within was there start_is end_is start end =
    let p = get_or segments i d in
    let more = list_any_more (moves_with from start end) segments i d within in (
      λ h. ⊎_elim
          (λ (old : list_any (moves_with from start end) (take i segments) ≡ true).
          let (s, has, low, high) = (was start end).0 old in (s, Contains-append_left ranges (e ∷ []) s has, low, high))
          (λ (new : moves_with from start end p ≡ true).
          let (low, high) = bounds (is_load p) (nat_le from p.offset) p.offset start end (p.offset + p.filesz) there new in
          (e, Contains-push ranges e, omega arith, omega arith))
          (or_cases _ _ (sym more ∙ h)),
      λ (s, has, low, high). (more ∙ ⊎_elim
          (λ (old : Contains ranges s). or_left _ _ ((was start end).1 (s, old, low, high)))
          (λ (is : e ≡ s). or_right _ _ (
          let first : e.start ≡ s.start = ap (λ (x : Extent). x.start) is in
          let last : e.end ≡ s.end = ap (λ (x : Extent). x.end) is in
          found (is_load p) (nat_le from p.offset) p.offset start end (p.offset + p.filesz) there (omega arith) (omega arith)))
          (Contains-push_cases ranges e s has)),
    )
  where
    bounds : (a b : Bool) (o start end last : ℕ) → (a && b) ≡ true →
        (a && (b && (nat_le o start && nat_le end last))) ≡ true → (o ≤ start) × (end ≤ last)
    bounds false b o start end last e f = absurd (cc)
    bounds true false o start end last e f = absurd (cc)
    bounds true true o start end last e f = (grind (arith, common_steps), grind (arith, common_steps))

    found : (a b : Bool) (o start end last : ℕ) → (a && b) ≡ true → o ≤ start → end ≤ last →
        (a && (b && (nat_le o start && nat_le end last))) ≡ true
    found false b o start end last e low high = absurd (cc)
    found true false o start end last e low high = absurd (cc)
    found true true o start end last e low high = grind (arith, common_steps)

-- The order doesn't matter.
pub in_one-permutation : (xs ys : List Extent) (start end : ℕ) → IsPermutation xs ys →
    IsInOneExtent xs start end ↔ IsInOneExtent ys start end
in_one-permutation xs ys start end there = (
  λ (s, has, low, high). (s, Contains-permutation xs ys s there has, low, high),
  λ (s, has, low, high). (s, Contains-permutation ys xs s (IsPermutation-sym xs ys there) has, low, high),
)

-- Bytes that stay or move, with an area after the executable segment.
pub stays-behind : (segments : List Segment) (area : Area) (shift : Shift) (start end : ℕ) (ranges : List Extent) →
    area.tight ≡ false →
    IsTrue (list_any (moves_with shift.from start end) segments) ↔ IsInOneExtent ranges start end →
    IsTrue (stays segments area shift start end) ↔ IsKeptBy shift.from ranges start end
stays-behind segments area shift start end ranges behind are = (
  λ h. ⊎_elim
      (λ (front : nat_le end shift.from ≡ true). inl (leb-true _ _ front))
      (λ (moved : list_any (moves_with shift.from start end) segments ≡ true). inr (are.0 moved))
      (or_cases _ _ (sym (is area.tight behind) ∙ h)),
  λ h. is area.tight behind ∙ ⊎_elim
      (λ (front : end ≤ shift.from). or_left (nat_le end shift.from) _ (grind (arith, common_steps)))
      (λ (moved : IsInOneExtent ranges start end). or_right (nat_le end shift.from) _ (are.1 moved))
      h,
)
  where
    is : (tight : Bool) → tight ≡ false →
        (if tight then nat_le end (loads_end segments) else (nat_le end shift.from || list_any
        (moves_with shift.from start end) segments)) ≡ (nat_le end shift.from || list_any
        (moves_with shift.from start end) segments)
    is true e = absurd (cc)
    is false e = refl
