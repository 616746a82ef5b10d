-- How the loaded bytes of the input are in a written file, beside the new area.
use Rattle.std.proofs.Common.{◌≡◌, ◌∙◌, sym, refl, ℕ, ◌+◌, ◌≤◌, ◌<◌, ◌⊎◌, inl, inr, List, Option, Some, None, IsTrue, arith}
use Rattle.std.specs.Prelude.{Contains}
use Rattle.std.proofs.lemmas.Bool.{cases_lt}
use Rattle.std.proofs.lemmas.Option.{same_Some}
use Rattle.elf_image.specs.declared.segment.Segment.{Segment}
use Rattle.elf_image.specs.memory.Image.{is_load}
use Rattle.elf_parts.specs.declared.parts.Parts.{Parts}
use Rattle.elf_parts.specs.Parts.{PartsFit, size_of}
use Rattle.elf_plan.specs.declared.area.Area.{Area}
use Rattle.elf_plan.specs.declared.area.Shift.{Shift}
use Rattle.elf_plan.specs.Area.{loads_end, lowest_behind, moved_by}
use Rattle.elf_plan.specs.NewSegments.{CrossesNot}
use Rattle.elf_make.specs.PartPlaces.{IsAbove, IsBehind, MovesFrom}
use Rattle.elf_make.proofs.FileEnds.{ends-below, begins-behind}
use Rattle.elf_make.proofs.Loads.{moved-behind, moved-before}
use Rattle.elf_make.proofs.WrittenImages.{FitSegments}

-- In a file with a new segment all stay.
pub fit-above : (ps : List Segment) (area : Area) (parts : Parts) (delta : ℕ) → IsAbove ps area parts →
    FitSegments parts ps parts.keep delta
fit-above ps area parts delta above = record {
  enough = omega arith;
  moved = λ some. let low : parts.low ≡ 0 = above.low in let high : parts.high ≡ 0 = above.high in absurd (omega arith);
  apart = λ p there load before. apart p there load before (cases_lt 0 p.filesz);
  all = λ p there load behind some. let ends = ends-below ps p there load some in let keeps = above.keeps in absurd (omega arith);
}
  where
    apart : (p : Segment) → Contains ps p → IsTrue (is_load p) → p.offset < parts.keep → (0 < p.filesz) ⊎ (p.filesz ≤ 0) →
        p.offset + p.filesz ≤ parts.keep
    apart p there load before (inl some) =
        let ends : p.offset + p.filesz ≤ loads_end ps = ends-below ps p there load some in
        let keeps : loads_end ps ≤ parts.keep = above.keeps in
        omega arith
    apart p there load before (inr none) = omega arith

-- In any other those after the executable segment move.
pub fit-behind : (ps : List Segment) (area : Area) (shift : Shift) (parts : Parts) →
    ((p : Segment) → Contains ps p → CrossesNot shift.from p) → IsBehind ps area shift parts →
    FitSegments parts ps parts.keep shift.by
fit-behind ps area shift parts apart behind = made (lowest_behind shift.from ps) refl behind.moves
  where
    keeps : parts.keep ≡ shift.from
    keeps = behind.keeps

    crosses : (p : Segment) → Contains ps p → IsTrue (is_load p) → CrossesNot parts.keep p
    crosses p there load before =
        let within : p.offset < shift.from → p.offset + p.filesz ≤ shift.from = apart p there in
        let end = within (omega arith) in omega arith

    made : (o : Option ℕ) → lowest_behind shift.from ps ≡ o → MovesFrom o ps area shift parts →
        FitSegments parts ps parts.keep shift.by
    made None e moves = record {
      enough = omega arith;
      moved = λ some. let low : parts.low ≡ 0 = moves.0 in let high : parts.high ≡ 0 = moves.1 in absurd (omega arith);
      apart = crosses;
      all = λ p there load from some. let first = begins-behind shift.from ps p there load some (omega arith) in
          let differ : None ≡ Some first.0 = sym e ∙ first.1 in absurd (cc);
    }
    made (Some low) e moves = record {
      enough = omega arith;
      moved = λ some. let from : parts.low ≡ low = moves.0 in let at : parts.behind_at ≡ low + shift.by = moves.2 in omega arith;
      apart = crosses;
      all = all;
    }
      where
        all : (p : Segment) → Contains ps p → IsTrue (is_load p) → parts.keep ≤ p.offset → 0 < p.filesz →
            (parts.low ≤ p.offset) × (p.offset + p.filesz ≤ parts.high)
        all p there load from some =
            let first = begins-behind shift.from ps p there load some (omega arith) in
            let same : low ≡ first.0 = same_Some low first.0 (sym e ∙ first.1) in
            let below : first.0 ≤ p.offset = first.2 in
            let ends : p.offset + p.filesz ≤ loads_end ps = ends-below ps p there load some in
            let low_is : parts.low ≡ low = moves.0 in
            let high_is : parts.high ≡ loads_end ps = moves.1 in
            (omega arith, omega arith)

-- A stretch of a segment's bytes is beside the area, before the tail.
module _ (parts : Parts) (ps : List Segment) (delta input area : ℕ) (fit : FitSegments parts ps parts.keep delta)
    (can : PartsFit parts input area) where
  front : parts.keep ≤ parts.area_at
  front = can.apart

  behind_area : parts.area_at + area ≤ parts.behind_at
  behind_area = can.behind

  -- before the area, or after it
  data Goes (p : Segment) (k n : ℕ) : Type 0 where
    stays : moved_by parts.keep delta k ≡ k → k + n ≤ parts.keep → Goes p k n
    moves : moved_by parts.keep delta k ≡ k + delta → parts.low ≤ k → k + n ≤ parts.high →
        parts.low + delta ≡ parts.behind_at → Goes p k n

  goes : (p : Segment) (k n : ℕ) → Contains ps p → IsTrue (is_load p) → 0 < n → p.offset ≤ k →
      k + n ≤ p.offset + p.filesz → Goes p k n
  goes p k n there load some from within = cases (cases_lt p.offset parts.keep)
    where
      cases : (p.offset < parts.keep) ⊎ (parts.keep ≤ p.offset) → Goes p k n
      cases (inl before) =
          let end : p.offset + p.filesz ≤ parts.keep = fit.apart p there load before in
          stays (moved-before parts.keep delta k (omega arith)) (omega arith)
      cases (inr behind) =
          let bounds : (parts.low ≤ p.offset) × (p.offset + p.filesz ≤ parts.high) = fit.all p there load behind (omega arith) in
          let low : parts.low ≤ p.offset = bounds.0 in
          let high : p.offset + p.filesz ≤ parts.high = bounds.1 in
          moves (moved-behind parts.keep delta k (omega arith)) (omega arith) (omega arith) (fit.moved (omega arith))

  pub stretch-beside : (p : Segment) (k n : ℕ) → Contains ps p → IsTrue (is_load p) → 0 < n → p.offset ≤ k →
      k + n ≤ p.offset + p.filesz →
      (moved_by parts.keep delta k + n ≤ parts.area_at) ⊎ (parts.area_at + area ≤ moved_by parts.keep delta k)
  stretch-beside p k n there load some from within = cases (goes p k n there load some from within)
    where
      cases : Goes p k n →
          (moved_by parts.keep delta k + n ≤ parts.area_at) ⊎ (parts.area_at + area ≤ moved_by parts.keep delta k)
      cases (stays at end) = let f = front in inl (omega arith)
      cases (moves at low high place) = let b = behind_area in inr (omega arith)

  pub stretch-within : (p : Segment) (k n : ℕ) → Contains ps p → IsTrue (is_load p) → 0 < n → p.offset ≤ k →
      k + n ≤ p.offset + p.filesz → moved_by parts.keep delta k + n ≤ size_of parts
  stretch-within p k n there load some from within = cases (goes p k n there load some from within)
    where
      cases : Goes p k n → moved_by parts.keep delta k + n ≤ size_of parts
      cases (stays at end) = let f = front in let b = behind_area in omega arith
      cases (moves at low high place) = omega arith
