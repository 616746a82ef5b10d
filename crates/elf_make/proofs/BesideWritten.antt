-- A byte of the input in a file that was made, where no cell, no field of the header and no table is written over it.
use Rattle.std.proofs.Common.{◌≡◌, ◌∙◌, sym, ap, subst, ℕ, ◌+◌, ◌*◌, ◌≤◌, ◌<◌, ◌⊎◌, inl, inr, List, Bool, false, length, map}
use Rattle.std.proofs.Common.{get_or, arith}
use Rattle.std.specs.Prelude.{All}
use Rattle.std.proofs.lemmas.Bool.{cases_lt}
use Rattle.std.proofs.lemmas.List.{get_or-map, get_or_append_left, length-map}
use Rattle.std.proofs.lemmas.List.Elements.{All-append, All-cons}
use Rattle.byteorder.specs.Numbers.{length-bytes_low_first}
use Rattle.elf_image.specs.declared.segment.Segment.{Segment}
use Rattle.elf_image.specs.declared.segment.TheConstants.{PHDR_SIZE}
use Rattle.elf_image.specs.faults.FileFaults.{IsSound}
use Rattle.elf_image.specs.file.ParsedFile.{IsElfOf}
use Rattle.elf_parts.specs.declared.number_at.NumberAt.{NumberAt}
use Rattle.elf_parts.specs.Numbers.{patch_of}
use Rattle.elf_parts.specs.Parts.{size_of}
use Rattle.elf_parts.specs.Patches.{IsBeside, Patch}
use Rattle.elf_parts.specs.Spellings.{segment_table}
use Rattle.elf_parts.proofs.Patches.{get_or-put_all}
use Rattle.elf_parts.proofs.Spellings.{length-segment_table}
use Rattle.elf_plan.specs.Area.{moved_by}
use Rattle.elf_make.specs.CellNumbers.{IsCellNumber}
use Rattle.elf_make.specs.FileParts.{IsMade, header_numbers, number}
use Rattle.elf_make.specs.Source.{Source}
use Rattle.elf_make.proofs.CellPatches.{moved-less, moved-more}
use Rattle.elf_make.proofs.CellPlaces.{CellPlace, cell-place, stands_at}
use Rattle.elf_make.proofs.ImageWritten.{patches, within-all, written-all}
use Rattle.elf_make.proofs.MadeHeaders.{headers, joined}

-- what isn't in a range is before or after it
pub apart-of : (k o n : ℕ) → (o ≤ k → k < o + n → ⊥) → (k < o) ⊎ (o + n ≤ k)
apart-of k o n outside = cases (cases_lt k o) (cases_lt k (o + n))
  where
    cases : (k < o) ⊎ (o ≤ k) → (k < o + n) ⊎ (o + n ≤ k) → (k < o) ⊎ (o + n ≤ k)
    cases (inl before) other = inl before
    cases (inr start) (inr behind) = inr behind
    cases (inr start) (inl under) = absurd (outside start under)

module _ (s : Source) (tight : Bool) (w : List ℕ) (read : IsElfOf s.elf.file.now s.elf) (sound : IsSound s.elf.file.now)
    (bytes : All (λ b. b < 256) s.elf.file.now) (made : IsMade s tight w) where
  abbrev from : ℕ
  from = made.layout.shift.from

  abbrev step : ℕ
  step = made.layout.shift.by

  abbrev table_size : ℕ
  table_size = PHDR_SIZE * length s.elf.segments.items

  -- the written table, which is in its place
  abbrev pub table_patch : Patch
  table_patch = record { offset = made.program_headers_at; bytes = segment_table made.segments }

  -- A byte of the input, and where it goes.
  module _ (k at : ℕ) (goes : at ≡ moved_by from step k) where
    moved-beside : (o n : ℕ) → (k < o) ⊎ (o + n ≤ k) → (at < moved_by from step o) ⊎ (moved_by from step o + n ≤ at)
    moved-beside o n (inl before) =
        let less = moved-less from step k o before in let place = goes in inl (omega (arith, less, place))
    moved-beside o n (inr behind) =
        let more = moved-more from step k o n behind in let place = goes in inr (omega (arith, more, place))

    -- no cell has the byte in the input
    abbrev pub InNoCell : Type 0
    InNoCell = (i : ℕ) → i < length s.cells → (n : NumberAt) →
        (place : CellPlace s.elf.segments.items made.layout.shift (get_or s.cells i (0, 0, 0)) n) →
        stands_at place ≤ k → k < stands_at place + (get_or s.cells i (0, 0, 0)).1 → ⊥

    cell-beside : InNoCell → (i : ℕ) → i < length s.cells → IsBeside at (patch_of (get_or made.cells i (number 0 0 0)))
    cell-beside out i below =
        cases (moved-beside (stands_at place) cell.1 (apart-of k (stands_at place) cell.1 (out i below n place)))
      where
        cell : ℕ × ℕ × ℕ
        cell = get_or s.cells i (0, 0, 0)

        n : NumberAt
        n = get_or made.cells i (number 0 0 0)

        is : IsCellNumber s.elf made.layout.shift cell n
        is = made.are_cells.each i (0, 0, 0) (number 0 0 0) below

        place : CellPlace s.elf.segments.items made.layout.shift cell n
        place = cell-place s.elf made.layout.shift cell n is

        cases : (at < moved_by from step (stands_at place)) ⊎ (moved_by from step (stands_at place) + cell.1 ≤ at) →
            IsBeside at (patch_of n)
        cases (inl before) = let offset = place.offset in inl (omega (arith, offset, before))
        cases (inr behind) =
            let offset = place.offset in
            let width = is.width in
            let long = length-bytes_low_first 0 n.width n.value in
            inr (omega (arith, offset, width, long, behind))

    pub cells-beside : InNoCell → All (IsBeside at) (map patch_of made.cells)
    cells-beside out i e below =
        let long : length (map patch_of made.cells) ≡ length made.cells = length-map made.cells patch_of in
        let count : length made.cells ≡ length s.cells = made.are_cells.count in
        subst (IsBeside at) (sym (get_or-map patch_of made.cells i (number 0 0 0) e (omega (arith, long))))
        (cell-beside out i (omega (arith, long, count)))

    pub field-beside : (o n v : ℕ) → (at < o) ⊎ (o + n ≤ at) → IsBeside at (patch_of (number o n v))
    field-beside o n v (inl before) = inl before
    field-beside o n v (inr behind) = let long = length-bytes_low_first 0 n v in inr (omega (arith, long, behind))

    -- A table at the place to which the input's went has as many headers.
    pub table-beside : made.layout.area.tight ≡ false → made.program_headers_at ≡ moved_by from step s.elf.phoff →
        (k < s.elf.phoff) ⊎ (s.elf.phoff + table_size ≤ k) → IsBeside at table_patch
    table-beside not_tight stands apart = cases (moved-beside s.elf.phoff table_size apart)
      where
        long : length (segment_table made.segments) ≡ table_size
        long =
            length-segment_table made.segments
            ∙ ap (λ (qs : List Segment). PHDR_SIZE * length qs) (made.are_headers.kept not_tight)
            ∙ ap (λ (n : ℕ). PHDR_SIZE * n) made.are_headers.are.count

        cases : (at < moved_by from step s.elf.phoff) ⊎ (moved_by from step s.elf.phoff + table_size ≤ at) →
            IsBeside at table_patch
        cases (inl before) = let place = stands in inl (omega (arith, place, before))
        cases (inr behind) = let place = stands in let size = long in inr (omega (arith, place, size, behind))

    -- So it is what is there before anything is written over.
    pub beside-is : All (IsBeside at) (map patch_of made.cells) → IsBeside at table_patch →
        All (IsBeside at) (map patch_of (header_numbers made.fields)) → at < size_of made.layout.parts →
        get_or w at 0 ≡ get_or made.put.assembled.base at 0
    beside-is cells table fields within =
        let base : length made.put.assembled.base ≡ size_of made.layout.parts = made.put.assembled.joined.size in
        ap (λ (xs : List ℕ). get_or xs at 0) (written-all s tight w read sound bytes made)
        ∙ get_or-put_all (patches s tight w read sound bytes made) (joined s tight w made) at
        (within-all s tight w read sound bytes made)
        (All-append (IsBeside at) (map patch_of made.cells) (headers s tight w made) cells
        (All-cons (IsBeside at) table_patch (map patch_of (header_numbers made.fields)) table fields))
        ∙ get_or_append_left made.put.assembled.base made.tail 0 at (omega (arith, base, within))
