-- The code cells of a written file hold their contents.
use Rattle.std.proofs.Common.{◌≡◌, ◌∙◌, sym, ap, subst, refl, ℕ, zero, suc, ◌+◌, ◌*◌, ◌≤◌, ◌<◌, ◌⊎◌, inl, inr, List, Some, Bool}
use Rattle.std.proofs.Common.{true, false, length, map, get_or, arith}
use Rattle.std.specs.Prelude.{All, AllPairs, Contains}
use Rattle.std.proofs.lemmas.List.{get_or-map, get_or_default, length-map}
use Rattle.byteorder.specs.Endian.{little_bytes}
use Rattle.byteorder.specs.Numbers.{length-bytes_low_first}
use Rattle.elf_image.specs.declared.segment.Segment.{Segment}
use Rattle.elf_image.specs.declared.segment.TheConstants.{PHDR_SIZE}
use Rattle.elf_image.specs.faults.FileFaults.{IsSound}
use Rattle.elf_image.specs.file.Header.{header_size, segments_of}
use Rattle.elf_image.specs.file.ParsedFile.{IsElfOf}
use Rattle.elf_image.specs.memory.Image.{LoadOnce}
use Rattle.rv_code.specs.machine.MemoryNumbers.{number_in}
use Rattle.elf_image.specs.memory.Executables.{executable_of, memory_of}
use Rattle.elf_parts.specs.declared.number_at.NumberAt.{NumberAt}
use Rattle.elf_parts.specs.Numbers.{patch_of}
use Rattle.elf_parts.specs.Parts.{size_of}
use Rattle.elf_parts.specs.Patches.{Patch, IsWithin, Stands}
use Rattle.elf_parts.specs.Patches as patches
use Rattle.elf_parts.specs.Spellings.{segment_table}
use Rattle.elf_parts.proofs.Spellings.{length-segment_table}
use Rattle.elf_plan.specs.Area.{moved_by, loads_end}
use Rattle.elf_make.specs.CellNumbers.{IsCellNumber}
use Rattle.elf_plan.specs.FileLayout.{is_kept_table}
use Rattle.elf_make.specs.FileParts.{IsMade}
use Rattle.file_room.specs.Room.{greatest_align}
use Rattle.elf_make.specs.Source.{Source}
use Rattle.elf_make.specs.WrittenFile.{AreApart}
use Rattle.elf_make.proofs.CellPatches.{moved-more}
use Rattle.elf_make.proofs.CellPieces.{CanHoldPiece}
use Rattle.elf_make.proofs.CellPlaces.{CellPlace, IsBesideHeaders, stands_at, cell-place, numbers-apart, beside-headers}
use Rattle.elf_make.proofs.FileEnds.{ends-below}
use Rattle.elf_make.proofs.HeldNumbers.{number-stands, cell-held}
use Rattle.elf_make.proofs.LaidOut.{stretch-within}
use Rattle.elf_make.proofs.MadeHeaders.{joined, headers, written-is, cells-within, with_cells-size, headers-within}
use Rattle.elf_make.proofs.MadeHeaders.{fields-in_header, segments-written}
use Rattle.elf_make.proofs.MadeInput.{moved-above, moved-none, input-once, file-once, offset-tight, tight-is, by-tight, crosses}
use Rattle.elf_make.proofs.MadeInput.{parts-behind, keep-behind}
use Rattle.elf_make.proofs.SameBreak.{rounded_up-above, align-above}
use Rattle.elf_make.proofs.WrittenImages.{AreNewLoads}

module _ (s : Source) (tight : Bool) (w : List ℕ) (read : IsElfOf s.elf.file.now s.elf) (sound : IsSound s.elf.file.now)
    (made : IsMade s tight w) (can : All (CanHoldPiece s.elf) s.cells) where
  none_cell : ℕ × ℕ × ℕ
  none_cell = (0, 0, 0)

  none_number : NumberAt
  none_number = record { offset = 0; width = 0; value = 0 }

  abbrev cell : ℕ → ℕ × ℕ × ℕ
  cell i = get_or s.cells i none_cell

  abbrev put_number : ℕ → NumberAt
  put_number i = get_or made.cells i none_number

  count : length made.cells ≡ length s.cells
  count = made.are_cells.count

  is_number : (i : ℕ) → i < length s.cells → IsCellNumber s.elf made.layout.shift (cell i) (put_number i)
  is_number i below = made.are_cells.each i none_cell none_number below

  some : (i : ℕ) → i < length s.cells → 0 < (cell i).1
  some i below = (can i none_cell below).some

  place : (i : ℕ) → i < length s.cells → CellPlace s.elf.segments.items made.layout.shift (cell i) (put_number i)
  place i below = cell-place s.elf made.layout.shift (cell i) (put_number i) (is_number i below)

  apart-all : AllPairs AreApart s.cells → AllPairs patches.AreApart (map patch_of made.cells)
  apart-all apart i j e less below =
      subst (λ (p : Patch). patches.AreApart p (get_or (map patch_of made.cells) j e))
      (sym (get_or-map patch_of made.cells i none_number e (omega (arith, count, inside, less))))
      (subst (patches.AreApart (patch_of (put_number i)))
      (sym (get_or-map patch_of made.cells j none_number e (omega (arith, count, inside))))
      (numbers-apart s.elf.segments.items made.layout.shift (cell i) (cell j) (put_number i) (put_number j)
      (file-once s tight w read sound made)
      (place i before) (place j inside) (is_number i before).width (is_number j inside).width (some i before) (some j inside)
      (apart i j none_cell less inside)))
    where
      long : length (map patch_of made.cells) ≡ length made.cells
      long = length-map made.cells patch_of

      inside : j < length s.cells
      inside = omega (arith, long, count, below)

      before : i < length s.cells
      before = omega (arith, inside, less)

  -- one cell
  module _ (i : ℕ) (below : i < length s.cells) where
    abbrev at : ℕ
    at = stands_at (place i below)

    abbrev segment : Segment
    segment = (place i below).segment

    abbrev wide_by : ℕ
    wide_by = (cell i).1

    in_file : at + wide_by ≤ segment.offset + segment.filesz
    in_file = let inside = (place i below).in_file in omega arith

    has_bytes : 0 < segment.filesz
    has_bytes = let inside = (place i below).in_file in let w_some = some i below in omega arith

    has_headers : 0 < length s.elf.segments.items
    has_headers = let there = (place i below).there in let inside = there.1 in omega arith

    beside : IsBesideHeaders s.elf.phoff (s.elf.phoff + PHDR_SIZE * length s.elf.segments.items) at wide_by
    beside = beside-headers s.elf made.layout.shift (cell i) (put_number i) (place i below) (input-once s tight w read sound made)
        (some i below) has_headers (can i none_cell below).no_header

    moved_at : (put_number i).offset ≡ moved_by made.layout.shift.from made.layout.shift.by at
    moved_at = (place i below).offset

    width : (put_number i).width ≡ wide_by
    width = (is_number i below).width

    abbrev IsBesidePut : Patch → Type 0
    IsBesidePut p =
        (p.offset + length p.bytes ≤ (put_number i).offset) ⊎ ((put_number i).offset + (put_number i).width ≤ p.offset)

    table-size : length (segment_table made.segments) ≡ PHDR_SIZE * length made.segments
    table-size = length-segment_table made.segments

    -- it ends before the tail
    before-tail : (put_number i).offset + (put_number i).width ≤ size_of made.layout.parts
    before-tail = cases tight refl
      where
        cases : (b : Bool) → tight ≡ b → (put_number i).offset + (put_number i).width ≤ size_of made.layout.parts
        cases true e =
            let stays : (put_number i).offset ≡ at =
            moved_at ∙ moved-none made.layout.shift.from made.layout.shift.by at (by-tight s tight w read sound made e) in
            let ends : segment.offset + segment.filesz ≤ loads_end s.elf.segments.items =
            ends-below s.elf.segments.items segment (place i below).there (place i below).load has_bytes in
            let keeps = (made.laid_out.above (tight-is s tight w read sound made ∙ e)).keeps in
            let apart = made.laid_out.can.apart in
            let behind = made.laid_out.can.behind in
            omega (arith, stays, width, in_file, ends, keeps, apart, behind)
        cases false e =
            let from : at + wide_by ≤ segment.offset + segment.filesz = in_file in
            let within : moved_by made.layout.parts.keep made.layout.shift.by at + wide_by ≤ size_of made.layout.parts =
            stretch-within made.layout.parts s.elf.segments.items made.layout.shift.by (length s.elf.file.now)
            (length made.layout.bytes.items) (parts-behind s tight w read sound made e) made.laid_out.can
            segment at wide_by (place i below).there (place i below).load (some i below) (omega arith) from in
            let same : moved_by made.layout.parts.keep made.layout.shift.by at ≡ (put_number i).offset =
            ap (λ (k : ℕ). moved_by k made.layout.shift.by at) (keep-behind s tight w read sound made e) ∙ sym moved_at in
            omega (arith, within, same, width)

    -- beside the table in a file with a new segment, where it is after all that is loaded
    beside-above : tight ≡ true → (made.program_headers_at + length (segment_table made.segments) ≤ (put_number i).offset)
        ⊎ ((put_number i).offset + (put_number i).width ≤ made.program_headers_at)
    beside-above e =
        let stays : (put_number i).offset ≡ at =
        moved_at ∙ moved-none made.layout.shift.from made.layout.shift.by at (by-tight s tight w read sound made e) in
        let ends : segment.offset + segment.filesz ≤ loads_end s.elf.segments.items =
        ends-below s.elf.segments.items segment (place i below).there (place i below).load has_bytes in
        let unit = align-above s.elf.segments.items in
        let above =
        rounded_up-above (greatest_align s.elf.segments.items) (loads_end s.elf.segments.items) (omega (arith, unit)) in
        let offset : made.program_headers_at ≡ made.layout.area.offset = made.table_place.above (tight-is s tight w read sound made ∙ e) in
        let from = offset-tight s tight w read sound made e in
        inr (omega (arith, stays, width, in_file, ends, offset, from, above))

    -- where it stays or moves with the bytes beside it, and where it is added after all others
    beside-behind : tight ≡ false → (b : Bool) → is_kept_table s.elf made.layout.shift ≡ b →
        (made.program_headers_at + length (segment_table made.segments) ≤ (put_number i).offset)
        ⊎ ((put_number i).offset + (put_number i).width ≤ made.program_headers_at)
    beside-behind e false kept =
        let high : size_of made.layout.parts ≤ made.program_headers_at =
        made.table_place.added (tight-is s tight w read sound made ∙ e) kept in
        let within = before-tail in
        inr (omega (arith, high, within))
    beside-behind e true kept = cases beside.apart
      where
        not_tight : made.layout.area.tight ≡ false
        not_tight = tight-is s tight w read sound made ∙ e

        where_at : made.program_headers_at ≡ moved_by made.layout.shift.from made.layout.shift.by s.elf.phoff
        where_at = made.table_place.kept not_tight kept

        long : length (segment_table made.segments) ≡ PHDR_SIZE * length s.elf.segments.items
        long = table-size ∙ ap (λ (xs : List Segment). PHDR_SIZE * length xs) (made.are_headers.kept not_tight)
            ∙ ap (λ (n : ℕ). PHDR_SIZE * n) made.are_headers.are.count

        cases : (at + wide_by ≤ s.elf.phoff) ⊎ (s.elf.phoff + PHDR_SIZE * length s.elf.segments.items ≤ at) →
            (made.program_headers_at + length (segment_table made.segments) ≤ (put_number i).offset)
            ⊎ ((put_number i).offset + (put_number i).width ≤ made.program_headers_at)
        cases (inl before) =
            let more = moved-more made.layout.shift.from made.layout.shift.by s.elf.phoff at wide_by before in
            inr (omega (arith, more, moved_at, where_at, width))
        cases (inr behind) =
            let more = moved-more made.layout.shift.from made.layout.shift.by at s.elf.phoff
            (PHDR_SIZE * length s.elf.segments.items) behind in
            inl (omega (arith, more, moved_at, where_at, long))

    beside-table : (b : Bool) → tight ≡ b → (made.program_headers_at + length (segment_table made.segments) ≤ (put_number i).offset)
        ⊎ ((put_number i).offset + (put_number i).width ≤ made.program_headers_at)
    beside-table true e = beside-above e
    beside-table false e = beside-behind e (is_kept_table s.elf made.layout.shift) refl

    beside-all : All IsBesidePut (headers s tight w made)
    beside-all zero e inside = beside-table tight refl
    beside-all (suc k) e inside =
        let in_header = fields-in_header s tight w made k e (omega arith) in
        let high = moved-above made.layout.shift.from made.layout.shift.by at in
        let behind = beside.header in
        inl (omega (arith, in_header, high, behind, moved_at))

    stands : AllPairs AreApart s.cells → Stands w (put_number i).offset (little_bytes (put_number i).width (put_number i).value)
    stands apart =
        subst (λ (xs : List ℕ). Stands xs (put_number i).offset (little_bytes (put_number i).width (put_number i).value))
        (sym (written-is s tight w made))
        (number-stands (joined s tight w made) made.cells (headers s tight w made) i none_number (omega (arith, count, below))
        (cells-within s tight w made) (apart-all apart)
        (subst (λ (n : ℕ). All (IsWithin n) (headers s tight w made)) (with_cells-size s tight w made)
        (headers-within s tight w made)) beside-all)

    holds : AllPairs AreApart s.cells →
        AreNewLoads made.layout.shift.from made.layout.shift.by s.elf.segments.items made.segments → LoadOnce (segments_of w) →
        number_in (memory_of (executable_of w)) (cell i).0 (cell i).1 ≡ Some (cell i).2
    holds apart new once =
        let to = new segment (place i below).there (place i below).load in
        cell-held w s.elf.segments.items (segments_of w) made.layout.shift (cell i) (put_number i) (place i below) width
        (is_number i below).value (some i below) (can i none_cell below).fits once
        (crosses s tight w read sound made segment (place i below).there) to.0
        (subst (λ (xs : List Segment). Contains xs to.0) (sym (segments-written s tight w made)) to.1) to.2 (stands apart)

  -- all of them are after the header of the file, and before the tail
  pub cells-between : All (λ p. (header_size ≤ p.offset) × (p.offset + length p.bytes ≤ size_of made.layout.parts))
      (map patch_of made.cells)
  cells-between i e inside =
      let long : length (map patch_of made.cells) ≡ length made.cells = length-map made.cells patch_of in
      let below : i < length s.cells = omega (arith, long, count, inside) in
      let size = length-bytes_low_first 0 (put_number i).width (put_number i).value in
      let within = before-tail i below in
      let high = moved-above made.layout.shift.from made.layout.shift.by (at i below) in
      let header = (beside i below).header in
      let offset = moved_at i below in
      subst (λ (p : Patch). (header_size ≤ p.offset) × (p.offset + length p.bytes ≤ size_of made.layout.parts))
      (sym (get_or-map patch_of made.cells i none_number e (omega (arith, long, inside))))
      (omega (arith, high, header, offset), omega (arith, size, within))

  -- and hold what they have to
  pub cells-written : AllPairs AreApart s.cells →
      AreNewLoads made.layout.shift.from made.layout.shift.by s.elf.segments.items made.segments → LoadOnce (segments_of w) →
      All (λ c. number_in (memory_of (executable_of w)) c.0 c.1 ≡ Some c.2) s.cells
  cells-written apart new once i d below =
      subst (λ (c : ℕ × ℕ × ℕ). number_in (memory_of (executable_of w)) c.0 c.1 ≡ Some c.2)
      (get_or_default s.cells i none_cell d below)
      (holds i below apart new once)
