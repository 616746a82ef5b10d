-- What the tail of a file that was made has after the table of program headers is in the file.
use Rattle.std.proofs.Common.{◌≡◌, ◌∙◌, sym, ap, subst, refl, ℕ, zero, suc, ◌+◌, ◌*◌, ◌≤◌, ◌<◌, ◌⊎◌, inl, inr, List, Bool, true}
use Rattle.std.proofs.Common.{false, length, map, arith}
use Rattle.std.specs.Prelude.{All, Any, Contains, ◌||◌}
use Rattle.std.specs.List.{list_any}
use Rattle.std.proofs.lemmas.Bool.{cases_lt, le-ltb}
use Rattle.std.proofs.lemmas.List.Folds.{Any-from_list_any}
use Rattle.elf_image.specs.declared.segment.Segment.{Segment}
use Rattle.elf_image.specs.declared.segment.TheConstants.{PHDR_SIZE}
use Rattle.elf_image.specs.faults.FileFaults.{IsSound}
use Rattle.elf_image.specs.file.ParsedFile.{IsElfOf}
use Rattle.elf_image.specs.memory.LoadedBytes.{loads_range}
use Rattle.elf_parts.specs.Numbers.{patch_of}
use Rattle.elf_parts.specs.Parts.{size_of}
use Rattle.elf_parts.specs.Patches.{Patch, Stands}
use Rattle.elf_parts.specs.Spellings.{segment_table}
use Rattle.elf_parts.proofs.Patches.{stands-added, stands-put_all}
use Rattle.elf_parts.proofs.Spellings.{length-segment_table}
use Rattle.elf_plan.specs.Area.{moved_by}
use Rattle.elf_plan.specs.FileLayout.{is_kept_table, table_of}
use Rattle.elf_make.specs.FileParts.{IsMade, start_after}
use Rattle.elf_make.specs.Source.{Source}
use Rattle.elf_make.proofs.CellPieces.{CanHoldPiece}
use Rattle.elf_make.proofs.CellsWritten.{cells-between}
use Rattle.elf_make.proofs.LaidOut.{stretch-within}
use Rattle.elf_make.proofs.Loads.{moved-before}
use Rattle.elf_make.proofs.MadeHeaders.{cells-within, fields-in_header, headers, headers-within, joined, with_cells, written-is}
use Rattle.elf_make.proofs.MadeInput.{code-inside, keep-behind, parts-behind, table-end, tight-is}
use Rattle.elf_make.proofs.MadeSegments.{count-more, starts-above}
use Rattle.elf_make.proofs.TableKept.{LoadsRange, loads-range}
use Rattle.elf_make.proofs.TablePlace.{start-added, start-kept, start-tight}

module _ (s : Source) (tight : Bool) (w : List ℕ) (read : IsElfOf s.elf.file.now s.elf) (sound : IsSound s.elf.file.now)
    (made : IsMade s tight w) where
  abbrev ps : List Segment
  ps = s.elf.segments.items

  -- where the tail begins, and the contents of sections
  abbrev pub base : ℕ
  base = size_of made.layout.parts

  abbrev pub start : ℕ
  start = start_after s.elf made.layout.area made.layout.shift base

  abbrev end : ℕ
  end = made.program_headers_at + length (segment_table made.segments)

  keep-before : made.layout.parts.keep ≤ base
  keep-before = let first = made.laid_out.can.apart in let second = made.laid_out.can.behind in omega (arith, first, second)

  -- The table of program headers ends before them: in the area's own segment before the new code ..
  end-tight : tight ≡ true → end ≤ start
  end-tight e =
      let loose = tight-is s tight w read sound made ∙ e in
      let at = made.table_place.above loose in
      let size = length-segment_table made.segments in
      let count = count-more s tight w made e in
      let above = starts-above s tight w made read sound e in
      let area = (made.laid_out.above loose).place in
      let behind = made.laid_out.can.behind in
      let is = start-tight s.elf made.layout.area made.layout.shift base made.program_headers_at made.table_place loose in
      omega (arith, at, size, count, above, area, behind, is)

  module _ (e : tight ≡ false) where
    loose : made.layout.area.tight ≡ false
    loose = tight-is s tight w read sound made ∙ e

    size-is : length (segment_table made.segments) ≡ PHDR_SIZE * length ps
    size-is =
        length-segment_table made.segments
        ∙ ap (λ (qs : List Segment). PHDR_SIZE * length qs) (made.are_headers.kept loose)
        ∙ ap (λ (n : ℕ). PHDR_SIZE * n) made.are_headers.are.count

    -- .. in a segment that is loaded, or before the end of the executable one ..
    loaded-before : (p : Segment) → Contains ps p → LoadsRange s.elf.phoff (PHDR_SIZE * length ps) p →
        moved_by made.layout.shift.from made.layout.shift.by s.elf.phoff + PHDR_SIZE * length ps ≤ base
    loaded-before p there loads =
        let inside = code-inside s tight w read sound made in
        let within = stretch-within made.layout.parts ps made.layout.shift.by (length s.elf.file.now)
        (length made.layout.bytes.items) (parts-behind s tight w read sound made e) made.laid_out.can p s.elf.phoff
        (PHDR_SIZE * length ps) there loads.load (omega (arith, inside)) loads.from loads.in_file in
        subst (λ (k : ℕ). moved_by k made.layout.shift.by s.elf.phoff + PHDR_SIZE * length ps ≤ base)
        (keep-behind s tight w read sound made e) within

    front-before : s.elf.phoff < made.layout.shift.from →
        moved_by made.layout.shift.from made.layout.shift.by s.elf.phoff + PHDR_SIZE * length ps ≤ base
    front-before low =
        let stays = moved-before made.layout.shift.from made.layout.shift.by s.elf.phoff low in
        let ends = table-end s tight w read sound made low in
        let keep = keep-behind s tight w read sound made e in
        let order = keep-before in
        omega (arith, stays, ends, keep, order)

    kept-before : is_kept_table s.elf made.layout.shift ≡ true →
        moved_by made.layout.shift.from made.layout.shift.by s.elf.phoff + PHDR_SIZE * length ps ≤ base
    kept-before kept = cases (cases_lt s.elf.phoff made.layout.shift.from)
      where
        cases : (s.elf.phoff < made.layout.shift.from) ⊎ (made.layout.shift.from ≤ s.elf.phoff) →
            moved_by made.layout.shift.from made.layout.shift.by s.elf.phoff + PHDR_SIZE * length ps ≤ base
        cases (inl low) = front-before low
        cases (inr high) =
            let found : list_any (loads_range (table_of s.elf)) ps ≡ true =
            ap (λ (b : Bool). b || list_any (loads_range (table_of s.elf)) ps)
            (sym (le-ltb s.elf.phoff made.layout.shift.from high)) ∙ kept in
            let any : Any (λ p. loads_range (table_of s.elf) p ≡ true) ps =
            Any-from_list_any (loads_range (table_of s.elf)) ps found in
            loaded-before any.1 (any.0, any.2, any.3) (loads-range s.elf.phoff (PHDR_SIZE * length ps) any.1 any.4)

    -- .. or before them
    end-loose : (b : Bool) → is_kept_table s.elf made.layout.shift ≡ b → end ≤ start
    end-loose true kept =
        let at = made.table_place.kept loose kept in
        let before = kept-before kept in
        let size = size-is in
        let is = start-kept s.elf made.layout.area made.layout.shift base made.program_headers_at made.table_place loose kept in
        omega (arith, at, before, size, is)
    end-loose false added =
        let size = size-is in
        let is = start-added s.elf made.layout.area made.layout.shift base made.program_headers_at made.table_place loose added in
        omega (arith, size, is)

  table-before : end ≤ start
  table-before = cases tight refl
    where
      cases : (b : Bool) → tight ≡ b → end ≤ start
      cases true e = end-tight e
      cases false e = end-loose e (is_kept_table s.elf made.layout.shift) refl

  module _ (can : All (CanHoldPiece s.elf) s.cells) (o : ℕ) (xs : List ℕ) (stands : Stands made.tail o xs)
      (behind : start ≤ base + o) where
    abbrev Apart : Patch → Type 0
    Apart p = (p.offset + length p.bytes ≤ base + o) ⊎ (base + o + length xs ≤ p.offset)

    cells-apart : All Apart (map patch_of made.cells)
    cells-apart k e below = let between = cells-between s tight w read sound made can k e below in inl (omega (arith, between))

    headers-apart : All Apart (headers s tight w made)
    headers-apart zero e below = let before = table-before in inl (omega (arith, before, behind))
    headers-apart (suc k) e below =
        let in_header = fields-in_header s tight w made k e (omega arith) in
        let header = made.laid_out.header in
        let order = keep-before in
        inl (omega (arith, in_header, header, order))

    -- the bytes `xs` of the tail are in the file
    pub tail-written : Stands w (base + o) xs
    tail-written =
        subst (λ (f : List ℕ). Stands f (base + o) xs) (sym (written-is s tight w made))
        (stands-put_all (headers s tight w made) (with_cells s tight w made) (base + o) xs (headers-within s tight w made)
        headers-apart
        (stands-put_all (map patch_of made.cells) (joined s tight w made) (base + o) xs (cells-within s tight w made) cells-apart
        (subst (λ (n : ℕ). Stands (joined s tight w made) (n + o) xs) made.put.assembled.joined.size
        (stands-added made.put.assembled.base made.tail o xs stands))))
