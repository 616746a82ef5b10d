-- A file that was made has the bytes after the executable segment that a segment names and doesn't load.
use Rattle.std.proofs.Common.{◌≡◌, ◌∙◌, sym, ap, subst, refl, ℕ, zero, suc, ◌+◌, ◌*◌, ◌≤◌, ◌<◌, ◌⊎◌, inl, inr, List}
use Rattle.std.proofs.Common.{Bool, true, false, length, map, get_or, arith}
use Rattle.std.specs.Prelude.{All, Contains, nat_lt}
use Rattle.std.specs.List.{list_any}
use Rattle.std.proofs.lemmas.Bool.{ltb-true, or_cases}
use Rattle.std.proofs.lemmas.List.Folds.{Any-from_list_any}
use Rattle.elf_image.specs.declared.segment.Segment.{Segment}
use Rattle.elf_image.specs.declared.segment.TheConstants.{PHDR_SIZE}
use Rattle.elf_image.specs.faults.FileFaults.{IsSound}
use Rattle.elf_image.specs.faults.SegmentLayout.{IsFileByte}
use Rattle.elf_image.specs.file.ParsedFile.{IsElfOf}
use Rattle.elf_image.specs.memory.LoadedBytes.{loads_range}
use Rattle.elf_parts.specs.Numbers.{patch_of}
use Rattle.elf_parts.specs.Parts.{size_of}
use Rattle.elf_parts.specs.Patches.{IsBeside}
use Rattle.elf_parts.proofs.JoinedParts.{behind-byte}
use Rattle.elf_plan.specs.declared.area.Area.{Area}
use Rattle.elf_plan.specs.declared.area.Shift.{Shift}
use Rattle.elf_plan.specs.Area.{moved_by, shift_of}
use Rattle.elf_plan.specs.FileLayout.{is_kept_table, table_of}
use Rattle.elf_make.specs.FrontBytes.{KeepsBehind}
use Rattle.elf_make.specs.FileParts.{IsMade, header_numbers, number}
use Rattle.elf_make.specs.Source.{Source, source_area}
use Rattle.elf_make.proofs.BesideWritten.{InNoCell, apart-of, beside-is, cells-beside, field-beside, table-beside, table_patch}
use Rattle.elf_make.proofs.ImageWritten.{moved-keep, parts-fit, table-apart}
use Rattle.elf_make.proofs.LaidOut.{stretch-within}
use Rattle.elf_make.proofs.Loads.{moved-behind}
use Rattle.elf_make.proofs.MadeInput.{file-once, keep-behind, tight-is}
use Rattle.elf_make.proofs.TableKept.{LoadsRange, loads-range}

module _ (s : Source) (tight : Bool) (w : List ℕ) (read : IsElfOf s.elf.file.now s.elf) (sound : IsSound s.elf.file.now)
    (bytes : All (λ b. b < 256) s.elf.file.now) (made : IsMade s tight w) where
  abbrev ps : List Segment
  ps = s.elf.segments.items

  abbrev from : ℕ
  from = made.layout.shift.from

  abbrev step : ℕ
  step = made.layout.shift.by

  module _ (not_tight : tight ≡ false) (p : Segment) (there : Contains ps p) (k : ℕ) (in_file : IsFileByte k p)
      (behind : from ≤ p.offset) (beyond : p.offset + p.memsz ≤ k) where
    -- where the byte goes
    abbrev at : ℕ
    at = moved_by from step k

    low : p.offset ≤ k
    low = in_file.1

    high : k < p.offset + p.filesz
    high = in_file.2

    keep-is : made.layout.parts.keep ≡ from
    keep-is = keep-behind s tight w read sound made not_tight

    at-is : at ≡ k + step
    at-is = let f = low in moved-behind from step k (omega arith)

    -- no segment loads it, since no other one has it in the file
    unloaded : (q : Segment) → Contains ps q → IsFileByte k q → k < q.offset + q.memsz → ⊥
    unloaded q in_list in_q in_memory =
        let same : p ≡ q = file-once s tight w read sound made k p q there in_list in_file in_q in
        let under : k < p.offset + p.memsz = subst (λ (x : Segment). k < x.offset + x.memsz) (sym same) in_memory in
        absurd (omega arith)

    in_no_cell : InNoCell s tight w read sound bytes made k at refl
    in_no_cell i below n place start under =
        let inside = place.in_file in
        let loaded = place.in_memory in
        unloaded place.segment place.there (place.load, omega (arith, start), omega (arith, under, inside))
        (omega (arith, under, loaded))

    -- The file's header is before the end of the executable segment.
    field-is_beside : (o n v : ℕ) → o + n ≤ 64 → IsBeside at (patch_of (number o n v))
    field-is_beside o n v within =
        let header : 64 ≤ made.layout.parts.keep = made.laid_out.header in
        let keep = keep-is in
        let place = at-is in
        let start = low in
        field-beside s tight w read sound bytes made k at refl o n v
        (inr (omega (arith, header, keep, place, start, behind, within)))

    fields-beside : All (IsBeside at) (map patch_of (header_numbers made.fields))
    fields-beside zero e below = field-is_beside 0x18 8 made.fields.entry (omega arith)
    fields-beside (suc zero) e below = field-is_beside 0x20 8 made.fields.program_headers_at (omega arith)
    fields-beside (suc (suc zero)) e below = field-is_beside 0x28 8 made.fields.section_headers_at (omega arith)
    fields-beside (suc (suc (suc zero))) e below = field-is_beside 0x38 2 made.fields.segments (omega arith)
    fields-beside (suc (suc (suc (suc zero)))) e below = field-is_beside 0x3c 2 made.fields.sections (omega arith)
    fields-beside (suc (suc (suc (suc (suc zero))))) e below = field-is_beside 0x3e 2 made.fields.names (omega arith)
    fields-beside (suc (suc (suc (suc (suc (suc i)))))) e below = absurd (omega arith)

    -- The table of program headers.
    place-tight : made.layout.area.tight ≡ false
    place-tight = tight-is s tight w read sound made ∙ not_tight

    abbrev size : ℕ
    size = PHDR_SIZE * length ps

    within-parts : at + 1 ≤ size_of made.layout.parts
    within-parts =
        let end = high in
        let within =
        stretch-within made.layout.parts ps step (length s.elf.file.now) (length made.layout.bytes.items)
        (parts-fit s tight w read sound bytes made) made.laid_out.can p k 1 there in_file.0 (omega arith) low (omega (arith, end)) in
        let same = moved-keep s tight w read sound bytes made k in
        omega (arith, within, same)

    -- where it stays, or moves with the segment that loads it
    table-of : (nat_lt s.elf.phoff from ≡ true) ⊎ (list_any (loads_range (table_of s.elf)) ps ≡ true) →
        (k < s.elf.phoff) ⊎ (s.elf.phoff + size ≤ k)
    table-of (inl before) =
        let ends = table-apart s tight w read sound bytes made (ltb-true s.elf.phoff from before) in
        let start = low in
        inr (omega (arith, ends, start, behind))
    table-of (inr loaded) = by (Any-from_list_any (loads_range (table_of s.elf)) ps loaded)
      where
        by : (i : ℕ) × (q : Segment) × (i < length ps) × (get_or ps i q ≡ q) × (loads_range (table_of s.elf) q ≡ true) →
            (k < s.elf.phoff) ⊎ (s.elf.phoff + size ≤ k)
        by (i, q, within, is, loads) = apart-of k s.elf.phoff size in_table
          where
            range : LoadsRange s.elf.phoff size q
            range = loads-range s.elf.phoff size q loads

            in_table : s.elf.phoff ≤ k → k < s.elf.phoff + size → ⊥
            in_table start under =
                let first = range.from in
                let in_q = range.in_file in
                let in_memory = range.in_memory in
                unloaded q (i, within, is) (range.load, omega (arith, start, first), omega (arith, under, in_q))
                (omega (arith, under, in_memory))

    table-is_beside : IsBeside at (table_patch s tight w read sound bytes made)
    table-is_beside = cases (is_kept_table s.elf made.layout.shift) refl
      where
        cases : (b : Bool) → is_kept_table s.elf made.layout.shift ≡ b →
            IsBeside at (table_patch s tight w read sound bytes made)
        cases true kept =
            table-beside s tight w read sound bytes made k at refl place-tight
            (made.table_place.kept place-tight kept) (table-of (or_cases _ _ kept))
        cases false added =
            let place = made.table_place.added place-tight added in
            let within = within-parts in
            inl (omega (arith, place, within))

    behind-is : get_or w (k + step) 0 ≡ get_or s.elf.file.now k 0
    behind-is =
        let fit = parts-fit s tight w read sound bytes made in
        let within = within-parts in
        let keep = keep-is in
        let start = low in
        let end = high in
        let bounds = fit.all p there in_file.0 (omega (arith, keep, behind)) (omega (arith, start, end)) in
        let first : made.layout.parts.low ≤ p.offset = bounds.0 in
        let last : p.offset + p.filesz ≤ made.layout.parts.high = bounds.1 in
        ap (λ (o : ℕ). get_or w o 0) (sym at-is)
        ∙ beside-is s tight w read sound bytes made k at refl (cells-beside s tight w read sound bytes made k at refl in_no_cell)
        table-is_beside fields-beside (omega (arith, within))
        ∙ ap (λ (o : ℕ). get_or made.put.assembled.base o 0) at-is
        ∙ behind-byte made.layout.parts s.elf.file.now made.layout.bytes.items made.put.assembled.base step k
        made.put.assembled.joined made.laid_out.can.from_input (fit.moved (omega (arith, first, last, start, end)))
        (omega (arith, first, start)) (omega (arith, last, end))

  pub behind-written : KeepsBehind s.elf (source_area s tight) w
  behind-written not_tight p there k in_file behind beyond =
      let shift : made.layout.shift ≡ shift_of ps (source_area s tight) =
      made.laid_out.shift ∙ ap (λ (a : Area). shift_of ps a) made.laid_out.area in
      ap (λ (h : Shift). get_or w (k + h.by) 0) (sym shift)
      ∙ behind-is not_tight p there k in_file (subst (λ (h : Shift). h.from ≤ p.offset) (sym shift) behind) beyond
