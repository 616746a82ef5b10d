-- What a program finds of the layout of its file is the same in the written file.
use Rattle.std.proofs.Common.{◌≡◌, ◌∙◌, sym, ap, subst, refl, ℕ, ◌+◌, ◌-◌, ◌*◌, ◌≤◌, ◌<◌, ◌⊎◌, inl, inr, List, Option, Some, None}
use Rattle.std.proofs.Common.{Bool, true, false, IsTrue, length, get_or, arith}
use Rattle.std.specs.Prelude.{Any, Contains, not, ◌||◌, ◌==◌, nat_lt, if◌then◌else◌}
use Rattle.std.specs.List.{list_any}
use Rattle.std.specs.Option.{option_map_or}
use Rattle.std.proofs.lemmas.Bool.{and_parts, cases_lt, eqb-true, le-ltb}
use Rattle.std.proofs.lemmas.List.Elements.{Contains-get_or}
use Rattle.std.proofs.lemmas.List.Folds.{Any-from_list_any, list_any_at}
use Rattle.elf_image.specs.declared.segment.Segment.{Segment}
use Rattle.elf_image.specs.declared.segment.TheConstants.{PHDR_SIZE}
use Rattle.elf_image.specs.faults.FileFaults.{IsSound}
use Rattle.elf_image.specs.file.Header.{e_phnum, segments_of}
use Rattle.elf_image.specs.file.ParsedFile.{IsElfOf}
use Rattle.elf_image.specs.memory.Image.{is_load, end_of}
use Rattle.elf_image.specs.memory.LoadedBytes.{loads_range}
use Rattle.elf_image.specs.memory.Break.{table_address, break_start, break_bound, rounded_up}
use Rattle.elf_parts.specs.Parts.{size_of}
use Rattle.elf_plan.specs.declared.area.Area.{Area}
use Rattle.elf_plan.specs.Area.{code_file_end, file_end_of, lowest_behind, moved_by, area_offset}
use Rattle.elf_plan.specs.FileLayout.{is_kept_table, table_of}
use Rattle.elf_make.specs.FileParts.{IsMade}
use Rattle.elf_plan.specs.NewSegments.{IsRenewed, CrossesNot, grows_at}
use Rattle.elf_make.specs.PartPlaces.{MovesFrom}
use Rattle.file_room.specs.Room.{greatest_align}
use Rattle.elf_make.specs.Source.{Source, HasPlace}
use Rattle.elf_make.specs.WrittenFile.{KeepsPlaces}
use Rattle.elf_make.proofs.CodeMemory.{code-memory}
use Rattle.elf_make.proofs.FileEnds.{begins-behind}
use Rattle.elf_make.proofs.LaidOut.{stretch-within}
use Rattle.elf_make.proofs.Loads.{moved-before, moved-behind}
use Rattle.elf_make.proofs.MadeHeaders.{segments-written, e_phoff-written, e_phnum-written}
use Rattle.elf_make.proofs.MadeInput.{ps-is, found-file, code-is, code-inside, code_segment-is, area-is, tight-is, from-is}
use Rattle.elf_make.proofs.MadeInput.{by-is, address-tight, crosses, parts-behind, keep-behind, table-count, table-end}
use Rattle.elf_make.proofs.SameBreak.{GrowsUnwritten, KeepsBreak, break-kept, rounded_up-above, align-above}
use Rattle.elf_make.proofs.SoundFiles.{code-load, code-whole, code-unwritable}
use Rattle.elf_make.proofs.TableKept.{GrowsTo, LoadsRange, StandsAlike, stays, moves, unloaded, loads-range, range-loads}
use Rattle.elf_make.proofs.TableKept.{range_address, address-kept, had_bytes}

module _ (s : Source) (tight : Bool) (w : List ℕ) (read : IsElfOf s.elf.file.now s.elf) (sound : IsSound s.elf.file.now)
    (made : IsMade s tight w) (placed : HasPlace s tight) where
  abbrev ps : List Segment
  ps = s.elf.segments.items

  abbrev code : Segment
  code = made.laid_out.executable

  abbrev area : Area
  area = made.layout.area

  whole : code.filesz ≡ code.memsz
  whole = code-whole s.elf.file.now sound made.layout.code code (found-file s tight w read sound made)

  load : IsTrue (is_load code)
  load = code-load s.elf.file.now sound made.layout.code code (found-file s tight w read sound made)

  memory : tight ≡ false → 0 < code.memsz
  memory e =
      code-memory s made.layout.code code made.laid_out.found (code-inside s tight w read sound made)
      (code-is s tight w read sound made) load
      (subst (HasPlace s) e placed)

  -- The break.
  break-written : KeepsBreak ps made.segments
  break-written =
      break-kept made.layout.shift.from made.layout.shift.by area made.layout.code ps made.segments made.are_headers
      (λ e d below. subst GrowsUnwritten (sym (code-is s tight w read sound made d)) (record {
        some = memory (sym (tight-is s tight w read sound made) ∙ e);
        unwritten = code-unwritable s.elf.file.now sound made.layout.code code (found-file s tight w read sound made);
      }))
      (λ e. address-tight s tight w read sound made (sym (tight-is s tight w read sound made) ∙ e))

  -- The table of program headers, in a file whose area is after its executable segment.
  module _ (e : tight ≡ false) where
    not_tight : area.tight ≡ false
    not_tight = tight-is s tight w read sound made ∙ e

    headers-are : made.segments ≡ made.are_headers.renewed
    headers-are = made.are_headers.kept not_tight

    pub count-same : length ps ≡ length made.segments
    count-same = sym (ap length headers-are ∙ made.are_headers.are.count)

    -- the area in the file
    abbrev area_end : ℕ
    area_end = area_offset area area.end

    abbrev from : ℕ
    from = made.layout.shift.from

    abbrev by : ℕ
    by = made.layout.shift.by

    area-address : area.address ≡ code.vaddr
    area-address = ap (λ (a : Area). a.address) (area-is s tight w read sound made)
        ∙ rw e (ap (λ (p : Segment). p.vaddr) (code_segment-is s tight w read sound made))

    area-offset : area.offset ≡ code.offset
    area-offset = ap (λ (a : Area). a.offset) (area-is s tight w read sound made)
        ∙ rw e (ap (λ (p : Segment). p.offset) (code_segment-is s tight w read sound made))

    end-is : code_file_end ps ≡ from
    end-is = ap file_end_of (code_segment-is s tight w read sound made) ∙ sym (from-is s tight w read sound made)

    -- bytes that move go after it
    step-enough : (low : ℕ) → lowest_behind from ps ≡ Some low → area_end ≤ low + by
    step-enough low found =
        let step : by
        ≡ option_map_or (λ l. rounded_up (greatest_align ps) (area_end - l)) (lowest_behind (code_file_end ps) ps) 0 =
        by-is s tight w read sound made ∙ ap (λ (b : Bool). if b then 0 else option_map_or
        (λ l. rounded_up (greatest_align ps) (area_end - l)) (lowest_behind (code_file_end ps) ps) 0) not_tight in
        let here : by ≡ rounded_up (greatest_align ps) (area_end - low) =
        step ∙ ap (λ (o : Option ℕ). option_map_or (λ l. rounded_up (greatest_align ps) (area_end - l)) o 0)
        (ap (λ (k : ℕ). lowest_behind k ps) end-is ∙ found) in
        let unit = align-above ps in
        let above = rounded_up-above (greatest_align ps) (area_end - low) (omega (arith, unit)) in
        omega (arith, here, above)

    area-before : area_end ≤ size_of made.layout.parts
    area-before = cases (lowest_behind from ps) refl (made.laid_out.behind not_tight).moves
      where
        cases : (o : Option ℕ) → lowest_behind from ps ≡ o → MovesFrom o ps area made.layout.shift made.layout.parts →
            area_end ≤ size_of made.layout.parts
        cases None found placing = let at = placing.2 in omega (arith, at)
        cases (Some low) found placing = let at = placing.2 in let enough = step-enough low found in omega (arith, at, enough)

    -- the headers of each index
    module _ (k : ℕ) (d : Segment) (below : k < length ps) where
      abbrev p : Segment
      p = get_or ps k d

      abbrev q : Segment
      q = get_or made.are_headers.renewed k d

      abbrev grown : Bool
      grown = grows_at area.tight made.layout.code k

      renewed : IsRenewed from by area.end area.tight grown p q
      renewed = made.are_headers.are.each k d d below

      there : Contains ps p
      there = Contains-get_or ps k d below

      apart : CrossesNot from p
      apart = crosses s tight w read sound made p there

      grows : grown ≡ true → GrowsTo from area_end p q
      grows is = record {
        some = let some = memory e in subst (λ (x : Segment). 0 < x.filesz) (sym p-is) (omega (arith, whole, some));
        whole = ap (λ (x : Segment). x.offset + x.filesz) p-is ∙ sym (from-is s tight w read sound made);
        within = within;
      }
        where
          p-is : p ≡ code
          p-is = ap (λ (j : ℕ). get_or ps j d) (eqb-true k made.layout.code
              (and_parts (not area.tight) (k == made.layout.code) is).1) ∙ code-is s tight w read sound made d

          loaded : IsTrue (is_load p)
          loaded = subst (λ (x : Segment). IsTrue (is_load x)) (sym p-is) load

          has : 0 < p.filesz
          has = let some = memory e in subst (λ (x : Segment). 0 < x.filesz) (sym p-is) (omega (arith, whole, some))

          offset : q.offset ≡ code.offset
          offset =
              (renewed.load loaded).offset has ∙ ap (λ (x : Segment). moved_by from by x.offset) p-is
              ∙ moved-before from by code.offset (let f = from-is s tight w read sound made in
              let some = memory e in
              omega (arith, f, some, whole))

          vaddr : q.vaddr ≡ code.vaddr
          vaddr = (renewed.load loaded).vaddr ∙ ap (λ (x : Segment). x.vaddr) p-is

          ends : end_of q ≡ area.end
          ends = renewed.grown is

          p-whole : p.filesz ≡ p.memsz
          p-whole = subst (λ (x : Segment). x.filesz ≡ x.memsz) (sym p-is) whole

          size : ((q.filesz ≡ p.filesz) × (q.memsz ≡ p.memsz))
              ⊎ ((p.memsz ≡ p.filesz) × (p.filesz ≤ q.filesz) × (q.memsz ≡ q.filesz)) → q.filesz ≡ q.memsz
          size (inl same) = same.0 ∙ p-whole ∙ sym same.1
          size (inr more) = sym more.2

          within : q.offset + q.filesz ≤ area_end
          within =
              let sized = size (renewed.load loaded).sizes in
              let a = area-address in
              let o = area-offset in
              omega (arith, sized, a, o, ends, vaddr, offset)

      -- the bytes of the file that the new one loads end before the tail
      ends-before : (start n : ℕ) → 0 < n → LoadsRange start n q → q.offset + q.filesz ≤ size_of made.layout.parts
      ends-before start n some loads = cases grown refl
        where
          loaded : IsTrue (is_load p)
          loaded = subst (λ (kind : ℕ). IsTrue (kind == 1)) renewed.kind loads.load

          has_bytes : 0 < p.filesz
          has_bytes =
              let low = loads.from in
              let high = loads.in_file in
              had_bytes from by area.end area_end start n area.tight grown p q some renewed (λ x. apart) grows loaded
              (omega (arith, low, high, some))

          cases : (b : Bool) → grown ≡ b → q.offset + q.filesz ≤ size_of made.layout.parts
          cases true is = let within = (grows is).within in let before = area-before in omega (arith, within, before)
          cases false is =
              let at : q.offset ≡ moved_by from by p.offset = (renewed.load loaded).offset has_bytes in
              let size : q.filesz ≡ p.filesz = same-size (renewed.load loaded).sizes in
              let keep : moved_by made.layout.parts.keep by p.offset ≡ moved_by from by p.offset =
              ap (λ (f : ℕ). moved_by f by p.offset) (keep-behind s tight w read sound made e) in
              let within =
              stretch-within made.layout.parts ps by (length s.elf.file.now) (length made.layout.bytes.items)
              (parts-behind s tight w read sound made e) made.laid_out.can
              p p.offset p.filesz there loaded has_bytes (omega arith) (omega arith) in
              omega (arith, at, size, keep, within)
            where
              same-size : ((q.filesz ≡ p.filesz) × (q.memsz ≡ p.memsz))
                  ⊎ ((p.memsz ≡ p.filesz) × (p.filesz ≤ q.filesz) × (q.memsz ≡ q.filesz)) → q.filesz ≡ p.filesz
              same-size (inl same) = same.0
              same-size (inr more) = let m : q.memsz ≡ p.memsz = renewed.same loaded is in sym more.2 ∙ m ∙ more.0

    abbrev table_size : ℕ
    table_size = PHDR_SIZE * length ps

    some_headers : 0 < table_size
    some_headers = let inside = code-inside s tight w read sound made in omega (arith, inside)

    -- after the executable segment it moves with the segment that loads it, after the area
    table-behind : from ≤ s.elf.phoff → list_any (loads_range (table_of s.elf)) ps ≡ true → area_end ≤ s.elf.phoff + by
    table-behind behind found = cases (cases_lt x.offset from)
      where
        any : Any (λ p. loads_range (table_of s.elf) p ≡ true) ps
        any = Any-from_list_any (loads_range (table_of s.elf)) ps found

        x : Segment
        x = any.1

        x-there : Contains ps x
        x-there = (any.0, any.2, any.3)

        loads : LoadsRange s.elf.phoff table_size x
        loads = loads-range s.elf.phoff table_size x any.4

        cases : (x.offset < from) ⊎ (from ≤ x.offset) → area_end ≤ s.elf.phoff + by
        cases (inl before) =
            let ends = crosses s tight w read sound made x x-there before in
            let high = loads.in_file in
            let some = some_headers in
            absurd (omega (arith, ends, high, some, behind))
        cases (inr beyond) =
            let low = loads.from in
            let high = loads.in_file in
            let some = some_headers in
            let first = begins-behind from ps x x-there loads.load (omega (arith, low, high, some)) beyond in
            let enough = step-enough first.0 first.1 in
            let below = first.2 in
            omega (arith, enough, below, low)

    -- its place
    stands : StandsAlike from by area_end s.elf.phoff table_size ps made.are_headers.renewed made.program_headers_at
    stands = cases (is_kept_table s.elf made.layout.shift) refl (cases_lt s.elf.phoff from)
      where
        or-true : (a b : Bool) → b ≡ true → (a || b) ≡ true
        or-true true b is = refl
        or-true false b is = is

        never : list_any (loads_range (table_of s.elf)) ps ≡ true → is_kept_table s.elf made.layout.shift ≡ false → ⊥
        never found kept =
            let both : true ≡ false =
            sym (or-true (nat_lt s.elf.phoff from) (list_any (loads_range (table_of s.elf)) ps) found) ∙ kept in
            absurd (cc)

        cases : (b : Bool) → is_kept_table s.elf made.layout.shift ≡ b → (s.elf.phoff < from) ⊎ (from ≤ s.elf.phoff) →
            StandsAlike from by area_end s.elf.phoff table_size ps made.are_headers.renewed made.program_headers_at
        cases true kept (inl low) =
            subst (StandsAlike from by area_end s.elf.phoff table_size ps made.are_headers.renewed)
            (sym (made.table_place.kept not_tight kept ∙ moved-before from by s.elf.phoff low))
            (stays low (table-end s tight w read sound made low))
        cases true kept (inr behind) =
            let found : list_any (loads_range (table_of s.elf)) ps ≡ true =
            ap (λ (b : Bool). b || list_any (loads_range (table_of s.elf)) ps) (sym (le-ltb s.elf.phoff from behind)) ∙ kept in
            subst (StandsAlike from by area_end s.elf.phoff table_size ps made.are_headers.renewed)
            (sym (made.table_place.kept not_tight kept ∙ moved-behind from by s.elf.phoff behind))
            (moves behind (table-behind behind found))
        cases false kept order =
            unloaded made.program_headers_at
            (λ k d below loads. never (list_any_at (loads_range (table_of s.elf)) ps k d below
            (range-loads s.elf.phoff table_size (get_or ps k d) loads)) kept)
            (λ k d below loads.
            let high : size_of made.layout.parts ≤ made.program_headers_at = made.table_place.added not_tight kept in
            let ends = ends-before k d below made.program_headers_at table_size some_headers loads in
            let past = loads.in_file in
            let some = some_headers in
            absurd (omega (arith, high, ends, past, some)))

    pub table-written : table_address s.elf.file.now ≡ table_address w
    table-written = before ∙ sym (address-kept from by area.end area_end s.elf.phoff table_size area.tight
        (grows_at area.tight made.layout.code) ps made.are_headers.renewed made.program_headers_at some_headers made.are_headers.are
        (λ k d below load. apart k d below) (λ k d below is. grows k d below is) stands) ∙ sym after
      where
        before : table_address s.elf.file.now ≡ range_address s.elf.phoff table_size ps
        before =
            ap (λ (o : ℕ). range_address o (PHDR_SIZE * e_phnum s.elf.file.now) (segments_of s.elf.file.now)) (sym read.phoff)
            ∙ ap (λ (n : ℕ). range_address s.elf.phoff (PHDR_SIZE * n) (segments_of s.elf.file.now)) (table-count s tight w read sound made)
            ∙ ap (λ (xs : List Segment). range_address s.elf.phoff table_size xs) (ps-is s tight w read sound made)

        after : table_address w ≡ range_address made.program_headers_at table_size made.are_headers.renewed
        after =
            ap (λ (o : ℕ). range_address o (PHDR_SIZE * e_phnum w) (segments_of w)) (e_phoff-written s tight w made)
            ∙ ap (λ (n : ℕ). range_address made.program_headers_at (PHDR_SIZE * n) (segments_of w))
            (e_phnum-written s tight w made ∙ sym count-same)
            ∙ ap (λ (xs : List Segment). range_address made.program_headers_at table_size xs)
            (segments-written s tight w made ∙ headers-are)

  pub places-written : KeepsPlaces s.elf tight w
  places-written = record {
    table = λ e. table-written e;
    count = λ e. count-same e ∙ sym (ap length (segments-written s tight w made));
    break_start_is = break-written.0 ∙ sym (ap break_start (segments-written s tight w made));
    break_bound_is = break-written.1 ∙ sym (ap break_bound (segments-written s tight w made));
  }
