-- A file that was made has the memory of its input.
use Rattle.std.proofs.Common.{◌≡◌, ◌∙◌, sym, ap, subst, refl, ℕ, zero, suc, ◌+◌, ◌-◌, ◌*◌, ◌≤◌, ◌<◌, ◌⊎◌, inl, inr, List, [], ◌∷◌}
use Rattle.std.proofs.Common.{◌++◌, Option, Bool, true, false, length, map, get_or, arith}
use Rattle.std.specs.Prelude.{All, Contains, IsFalse, ◌||◌, nat_le}
use Rattle.std.specs.Option.{option_map_or}
use Rattle.std.specs.List.{list_any}
use Rattle.std.proofs.lemmas.Bool.{cases_lt, leb-false, lt-ltb, or_parts}
use Rattle.std.proofs.lemmas.List.{get_or-map, get_or_default, length-map}
use Rattle.std.proofs.lemmas.List.Elements.{All-append, All-cons}
use Rattle.std.proofs.lemmas.List.Sums.{fold-append}
use Rattle.byteorder.specs.Endian.{little_bytes}
use Rattle.elf_image.specs.declared.segment.Segment.{Segment}
use Rattle.elf_image.specs.declared.segment.TheConstants.{PHDR_SIZE}
use Rattle.elf_image.specs.faults.FileFaults.{IsSound}
use Rattle.elf_image.specs.faults.SegmentLayout.{IsFileByte}
use Rattle.elf_image.specs.file.Header.{number_at, e_phnum, e_phoff, segment_at, segments_of}
use Rattle.elf_image.specs.file.ParsedFile.{IsElfOf}
use Rattle.elf_image.specs.memory.CodeSegment.{executable_end}
use Rattle.elf_image.specs.memory.Image.{LoadOnce}
use Rattle.elf_image.specs.memory.LoadedBytes.{is_in_range}
use Rattle.elf_image.proofs.ReadLists.{length-segments_of, get_or-segments}
use Rattle.elf_image.specs.memory.HiddenFields.{hidden_fields}
use Rattle.elf_parts.specs.declared.number_at.NumberAt.{NumberAt}
use Rattle.elf_parts.specs.declared.parts.Parts.{Parts}
use Rattle.elf_parts.specs.Numbers.{patch_of}
use Rattle.elf_parts.specs.Parts.{size_of}
use Rattle.elf_parts.specs.Patches.{Patch, put_all, put_patch, IsWithin, Leaves}
use Rattle.elf_parts.specs.Spellings.{segment_table}
use Rattle.elf_plan.specs.Area.{moved_by, loads_end}
use Rattle.elf_make.specs.CarriedBytes.{CarriesImage}
use Rattle.elf_make.specs.CellNumbers.{IsCellNumber}
use Rattle.elf_plan.specs.FileLayout.{is_kept_table}
use Rattle.elf_make.specs.FileParts.{IsMade, number, header_numbers}
use Rattle.elf_plan.specs.NewSegments.{IsNewLoad, AreRenewed, grows_at}
use Rattle.file_room.specs.Room.{greatest_align}
use Rattle.elf_make.specs.Source.{Source, is_changed}
use Rattle.elf_make.proofs.CellPatches.{cell-leaves}
use Rattle.elf_make.proofs.CellPlaces.{CellPlace, cell-place}
use Rattle.elf_make.proofs.FileEnds.{ends-below}
use Rattle.elf_make.proofs.HiddenBytes.{hides-e_shoff, hides-e_shnum, hides-e_phoff, hides-e_phnum, is_hidden-at, changed-hidden}
use Rattle.elf_make.proofs.HiddenBytes.{changed-cell, changed-e_entry}
use Rattle.elf_make.proofs.LaidOut.{fit-above, stretch-within}
use Rattle.elf_make.proofs.LeftBytes.{leaves-number, number-left, leaves-elsewhere, leaves-table}
use Rattle.elf_make.proofs.MadeHeaders.{joined, headers, written-is, cells-within, with_cells-size, headers-within, segments-written}
use Rattle.elf_make.proofs.MadeInput.{moved-none, input-once, file-once, offset-tight, tight-is, by-tight, from-is, found-file}
use Rattle.elf_make.proofs.MadeInput.{parts-behind, keep-behind}
use Rattle.elf_make.proofs.Loads.{moved-before}
use Rattle.elf_make.proofs.MadeSegments.{new-loads}
use Rattle.elf_make.proofs.SameBreak.{rounded_up-above, align-above}
use Rattle.elf_make.proofs.SoundFiles.{table_crosses_not}
use Rattle.elf_make.proofs.WrittenImages.{FitSegments, AreNewLoads, image-written}

-- bytes are below 256, and so is what is read past their end
low-bytes : (xs : List ℕ) → All (λ b. b < 256) xs → (j : ℕ) → get_or xs j 0 < 256
low-bytes [] all j = omega arith
low-bytes (x ∷ xs) all zero = all 0 x (omega arith)
low-bytes (x ∷ xs) all (suc j) = low-bytes xs (λ i d below. all (suc i) d (omega arith)) j

module _ (s : Source) (tight : Bool) (w : List ℕ) (read : IsElfOf s.elf.file.now s.elf) (sound : IsSound s.elf.file.now)
    (bytes : All (λ b. b < 256) s.elf.file.now) (made : IsMade s tight w) where
  abbrev file : List ℕ
  file = s.elf.file.now

  abbrev ps : List Segment
  ps = s.elf.segments.items

  abbrev parts : Parts
  parts = made.layout.parts

  abbrev keep : ℕ
  keep = made.layout.parts.keep

  abbrev step : ℕ
  step = made.layout.shift.by

  abbrev pub patches : List Patch
  patches = map patch_of made.cells ++ headers s tight w made

  -- The input's bytes are in the parts.
  pub parts-fit : FitSegments parts ps keep step
  parts-fit = cases tight refl
    where
      cases : (b : Bool) → tight ≡ b → FitSegments parts ps keep step
      cases true e = fit-above ps made.layout.area parts step (made.laid_out.above (tight-is s tight w read sound made ∙ e))
      cases false e = parts-behind s tight w read sound made e

  pub moved-keep : (o : ℕ) → moved_by made.layout.shift.from step o ≡ moved_by keep step o
  moved-keep o = cases tight refl
    where
      cases : (b : Bool) → tight ≡ b → moved_by made.layout.shift.from step o ≡ moved_by keep step o
      cases true e =
          let none : step ≡ 0 = by-tight s tight w read sound made e in
          moved-none made.layout.shift.from step o none ∙ sym (moved-none keep step o none)
      cases false e = ap (λ (k : ℕ). moved_by k step o) (sym (keep-behind s tight w read sound made e))

  loads-keep : AreNewLoads keep step ps (segments_of w)
  loads-keep p there load =
      let new = new-loads s tight w made p there load in
      let how : IsNewLoad made.layout.shift.from step p new.0 = new.2 in (
        new.0,
        subst (λ (xs : List Segment). Contains xs new.0) (sym (segments-written s tight w made)) new.1,
        record {
          kind = how.kind;
          flags = how.flags;
          vaddr = how.vaddr;
          offset = λ some. how.offset some ∙ moved-keep p.offset;
          sizes = how.sizes;
        },
      )

  pub written-all : w ≡ put_all (joined s tight w made) patches
  written-all = written-is s tight w made
      ∙ sym (fold-append put_patch (joined s tight w made) (map patch_of made.cells) (headers s tight w made))

  pub within-all : All (IsWithin (length (joined s tight w made))) patches
  within-all =
      All-append (IsWithin (length (joined s tight w made))) (map patch_of made.cells) (headers s tight w made)
      (cells-within s tight w made)
      (subst (λ (n : ℕ). All (IsWithin n) (headers s tight w made)) (with_cells-size s tight w made)
      (headers-within s tight w made))

  -- Where the executable segment ends, and the program headers as they are in the input.
  end-is : executable_end ps ≡ made.layout.shift.from
  end-is = ap (λ (o : Option (ℕ × Segment)). option_map_or (λ x. x.1.offset + x.1.filesz) o 0) made.laid_out.found
      ∙ sym (from-is s tight w read sound made)

  header-read : (i : ℕ) (d : Segment) → i < length ps → get_or ps i d ≡ segment_at file (s.elf.phoff + PHDR_SIZE * i)
  header-read i d below =
      let inside : i < length (segments_of file) = subst (λ (xs : List Segment). i < length xs) read.segments below in
      ap (λ (xs : List Segment). get_or xs i d) read.segments ∙ (get_or-segments file i d inside).1
      ∙ ap (λ (o : ℕ). segment_at file (o + PHDR_SIZE * i)) (sym read.phoff)

  pub table-apart : s.elf.phoff < made.layout.shift.from → s.elf.phoff + PHDR_SIZE * length ps ≤ made.layout.shift.from
  table-apart before =
      let end = from-is s tight w read sound made in
      let place : s.elf.phoff ≡ e_phoff file = read.phoff in
      let count : length ps ≡ e_phnum file = ap length read.segments ∙ length-segments_of file in
      let apart = table_crosses_not file sound made.layout.code made.laid_out.executable (found-file s tight w read sound made)
      (omega (arith, end, place, before)) in
      omega (arith, end, place, count, apart)

  -- A loaded byte that may not change.
  module _ (p : Segment) (there : Contains ps p) (k : ℕ) (in_file : IsFileByte k p) (in_memory : k - p.offset < p.memsz)
      (kept : IsFalse (is_changed s tight (p.vaddr + (k - p.offset)))) where
    abbrev a : ℕ
    a = p.vaddr + (k - p.offset)

    abbrev IsLeft : Patch → Type 0
    IsLeft = Leaves (moved_by keep step k) (get_or file k 0)

    unchanged : is_changed s tight a ≡ true → ⊥
    unchanged e = let differ : false ≡ true = sym kept ∙ e in absurd (cc)

    shown : list_any (is_in_range k) (hidden_fields s.elf tight) ≡ true → ⊥
    shown e = unchanged
        (changed-hidden s tight a (is_hidden-at s.elf tight p k (input-once s tight w read sound made) there in_file in_memory e))

    -- code cells
    none_cell : ℕ × ℕ × ℕ
    none_cell = (0, 0, 0)

    none_number : NumberAt
    none_number = number 0 0 0

    cell-left : (i : ℕ) → i < length s.cells → IsLeft (patch_of (get_or made.cells i none_number))
    cell-left i below = subst IsLeft (sym same) left
      where
        cell : ℕ × ℕ × ℕ
        cell = get_or s.cells i none_cell

        n : NumberAt
        n = get_or made.cells i none_number

        is : IsCellNumber s.elf made.layout.shift cell n
        is = made.are_cells.each i none_cell none_number below

        place : CellPlace ps made.layout.shift cell n
        place = cell-place s.elf made.layout.shift cell n is

        apart : (a < cell.0) ⊎ (cell.0 + cell.1 ≤ a)
        apart = cases (cases_lt a cell.0) (cases_lt a (cell.0 + cell.1))
          where
            cases : (a < cell.0) ⊎ (cell.0 ≤ a) → (a < cell.0 + cell.1) ⊎ (cell.0 + cell.1 ≤ a) →
                (a < cell.0) ⊎ (cell.0 + cell.1 ≤ a)
            cases (inl low) other = inl low
            cases (inr from) (inr high) = inr high
            cases (inr from) (inl under) =
                absurd
                (unchanged (changed-cell s tight a cell (i, below, get_or_default s.cells i cell none_cell below) from under))

        left : IsLeft (record {
          offset = moved_by keep step (place.segment.offset + (cell.0 - place.segment.vaddr));
          bytes = little_bytes cell.1 cell.2;
        })
        left =
            cell-leaves keep step p place.segment k cell.0 cell.1 cell.2 (get_or file k 0) in_file place.load place.low
            (let inside = place.in_file in let low = place.low in omega (arith, inside, low))
            (λ also. file-once s tight w read sound made k p place.segment there place.there in_file also) apart

        offset : n.offset ≡ moved_by keep step (place.segment.offset + (cell.0 - place.segment.vaddr))
        offset = place.offset ∙ moved-keep (place.segment.offset + (cell.0 - place.segment.vaddr))

        same : patch_of n ≡ record {
          offset = moved_by keep step (place.segment.offset + (cell.0 - place.segment.vaddr));
          bytes = little_bytes cell.1 cell.2;
        }
        same = λ i. record { offset = offset i; bytes = little_bytes (is.width i) (is.value i) }

    cells-left : All IsLeft (map patch_of made.cells)
    cells-left i e below =
        let long : length (map patch_of made.cells) ≡ length made.cells = length-map made.cells patch_of in
        let count : length made.cells ≡ length s.cells = made.are_cells.count in
        subst IsLeft (sym (get_or-map patch_of made.cells i none_number e (omega (arith, long))))
        (cell-left i (omega (arith, long, count)))

    -- fields of the file's header
    low_header : 64 ≤ keep
    low_header = made.laid_out.header

    field-left : (o n v : ℕ) → o + n ≤ 64 → (o ≤ k → k < o + n → get_or (little_bytes n v) (k - o) 0 ≡ get_or file k 0) →
        IsLeft (record { offset = o; bytes = little_bytes n v })
    field-left o n v within same = leaves-number keep step o n v k (get_or file k 0) (let low = low_header in omega arith) same

    same-number : (o n v : ℕ) → v ≡ number_at file o n → o ≤ k → k < o + n → get_or (little_bytes n v) (k - o) 0 ≡ get_or file k 0
    same-number o n v is from below = number-left file o n v k (low-bytes file bytes) is from below

    entry-left : IsLeft (patch_of (number 0x18 8 made.fields.entry))
    entry-left =
        field-left 0x18 8 made.fields.entry (omega arith)
        (λ from below. absurd (unchanged (changed-e_entry s tight p k (input-once s tight w read sound made) (λ q there_q in_q.
        file-once s tight w read sound made k p q there there_q in_file in_q) there in_file in_memory from below)))

    place-left : IsLeft (patch_of (number 0x20 8 made.fields.program_headers_at))
    place-left = field-left 0x20 8 made.fields.program_headers_at (omega arith)
        (λ from below. cases from below (tight || nat_le (executable_end ps) s.elf.phoff) refl)
      where
        cases : 0x20 ≤ k → k < 0x28 → (b : Bool) → (tight || nat_le (executable_end ps) s.elf.phoff) ≡ b →
            get_or (little_bytes 8 made.fields.program_headers_at) (k - 0x20) 0 ≡ get_or file k 0
        cases from below true moves = absurd (shown (hides-e_phoff s.elf tight k from below moves))
        cases from below false stays = same-number 0x20 8 made.fields.program_headers_at (made.place
            ∙ kept-place (or_parts tight (nat_le (executable_end ps) s.elf.phoff) stays) ∙ read.phoff) from below
          where
            kept-place : (tight ≡ false) × (nat_le (executable_end ps) s.elf.phoff ≡ false) → made.program_headers_at ≡ s.elf.phoff
            kept-place both =
                let before : s.elf.phoff < executable_end ps = leb-false (executable_end ps) s.elf.phoff both.1 in
                let end : executable_end ps ≡ made.layout.shift.from = end-is in
                let before_from : s.elf.phoff < made.layout.shift.from = omega arith in
                let kept : is_kept_table s.elf made.layout.shift ≡ true =
                rw (lt-ltb s.elf.phoff made.layout.shift.from before_from) refl in
                made.table_place.kept (tight-is s tight w read sound made ∙ both.0) kept
                ∙ moved-before made.layout.shift.from step s.elf.phoff before_from

    count-left : IsLeft (patch_of (number 0x38 2 made.fields.segments))
    count-left = field-left 0x38 2 made.fields.segments (omega arith) (λ from below. cases from below tight refl)
      where
        cases : 0x38 ≤ k → k < 0x3a → (b : Bool) → tight ≡ b →
            get_or (little_bytes 2 made.fields.segments) (k - 0x38) 0 ≡ get_or file k 0
        cases from below true e = absurd (shown (hides-e_phnum s.elf tight k from below e))
        cases from below false e =
            let kept : made.segments ≡ made.are_headers.renewed =
            made.are_headers.kept (tight-is s tight w read sound made ∙ e) in
            same-number 0x38 2 made.fields.segments
            (made.count ∙ ap length kept ∙ made.are_headers.are.count ∙ ap length read.segments
            ∙ length-segments_of file) from below

    fields-left : All IsLeft (map patch_of (header_numbers made.fields))
    fields-left zero e below = entry-left
    fields-left (suc zero) e below = place-left
    fields-left (suc (suc zero)) e below = field-left 0x28 8 made.fields.section_headers_at (omega arith)
        (λ from under. absurd (shown (hides-e_shoff s.elf tight k from under)))
    fields-left (suc (suc (suc zero))) e below = count-left
    fields-left (suc (suc (suc (suc zero)))) e below = field-left 0x3c 2 made.fields.sections (omega arith)
        (λ from under. absurd (shown (hides-e_shnum s.elf tight k from under)))
    fields-left (suc (suc (suc (suc (suc zero))))) e below =
        field-left 0x3e 2 made.fields.names (omega arith) (same-number 0x3e 2 made.fields.names made.names)
    fields-left (suc (suc (suc (suc (suc (suc i)))))) e below = absurd (omega arith)

    -- the table of program headers
    some_bytes : 0 < p.filesz
    some_bytes = let from = in_file.1 in let below = in_file.2 in omega (arith, from, below)

    table-left : IsLeft (record { offset = made.program_headers_at; bytes = segment_table made.segments })
    table-left = cases tight refl
      where
        above : tight ≡ true → IsLeft (record { offset = made.program_headers_at; bytes = segment_table made.segments })
        above e =
            let stays : moved_by keep step k ≡ k = moved-none keep step k (by-tight s tight w read sound made e) in
            let ends : p.offset + p.filesz ≤ loads_end ps = ends-below ps p there in_file.0 some_bytes in
            let unit = align-above ps in
            let up = rounded_up-above (greatest_align ps) (loads_end ps) (omega (arith, unit)) in
            let offset : made.program_headers_at ≡ made.layout.area.offset =
            made.table_place.above (tight-is s tight w read sound made ∙ e) in
            let from = offset-tight s tight w read sound made e in
            let inside : k < p.offset + p.filesz = in_file.2 in
            leaves-elsewhere made.program_headers_at (moved_by keep step k) (get_or file k 0) (segment_table made.segments)
            (omega (arith, stays, ends, offset, from, up, inside))

        behind : tight ≡ false → (b : Bool) → is_kept_table s.elf made.layout.shift ≡ b →
            IsLeft (record { offset = made.program_headers_at; bytes = segment_table made.segments })
        behind e false added =
            let high : size_of parts ≤ made.program_headers_at = made.table_place.added (tight-is s tight w read sound made ∙ e) added in
            let inside : k < p.offset + p.filesz = in_file.2 in
            let within : moved_by keep step k + 1 ≤ size_of parts =
            stretch-within parts ps step (length file) (length made.layout.bytes.items) parts-fit made.laid_out.can p k 1 there
            in_file.0 (omega arith) in_file.1 (omega arith) in
            leaves-elsewhere made.program_headers_at (moved_by keep step k) (get_or file k 0) (segment_table made.segments)
            (omega (arith, high, within))
        behind e true stays = subst IsLeft (sym same) (subst (λ (o : ℕ). Leaves o (get_or file k 0) (record {
          offset = moved_by made.layout.shift.from step s.elf.phoff;
          bytes = segment_table made.are_headers.renewed;
        })) (moved-keep k) left)
          where
            not_tight : made.layout.area.tight ≡ false
            not_tight = tight-is s tight w read sound made ∙ e

            are : AreRenewed made.layout.shift.from step made.layout.area.end false
                (grows_at false made.layout.code) ps made.are_headers.renewed
            are = subst (λ (t : Bool). AreRenewed made.layout.shift.from step made.layout.area.end t
                (grows_at t made.layout.code) ps made.are_headers.renewed) not_tight made.are_headers.are

            left : Leaves (moved_by made.layout.shift.from step k) (get_or file k 0) (record {
              offset = moved_by made.layout.shift.from step s.elf.phoff;
              bytes = segment_table made.are_headers.renewed;
            })
            left =
                leaves-table s.elf made.layout.code made.laid_out.executable made.laid_out.found made.layout.shift.from step
                made.layout.area.end k (get_or file k 0) made.are_headers.renewed
                (low-bytes file bytes) (sym end-is) header-read are table-apart refl
                (λ hides. shown (subst (λ (t : Bool). list_any (is_in_range k) (hidden_fields s.elf t) ≡ true) (sym e) hides))

            at : made.program_headers_at ≡ moved_by made.layout.shift.from step s.elf.phoff
            at = made.table_place.kept not_tight stays

            table : segment_table made.segments ≡ segment_table made.are_headers.renewed
            table = ap segment_table (made.are_headers.kept not_tight)

            same : ◌≡◌ {A = Patch} (record { offset = made.program_headers_at; bytes = segment_table made.segments }) (record {
              offset = moved_by made.layout.shift.from step s.elf.phoff;
              bytes = segment_table made.are_headers.renewed;
            })
            same = λ i. record { offset = at i; bytes = table i }

        cases : (b : Bool) → tight ≡ b → IsLeft (record { offset = made.program_headers_at; bytes = segment_table made.segments })
        cases true e = above e
        cases false e = behind e (is_kept_table s.elf made.layout.shift) refl

    pub all-left : All IsLeft patches
    all-left =
        All-append IsLeft (map patch_of made.cells) (headers s tight w made) cells-left
        (All-cons IsLeft (record { offset = made.program_headers_at; bytes = segment_table made.segments })
        (map patch_of (header_numbers made.fields)) table-left fields-left)

  -- the whole memory
  pub image-is : LoadOnce (segments_of w) → CarriesImage file w (is_changed s tight) ps (segments_of w)
  image-is once =
      subst (λ (xs : List ℕ). CarriesImage file xs (is_changed s tight) ps (segments_of w)) (sym written-all)
      (image-written file made.layout.bytes.items made.tail made.put.assembled.base patches parts ps (segments_of w) keep step
      (is_changed s tight) made.laid_out.can made.put.assembled.joined parts-fit loads-keep once within-all all-left)
