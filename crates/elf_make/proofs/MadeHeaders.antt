-- The headers of a file that was made, read back.
use Rattle.std.proofs.Common.{◌≡◌, ◌∙◌, sym, ap, subst, refl, ℕ, zero, suc, ◌+◌, ◌^◌, ◌≤◌, ◌<◌, inl, inr, List, [], ◌∷◌, ◌++◌}
use Rattle.std.proofs.Common.{Bool, length, map, get_or, arith, length-append}
use Rattle.std.specs.Prelude.{All, AllPairs}
use Rattle.std.proofs.lemmas.List.{get_or-map, length-map}
use Rattle.byteorder.specs.Endian.{little_bytes}
use Rattle.byteorder.specs.Numbers.{length-bytes_low_first}
use Rattle.elf_image.specs.declared.segment.Segment.{Segment}
use Rattle.elf_image.specs.file.Header.{header_size, e_entry, e_phoff, e_phnum, e_shnum, e_shoff, e_shstrndx}
use Rattle.elf_image.specs.file.Header.{segments_of}
use Rattle.elf_parts.specs.declared.number_at.NumberAt.{NumberAt}
use Rattle.elf_parts.specs.Assembly.{header_patches, PutsNumber, PutsTable}
use Rattle.elf_parts.specs.Numbers.{CanPut, patch_of}
use Rattle.elf_parts.specs.Parts.{size_of}
use Rattle.elf_parts.specs.Patches.{Patch, put_all, IsWithin, AreApart}
use Rattle.elf_parts.specs.Spellings.{segment_table}
use Rattle.elf_parts.proofs.Patches.{length-put_all}
use Rattle.elf_parts.proofs.ReadBack.{number_at-put_all, segments_of-put_all}
use Rattle.elf_plan.specs.declared.area.Area.{Area}
use Rattle.elf_plan.specs.declared.area.Shift.{Shift}
use Rattle.elf_plan.specs.Area.{shift_of}
use Rattle.elf_plan.specs.NewSegments.{AreNewHeaders}
use Rattle.elf_make.specs.WrittenFile.{FollowsHeaders}
use Rattle.std.specs.Prelude.{IfSome, Option}
use Rattle.elf_make.specs.FileParts.{IsMade, header_numbers, number}
use Rattle.elf_make.specs.Source.{Source, source_area}

-- Numbers of which each begins where the one before has ended or after it, and the last ends within the file's header.
data AreRising : ℕ → List NumberAt → Type 0 where
  no_more : (low : ℕ) → low ≤ header_size → AreRising low []
  next_number : (low : ℕ) (n : NumberAt) (ns : List NumberAt) → low ≤ n.offset →
      AreRising (n.offset + n.width) ns → AreRising low (n ∷ ns)

rising-end : (low : ℕ) (ns : List NumberAt) → AreRising low ns → low ≤ header_size
rising-end low ns (no_more _ end) = end
rising-end low ns (next_number _ n rest from more) =
    let end : n.offset + n.width ≤ header_size = rising-end (n.offset + n.width) rest more in omega arith

rising-within : (low : ℕ) (ns : List NumberAt) → AreRising low ns → (k : ℕ) (d : NumberAt) → k < length ns →
    (low ≤ (get_or ns k d).offset) × ((get_or ns k d).offset + (get_or ns k d).width ≤ header_size)
rising-within low ns (no_more _ end) k d below = absurd (omega arith)
rising-within low ns (next_number _ n rest from more) zero d below = (from, rising-end (n.offset + n.width) rest more)
rising-within low ns (next_number _ n rest from more) (suc k) d below =
    let later = rising-within (n.offset + n.width) rest more k d (omega arith) in
    let high : n.offset + n.width ≤ (get_or rest k d).offset = later.0 in
    (omega arith, later.1)

length-patch : (n : NumberAt) → length (little_bytes n.width n.value) ≡ n.width
length-patch n = length-bytes_low_first 0 n.width n.value

-- the patch of an index
patch-at : (ns : List NumberAt) (k : ℕ) (d : NumberAt) (e : Patch) → k < length ns →
    get_or (map patch_of ns) k e ≡ patch_of (get_or ns k d)
patch-at ns k d e below = get_or-map patch_of ns k d e below

rising-apart : (low : ℕ) (ns : List NumberAt) → AreRising low ns → AllPairs AreApart (map patch_of ns)
rising-apart low ns (no_more _ end) i j e less below = absurd (omega arith)
rising-apart low ns (next_number _ n rest from more) zero zero e less below = absurd (omega arith)
rising-apart low ns (next_number _ n rest from more) zero (suc j) e less below =
    let count : length (map patch_of rest) ≡ length rest = length-map rest patch_of in
    let inside : j < length rest = omega arith in
    let later = rising-within (n.offset + n.width) rest more j n inside in
    let high : n.offset + n.width ≤ (get_or rest j n).offset = later.0 in
    let size = length-patch n in
    subst (AreApart (patch_of n)) (sym (patch-at rest j n e inside)) (inl (omega (arith, size, high)))
rising-apart low ns (next_number _ n rest from more) (suc i) zero e less below = absurd (omega arith)
rising-apart low ns (next_number _ n rest from more) (suc i) (suc j) e less below =
    rising-apart (n.offset + n.width) rest more i j e (omega arith) (omega arith)

-- numbers that can be put are within the file
pub puts-within : (size : ℕ) (ns : List NumberAt) → All (CanPut size) ns → All (IsWithin size) (map patch_of ns)
puts-within size ns can k e below =
    let count : length (map patch_of ns) ≡ length ns = length-map ns patch_of in
    let inside : k < length ns = omega (arith, count, below) in
    let d : NumberAt = number 0 0 0 in
    let fits : (get_or ns k d).offset + (get_or ns k d).width ≤ size = (can k d inside).within in
    let long = length-patch (get_or ns k d) in
    subst (IsWithin size) (sym (patch-at ns k d e inside)) (omega (arith, long, fits))

module _ (s : Source) (tight : Bool) (w : List ℕ) (made : IsMade s tight w) where
  -- the parts with their tail, and then with the code cells put over them
  abbrev pub joined : List ℕ
  joined = made.put.assembled.base ++ made.tail

  abbrev pub with_cells : List ℕ
  with_cells = put_all joined (map patch_of made.cells)

  abbrev pub headers : List Patch
  headers = header_patches made.program_headers_at (segment_table made.segments) (header_numbers made.fields)

  pub written-is : w ≡ put_all with_cells headers
  written-is = made.put.assembled.is

  pub joined-size : length joined ≡ size_of made.layout.parts + length made.tail
  joined-size =
      length-append made.put.assembled.base made.tail ∙ ap (λ (n : ℕ). n + length made.tail) made.put.assembled.joined.size

  pub cells-within : All (IsWithin (length joined)) (map patch_of made.cells)
  cells-within = subst (λ (n : ℕ). All (IsWithin n) (map patch_of made.cells)) (sym joined-size)
      (puts-within (size_of made.layout.parts + length made.tail) made.cells made.put.cells_fit)

  pub with_cells-size : length with_cells ≡ length joined
  with_cells-size = length-put_all (map patch_of made.cells) joined cells-within

  size-is : length with_cells ≡ size_of made.layout.parts + length made.tail
  size-is = with_cells-size ∙ joined-size

  pub headers-within : All (IsWithin (length with_cells)) headers
  headers-within zero e below = let table = made.put.table_fits in omega (arith, size-is, table)
  headers-within (suc k) e below =
      subst (λ (n : ℕ). IsWithin n (get_or (map patch_of (header_numbers made.fields)) k e)) (sym size-is)
      (puts-within (size_of made.layout.parts + length made.tail)
      (header_numbers made.fields) made.put.fields_fit k e (omega arith))

  rising : AreRising 0x18 (header_numbers made.fields)
  rising =
      next_number 0x18 _ _ (omega arith)
      (next_number 0x20 _ _ (omega arith)
      (next_number 0x28 _ _ (omega arith)
      (next_number 0x30 _ _ (omega arith)
      (next_number 0x3a _ _ (omega arith) (next_number 0x3e _ _ (omega arith) (no_more 0x40 (omega arith)))))))

  -- fields of the file's header are in it
  pub fields-in_header : (k : ℕ) (e : Patch) → k < length (header_numbers made.fields) →
      (get_or (map patch_of (header_numbers made.fields)) k e).offset + length
      (get_or (map patch_of (header_numbers made.fields)) k e).bytes ≤ header_size
  fields-in_header k e below =
      let d : NumberAt = number 0 0 0 in
      let within = rising-within 0x18 (header_numbers made.fields) rising k d below in
      let end : (get_or (header_numbers made.fields) k d).offset + (get_or (header_numbers made.fields) k d).width ≤ header_size =
      within.1 in
      let long = length-patch (get_or (header_numbers made.fields) k d) in
      subst (λ (p : Patch). p.offset + length p.bytes ≤ header_size) (sym (patch-at (header_numbers made.fields) k d e below))
      (omega (arith, long, end))

  pub headers-apart : AllPairs AreApart headers
  headers-apart zero zero e less below = absurd (omega arith)
  headers-apart zero (suc j) e less below =
      let in_header = fields-in_header j e (omega arith) in
      let behind = made.table_place.header in
      inr (omega (arith, in_header, behind))
  headers-apart (suc i) zero e less below = absurd (omega arith)
  headers-apart (suc i) (suc j) e less below =
      rising-apart 0x18 (header_numbers made.fields) rising i j e (omega arith) (omega arith)

  field-fits : (k : ℕ) → k < length (header_numbers made.fields) → (get_or (header_numbers made.fields) k (number 0 0 0)).value
      < 256 ^ (get_or (header_numbers made.fields) k (number 0 0 0)).width
  field-fits k below = (made.put.fields_fit k (number 0 0 0) below).fits

  puts-table : PutsTable headers made.program_headers_at made.segments
  puts-table = record {
    place = subst (PutsNumber headers 0x20 8) made.place (2, omega arith, refl);
    place_fits = subst (λ (n : ℕ). n < 256 ^ 8) made.place (field-fits 1 (omega arith));
    count = subst (PutsNumber headers 0x38 2) made.count (4, omega arith, refl);
    count_fits = subst (λ (n : ℕ). n < 256 ^ 2) made.count (field-fits 3 (omega arith));
    fits = made.put.fit;
    table = (0, omega arith, refl);
  }

  -- the program headers
  pub segments-written : segments_of w ≡ made.segments
  segments-written = ap segments_of written-is
      ∙ segments_of-put_all headers with_cells made.program_headers_at made.segments headers-within headers-apart puts-table

  pub e_phoff-written : e_phoff w ≡ made.program_headers_at
  e_phoff-written = ap e_phoff written-is ∙ number_at-put_all headers with_cells 0x20 8 made.program_headers_at headers-within headers-apart
      puts-table.place puts-table.place_fits

  pub e_phnum-written : e_phnum w ≡ length made.segments
  e_phnum-written = ap e_phnum written-is ∙ number_at-put_all headers with_cells 0x38 2
      (length made.segments) headers-within headers-apart puts-table.count puts-table.count_fits

  -- the entry point
  pub entry-fits : made.fields.entry < 256 ^ 8
  entry-fits = field-fits 0 (omega arith)

  pub puts-entry : PutsNumber headers 0x18 8 made.fields.entry
  puts-entry = (1, omega arith, refl)

  pub e_entry-written : e_entry w ≡ made.fields.entry
  e_entry-written = ap e_entry written-is
      ∙ number_at-put_all headers with_cells 0x18 8 made.fields.entry headers-within headers-apart puts-entry entry-fits

  -- the offset of the section headers, and how many there are
  pub e_shoff-written : e_shoff w ≡ made.fields.section_headers_at
  e_shoff-written =
      ap e_shoff written-is
      ∙ number_at-put_all headers with_cells 0x28 8 made.fields.section_headers_at headers-within headers-apart
      (3, omega arith, refl)
      (field-fits 2 (omega arith))

  pub e_shnum-written : e_shnum w ≡ made.fields.sections
  e_shnum-written =
      ap e_shnum written-is
      ∙ number_at-put_all headers with_cells 0x3c 2 made.fields.sections headers-within headers-apart (5, omega arith, refl)
      (field-fits 4 (omega arith))

  -- how long the file is
  pub length-written : length w ≡ size_of made.layout.parts + length made.tail
  length-written = ap length written-is ∙ length-put_all headers with_cells headers-within ∙ size-is

  -- the index of the section with the names of sections
  pub e_shstrndx-written : e_shstrndx w ≡ e_shstrndx s.elf.file.now
  e_shstrndx-written =
      ap e_shstrndx written-is
      ∙ number_at-put_all headers with_cells 0x3e 2 made.fields.names headers-within headers-apart (6, omega arith, refl)
      (field-fits 5 (omega arith))
      ∙ made.names

  -- they follow those of the input
  pub headers-written : FollowsHeaders s tight w
  headers-written =
      let ps : List Segment = s.elf.segments.items in
      let code : ℕ = made.layout.code in
      subst (λ (o : Option (ℕ × Segment)). IfSome o (λ e. AreNewHeaders (shift_of ps (source_area s tight)).from
      (shift_of ps (source_area s tight)).by (source_area s tight) e.0 ps (segments_of w)))
      (sym made.laid_out.found)
      (subst (λ (qs : List Segment). AreNewHeaders (shift_of ps (source_area s tight)).from (shift_of ps (source_area s tight)).by
      (source_area s tight) code ps qs) (sym segments-written)
      (subst (λ (a : Area). AreNewHeaders (shift_of ps a).from (shift_of ps a).by a code ps made.segments) made.laid_out.area
      (subst
      (λ (h : Shift). AreNewHeaders h.from h.by made.layout.area code ps made.segments) made.laid_out.shift made.are_headers)))
