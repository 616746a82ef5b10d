-- The section headers of a file that was made, read back.
use Rattle.std.proofs.Common.{◌≡◌, ◌∙◌, sym, ap, subst, ℕ, ◌+◌, ◌-◌, ◌*◌, ◌≤◌, ◌<◌, List, [], ◌∷◌, ◌++◌, Bool}
use Rattle.std.proofs.Common.{length, map, max, get_or, slice_get, Some, String, Vec, arith}
use Rattle.std.specs.Prelude.{All}
use Rattle.std.proofs.lemmas.Grind.{same_number_lists}
use Rattle.std.proofs.lemmas.List.{get_or-map, length-map}
use Rattle.std.proofs.lemmas.Option.{get_or_from_slice_get, slice_get_within}
use Rattle.elf_image.specs.declared.elf.Elf.{Elf}
use Rattle.elf_image.specs.declared.section.Section.{Section}
use Rattle.elf_image.specs.declared.section.SectionHeader.{SectionHeader}
use Rattle.elf_image.specs.declared.section.TheConstants.{SHDR_SIZE}
use Rattle.elf_image.specs.faults.FileFaults.{IsSound}
use Rattle.elf_image.specs.file.ParsedFile.{IsElfOf}
use Rattle.elf_image.specs.file.Sections.{section_header, section_header_at}
use Rattle.elf_parts.specs.Patches.{Stands}
use Rattle.elf_parts.specs.Spellings.{section_table}
use Rattle.elf_parts.proofs.TablesRead.{section_header-stands}
use Rattle.elf_plan.specs.declared.sections.Contents.{Contents}
use Rattle.rb_bytes.proofs.ListLemmas.{slice_get_found}
use Rattle.elf_make.specs.FileParts.{IsMade}
use Rattle.elf_plan.specs.FileLayout.{added_ranges}
use Rattle.elf_plan.specs.NewSections.{adds_ranges}
use Rattle.elf_make.specs.PlacedContents.{bytes_at, end_behind, ends_behind}
use Rattle.elf_make.specs.SectionTable.{ArePut}
use Rattle.elf_make.specs.Source.{Source}
use Rattle.elf_make.proofs.CellPieces.{CanHoldPiece}
use Rattle.elf_make.proofs.MadeHeaders.{e_shnum-written, e_shoff-written}
use Rattle.elf_make.proofs.SameBreak.{rounded_up-above}
use Rattle.elf_make.proofs.TailWritten.{base, start, tail-written}

-- contents end at or after where they begin
pub ends-above : (bytes : ℕ → List ℕ) (headers : List SectionHeader) (d : SectionHeader) (start : ℕ) (indices : List ℕ) →
    start ≤ ends_behind bytes headers d start indices
ends-above bytes headers d start [] = omega arith
ends-above bytes headers d start (i ∷ indices) =
    let up = rounded_up-above (max 1 (get_or headers i d).align) start (omega arith) in
    let rest = ends-above bytes headers d (end_behind bytes headers d start i) indices in
    omega (arith, up, rest)

-- an empty header
pub no_header : SectionHeader
no_header = record {
  name = 0;
  kind = 0;
  flags = 0;
  addr = 0;
  offset = 0;
  size = 0;
  link = 0;
  info = 0;
  align = 0;
  entsize = 0;
}

-- a section says what a header does, except for its name
pub record SaysHeader (h : SectionHeader) (n : Section) : Type 0 where
  pub kind : n.kind ≡ h.kind
  pub flags : n.flags ≡ h.flags
  pub addr : n.addr ≡ h.addr
  pub offset : n.offset ≡ h.offset
  pub size : n.size ≡ h.size
  pub link : n.link ≡ h.link
  pub info : n.info ≡ h.info
  pub align : n.align ≡ h.align
  pub entsize : n.entsize ≡ h.entsize

module _ {Y Z : Type 0} (s : Source) (tight : Bool) (w : List ℕ) (read : IsElfOf s.elf.file.now s.elf)
    (sound : IsSound s.elf.file.now) (made : IsMade s tight w) (can : All (CanHoldPiece s.elf) s.cells)
    (tables : List (String Y × Vec ℕ Z)) (contents : List Contents) (order : List (ℕ × ℕ)) (headers : List SectionHeader)
    (put : ArePut s.elf tables made.layout.area made.layout.shift contents order (base s tight w read sound made)
    (start s tight w read sound made) made.tail
    made.fields.section_headers_at headers) (count : made.fields.sections ≡ length headers) where
  abbrev at : ℕ
  at = made.fields.section_headers_at

  abbrev before : ℕ
  before = base s tight w read sound made

  begins-before : start s tight w read sound made ≤ before + (at - before)
  begins-before =
      let indices : List ℕ = map (λ (e : ℕ × ℕ). e.1) order ++ added_ranges (adds_ranges s.elf.sections.items tables)
      (length put.set) in
      let bytes : ℕ → List ℕ = bytes_at put.new s.elf contents in
      let ends : before + length put.front ≡ ends_behind bytes put.set no_header (start s tight w read sound made) indices =
      put.are_placed.end no_header in
      let above = ends-above bytes put.set no_header (start s tight w read sound made) indices in
      let up = rounded_up-above 8 (before + length put.front) (omega arith) in
      let place = put.ends.place in
      let from = put.ends.behind in
      omega (arith, ends, above, up, place, from)

  table-stands : Stands w at (section_table headers)
  table-stands =
      let from = put.ends.behind in
      let same : before + (at - before) ≡ at = omega (arith, from) in
      subst (λ (o : ℕ). Stands w o (section_table headers)) same
      (tail-written s tight w read sound made can (at - before) (section_table headers) put.ends.stands begins-before)

  pub section-written : (i : ℕ) (d : SectionHeader) → i < length headers → section_header w i ≡ get_or headers i d
  section-written i d below =
      ap (λ (o : ℕ). section_header_at w (o + SHDR_SIZE * i)) (e_shoff-written s tight w made)
      ∙ section_header-stands headers w at i d below put.ends.fits table-stands

  -- The sections of a reading of the file.
  module _ (new : Elf) (new_read : IsElfOf w new) where
    pub sections-count : length new.sections.items ≡ length headers
    sections-count = new_read.sections.count_is ∙ e_shnum-written s tight w made ∙ count

    pub section-read : (i : ℕ) (n : Section) (d : SectionHeader) → slice_get new.sections.items i ≡ Some n →
        SaysHeader (get_or headers i d) n
    section-read i n d at_n =
        let inside = slice_get_within new.sections.items i n at_n in
        let counts = sections-count in
        let is = new_read.sections.each i n at_n in
        let here : section_header w i ≡ get_or headers i d = section-written i d (omega (arith, inside, counts)) in
        record {
          kind = is.kind ∙ ap (λ (h : SectionHeader). h.kind) here;
          flags = is.flags ∙ ap (λ (h : SectionHeader). h.flags) here;
          addr = is.addr ∙ ap (λ (h : SectionHeader). h.addr) here;
          offset = is.offset ∙ ap (λ (h : SectionHeader). h.offset) here;
          size = is.size ∙ ap (λ (h : SectionHeader). h.size) here;
          link = is.link ∙ ap (λ (h : SectionHeader). h.link) here;
          info = is.info ∙ ap (λ (h : SectionHeader). h.info) here;
          align = is.align ∙ ap (λ (h : SectionHeader). h.align) here;
          entsize = is.entsize ∙ ap (λ (h : SectionHeader). h.entsize) here;
        }

    pub offsets-read : map (λ n. n.offset) new.sections.items ≡ map (λ h. h.offset) headers
    offsets-read = same_number_lists _ _ size each
      where
        size : length (map (λ (n : Section). n.offset) new.sections.items) ≡ length (map (λ (h : SectionHeader). h.offset) headers)
        size =
            length-map new.sections.items (λ (n : Section). n.offset) ∙ sections-count
            ∙ sym (length-map headers (λ (h : SectionHeader). h.offset))

        each : (k : ℕ) → k < length (map (λ (n : Section). n.offset) new.sections.items) →
            get_or (map (λ (n : Section). n.offset) new.sections.items) k 0 ≡ get_or (map (λ (h : SectionHeader). h.offset) headers) k 0
        each k below =
            let long = length-map new.sections.items (λ (n : Section). n.offset) in
            let inside : k < length new.sections.items = omega (arith, below, long) in
            let counts = sections-count in
            let (n, at_n) = slice_get_found new.sections.items k inside in
            get_or-map (λ (m : Section). m.offset) new.sections.items k n 0 inside
            ∙ ap (λ (m : Section). m.offset) (get_or_from_slice_get new.sections.items k n n at_n)
            ∙ (section-read k n no_header at_n).offset
            ∙ sym (get_or-map (λ (h : SectionHeader). h.offset) headers k no_header 0 (omega (arith, inside, counts)))
