-- A file that was made is laid out as it has to be, by what is read of it.
use Rattle.std.proofs.Common.{◌≡◌, ◌∙◌, sym, ap, subst, refl, ℕ, zero, suc, ◌+◌, ◌*◌, ◌≤◌, ◌<◌, List}
use Rattle.std.proofs.Common.{◌++◌, Option, Some, None, Bool, true, false, String, Vec, length, map, min, take, get_or}
use Rattle.std.proofs.Common.{slice_get, arith}
use Rattle.std.specs.Prelude.{All, Contains, ◌||◌, if◌then◌else◌}
use Rattle.std.specs.Option.{option_map_or}
use Rattle.std.proofs.lemmas.List.{get_or_default}
use Rattle.std.proofs.lemmas.List.Elements.{All-append, All-map}
use Rattle.std.proofs.lemmas.Option.{slice_get_within}
use Rattle.elf_image.specs.declared.elf.Elf.{Elf}
use Rattle.elf_image.specs.declared.section.Section.{Section}
use Rattle.elf_image.specs.declared.section.SectionHeader.{SectionHeader}
use Rattle.elf_image.specs.declared.section.TheConstants.{SHDR_SIZE}
use Rattle.elf_image.specs.faults.FileFaults.{IsSound}
use Rattle.elf_image.specs.file.Header.{e_phoff, e_shoff}
use Rattle.elf_image.specs.file.ParsedFile.{IsElfOf}
use Rattle.elf_image.specs.memory.Break.{rounded_up}
use Rattle.elf_parts.specs.Parts.{size_of}
use Rattle.elf_plan.specs.Area.{area_offset, loads_end, lowest_behind, moved_by}
use Rattle.elf_plan.specs.FileLayout.{HasFileLayout, KeepsHeaderFields, StandFrom, added_ranges, contents_start, is_kept_table}
use Rattle.elf_plan.specs.FileLayout.{loaded_end, table_of, table_place}
use Rattle.elf_plan.specs.NewSections.{adds_ranges}
use Rattle.elf_make.specs.FileParts.{IsMade, start_after}
use Rattle.elf_make.specs.MadeSections.{HasSections}
use Rattle.elf_make.specs.PartPlaces.{MovesFrom}
use Rattle.elf_make.specs.PlacedContents.{IsPlaced, bytes_at, ends_behind}
use Rattle.elf_make.specs.Source.{Source}
use Rattle.elf_make.proofs.CellPieces.{CanHoldPiece}
use Rattle.elf_make.proofs.HeaderKept.{fields-kept}
use Rattle.elf_make.proofs.MadeHeaders.{e_phoff-written, e_shoff-written, length-written}
use Rattle.elf_make.proofs.PlannedOrder.{listed-within}
use Rattle.elf_make.proofs.SectionsRead.{ends-above, no_header, section-read, sections-count}
use Rattle.elf_make.proofs.StandingOrder.{stand-from}

-- Where the loaded bytes end, and the places of the table of program headers and of the contents of sections.
module _ (s : Source) (tight : Bool) (w : List ℕ) (made : IsMade s tight w) where
  abbrev base : ℕ
  base = size_of made.layout.parts

  -- the loaded bytes of the input after the area, if some moved
  moved-end : (o : Option ℕ) → MovesFrom o s.elf.segments.items made.layout.area made.layout.shift made.layout.parts →
      option_map_or (λ low. loads_end s.elf.segments.items + made.layout.shift.by) o
      (area_offset made.layout.area made.layout.area.end) ≡ base
  moved-end None moves = let low = moves.0 in let high = moves.1 in let at = moves.2 in omega (arith, low, high, at)
  moved-end (Some x) moves =
      let low = moves.0 in
      let high = moves.1 in
      let at = moves.2 in
      let order = made.laid_out.can.ordered in
      omega (arith, low, high, at, order)

  loaded : (b : Bool) → made.layout.area.tight ≡ b →
      loaded_end s.elf.segments.items made.layout.area made.layout.shift ≡ base
  loaded true e =
      let above = made.laid_out.above e in
      let low = above.low in
      let high = above.high in
      let end = above.end in
      rw e (omega (arith, low, high, end))
  loaded false e =
      rw e (moved-end (lowest_behind made.layout.shift.from s.elf.segments.items) (made.laid_out.behind e).moves)

  loaded-is : loaded_end s.elf.segments.items made.layout.area made.layout.shift ≡ base
  loaded-is = loaded made.layout.area.tight refl

  abbrev kept : Bool
  kept = is_kept_table s.elf made.layout.shift

  abbrev load_end : ℕ
  load_end = loaded_end s.elf.segments.items made.layout.area made.layout.shift

  abbrev place : Bool → Bool → ℕ
  place t k =
      if t then made.layout.area.offset
      else if k then moved_by made.layout.shift.from made.layout.shift.by s.elf.phoff
      else rounded_up 8 load_end

  placed : (t k : Bool) → made.layout.area.tight ≡ t → kept ≡ k → made.program_headers_at ≡ place t k
  placed true k e f = made.table_place.above e
  placed false true e f = made.table_place.kept e f
  placed false false e f = made.table_place.rounded e f ∙ ap (rounded_up 8) (sym loaded-is)

  table-is : made.program_headers_at ≡ table_place s.elf made.layout.area made.layout.shift
  table-is = placed made.layout.area.tight kept refl refl

  abbrev after : ℕ → ℕ → Bool → ℕ
  after from table b = if b then from else table + (table_of s.elf).size

  -- where the contents begin, by what is known of the table
  started : (t k : Bool) → made.layout.area.tight ≡ t → kept ≡ k →
      after base (rounded_up 8 base) (t || k) ≡ after load_end (place t k) (t || k)
  started true k e f = sym loaded-is
  started false true e f = sym loaded-is
  started false false e f = ap (λ (n : ℕ). rounded_up 8 n + (table_of s.elf).size) (sym loaded-is)

  start-is : start_after s.elf made.layout.area made.layout.shift base ≡ contents_start s.elf made.layout.area made.layout.shift
  start-is = started made.layout.area.tight kept refl refl

-- An element of a list, whichever default is named.
contained-at : (indices : List ℕ) (i : ℕ) → Contains indices i → (j : ℕ) × (j < length indices) × (get_or indices j 0 ≡ i)
contained-at indices i (j, below, is) = (j, below, get_or_default indices j 0 i below ∙ is)

module _ {Y Z : Type 0} (s : Source) (tight : Bool) (w : List ℕ) (read : IsElfOf s.elf.file.now s.elf)
    (sound : IsSound s.elf.file.now) (made : IsMade s tight w) (can : All (CanHoldPiece s.elf) s.cells)
    (tables : List (String Y × Vec ℕ Z)) (has : HasSections s tables tight w made) (new : Elf) (new_read : IsElfOf w new) where
  abbrev adds : Bool
  adds = adds_ranges s.elf.sections.items tables

  abbrev pub indices : List ℕ
  indices = map (λ (e : ℕ × ℕ). e.1) has.order ++ added_ranges adds (length has.put.set)

  abbrev pub bytes : ℕ → List ℕ
  bytes = bytes_at has.put.new s.elf has.contents

  abbrev start : ℕ
  start = start_after s.elf made.layout.area made.layout.shift (base s tight w made)

  -- as many as there were before their contents had places
  pub counted : length new.sections.items ≡ length has.put.set
  counted =
      sections-count s tight w read sound made can tables has.contents has.order has.headers has.put has.count new new_read
      ∙ has.put.count ∙ has.put.are_placed.count

  -- each of the indices is that of a section
  listed : All (λ (i : ℕ). i < length new.sections.items) indices
  listed = All-append (λ (i : ℕ). i < length new.sections.items) _ _ front (last adds)
    where
      front : All (λ (i : ℕ). i < length new.sections.items) (map (λ (e : ℕ × ℕ). e.1) has.order)
      front = All-map (λ (i : ℕ). i < length new.sections.items) (λ (e : ℕ × ℕ). e.1) has.order
          (λ k d below.
          let low = listed-within s.elf.sections.items _ has.order has.arranged.order_is k d below in
          let more = has.put.more in
          let count = counted in
          omega (arith, low, more, count))

      last : (b : Bool) → All (λ (i : ℕ). i < length new.sections.items) (added_ranges b (length has.put.set))
      last false k d below = absurd (omega arith)
      last true zero d below = let more = has.put.more in let count = counted in omega (arith, more, count)
      last true (suc k) d below = absurd (omega arith)

  -- What is said of a section whose contents are written.
  module _ (i : ℕ) (n : Section) (there : Contains indices i) (at_n : slice_get new.sections.items i ≡ Some n) where
    abbrev now : SectionHeader
    now = get_or has.put.placed i no_header

    abbrev old : SectionHeader
    old = get_or has.put.set i no_header

    pub found : (end : ℕ) × (start ≤ end) × IsPlaced (base s tight w made) end (bytes i) has.put.front old now
    found =
        let (j, below, is) = contained-at indices i there in (
          ends_behind bytes has.put.set no_header start (take j indices),
          ends-above bytes has.put.set no_header start (take j indices),
          subst
              (λ (k : ℕ). IsPlaced (base s tight w made) (ends_behind bytes has.put.set no_header start (take j indices)) (bytes k)
              has.put.front (get_or has.put.set k no_header) (get_or has.put.placed k no_header))
              is (has.put.are_placed.placed j no_header below),
        )

    -- its offset isn't capped
    uncapped : min now.offset (base s tight w made + length made.tail) ≡ now.offset
    uncapped =
        let within = (has.put.keeps _ _ found.2.stands).within in
        omega (arith, within)

    pub says : (n.offset ≡ now.offset) × (n.size ≡ now.size) × (n.align ≡ old.align)
    says =
        let inside = slice_get_within new.sections.items i n at_n in
        let count = counted in
        let more = has.put.are_placed.count in
        let is = has.put.are_capped i no_header (omega (arith, inside, count, more)) in
        let said = section-read s tight w read sound made can tables has.contents has.order has.headers has.put has.count new
        new_read i n no_header at_n in (
          said.offset ∙ ap (λ (h : SectionHeader). h.offset) is ∙ uncapped,
          said.size ∙ ap (λ (h : SectionHeader). h.size) is,
          said.align ∙ ap (λ (h : SectionHeader). h.align) is ∙ ap (λ (h : SectionHeader). h.align) found.2.same,
        )

  abbrev end : ℕ
  end = ends_behind bytes has.put.set no_header start indices

  stand : StandFrom new.sections.items start indices end
  stand = stand-from new.sections.items bytes (base s tight w made) start has.put.front has.put.set has.put.placed no_header
      indices has.put.are_placed says listed

  pub layout-read : HasFileLayout s.elf new tables made.layout.area made.layout.shift
  layout-read = record {
    header = subst (KeepsHeaderFields s.elf.file.now) (sym new_read.file_is) (fields-kept s tight w read sound made can);
    table = ap e_phoff new_read.file_is ∙ e_phoff-written s tight w made
        ∙ table-is s tight w made;
    order = has.order;
    lists = has.arranged.order_is;
    end = end;
    stand = subst (λ (n : ℕ). StandFrom new.sections.items
        (contents_start s.elf made.layout.area made.layout.shift)
        (map (λ (e : ℕ × ℕ). e.1) has.order ++ added_ranges adds n) end) (sym counted)
        (subst (λ (n : ℕ). StandFrom new.sections.items n indices end)
        (start-is s tight w made) stand);
    headers =
        ap e_shoff new_read.file_is ∙ e_shoff-written s tight w made ∙ has.put.ends.place
        ∙ ap (rounded_up 8) (has.put.are_placed.end no_header);
    size =
        ap length new_read.file_is ∙ length-written s tight w made ∙ has.put.ends.size
        ∙ ap (λ (n : ℕ). made.fields.section_headers_at + SHDR_SIZE * n) (sym (sections-count s tight w read sound made can tables
        has.contents has.order has.headers has.put has.count new new_read))
        ∙ ap (λ (n : ℕ). n + SHDR_SIZE * length new.sections.items)
        (sym (ap e_shoff new_read.file_is ∙ e_shoff-written s tight w made));
  }
