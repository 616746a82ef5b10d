-- The new area is in a written file, and its code in memory, where it may be executed and not written.
use Rattle.std.proofs.Common.{◌≡◌, ◌∙◌, sym, ap, subst, refl, ℕ, zero, suc, ◌+◌, ◌-◌, ◌*◌, ◌≤◌, ◌<◌, ◌⊎◌, inl, inr, List, Option}
use Rattle.std.proofs.Common.{Some, None, String, Vec, Bool, true, false, IsTrue, length, map, get_or, arith}
use Rattle.std.specs.Prelude.{All, Any, Contains, IfSome, codes, ◌||◌}
use Rattle.std.specs.List.{list_any}
use Rattle.std.specs.Option.{option_map_or}
use Rattle.std.proofs.lemmas.Bool.{cases_lt, le-ltb}
use Rattle.std.proofs.lemmas.List.{get_or-map, length-map}
use Rattle.std.proofs.lemmas.List.Folds.{Any-from_list_any}
use Rattle.byteorder.specs.Endian.{little_bytes}
use Rattle.byteorder.specs.Numbers.{length-bytes_low_first}
use Rattle.elf_image.specs.declared.segment.Segment.{Segment}
use Rattle.elf_image.specs.declared.segment.TheConstants.{PF_W, PF_X, PHDR_SIZE}
use Rattle.elf_image.specs.faults.FileFaults.{IsSound}
use Rattle.elf_image.specs.file.Header.{segments_of}
use Rattle.elf_image.specs.file.ParsedFile.{IsElfOf}
use Rattle.elf_image.specs.memory.Image.{has_flag, is_load, is_loaded_with, loads_address, LoadOnce}
use Rattle.elf_image.specs.memory.LoadedBytes.{loads_range}
use Rattle.elf_image.proofs.LoadLemmas.{loads-from_parts}
use Rattle.elf_parts.specs.declared.number_at.NumberAt.{NumberAt}
use Rattle.elf_parts.specs.Numbers.{patch_of}
use Rattle.elf_parts.specs.Patches.{Patch, Stands}
use Rattle.elf_parts.specs.Spellings.{segment_table}
use Rattle.elf_parts.proofs.Patches.{stands-front, stands-put_all}
use Rattle.elf_parts.proofs.Spellings.{length-segment_table}
use Rattle.elf_plan.specs.declared.area.Area.{Area}
use Rattle.elf_plan.specs.Area.{moved_by, area_offset, table_end, table_start}
use Rattle.elf_plan.specs.AreaStands.{AreaStands}
use Rattle.elf_make.specs.AreaTables.{HoldsTables}
use Rattle.elf_make.specs.CarriedBytes.{HoldsBytes}
use Rattle.elf_make.specs.CellNumbers.{IsCellNumber}
use Rattle.elf_plan.specs.FileLayout.{is_kept_table, table_of}
use Rattle.elf_make.specs.FileParts.{IsMade}
use Rattle.elf_plan.specs.NewSections.{bytes_called}
use Rattle.elf_make.specs.Source.{Source, HasPlace, source_area}
use Rattle.elf_make.proofs.CodeMemory.{table_end-above}
use Rattle.elf_make.proofs.CellPlaces.{CellPlace, stands_at, cell-place}
use Rattle.elf_make.proofs.FileEnds.{ends-below}
use Rattle.elf_make.proofs.Images.{segment_of-once, holds-stands}
use Rattle.elf_make.proofs.LaidOut.{stretch-beside}
use Rattle.elf_make.proofs.Loads.{moved-before}
use Rattle.elf_make.proofs.MadeHeaders.{joined, with_cells, headers, written-is, cells-within, headers-within, fields-in_header}
use Rattle.elf_make.proofs.MadeHeaders.{segments-written}
use Rattle.elf_make.proofs.MadeInput.{code-inside, moved-none, tight-is, by-tight, parts-behind, keep-behind, table-end}
use Rattle.elf_make.proofs.MadeSegments.{HoldsArea, holds-area, count-more, area-holds_code, starts-above, starts-behind}
use Rattle.elf_make.proofs.PlacesWritten.{count-same}
use Rattle.elf_make.proofs.SameBreak.{rounded_up-above}
use Rattle.elf_make.proofs.TableKept.{LoadsRange, loads-range}

-- a part of bytes that are in a file
stands-part : (file : List ℕ) (o i : ℕ) (bytes part : List ℕ) → Stands file o bytes → Stands bytes i part →
    Stands file (o + i) part
stands-part file o i bytes part outer inner = record {
  within = let a = outer.within in let b = inner.within in omega arith;
  same = λ j below.
      let b = inner.within in
      let here : o + i + j ≡ o + (i + j) = omega arith in
      ap (λ (k : ℕ). get_or file k 0) here ∙ outer.same (i + j) (omega arith) ∙ inner.same j below;
}

-- a table that starts after an end starts after all before that
starts-at : (align start end : ℕ) (size : Option ℕ) → 0 < align → start ≤ end →
    IfSome (table_start align end size) (λ a. start ≤ a)
starts-at align start end None some low = tt
starts-at align start end (Some size) some low = let up = rounded_up-above align end some in omega (arith, low, up)

module _ (s : Source) (tight : Bool) (w : List ℕ) (read : IsElfOf s.elf.file.now s.elf) (sound : IsSound s.elf.file.now)
    (made : IsMade s tight w) (placed : HasPlace s tight)
    (cells-some : (i : ℕ) (c : ℕ × ℕ × ℕ) → i < length s.cells → 0 < (get_or s.cells i c).1) where
  abbrev ps : List Segment
  ps = s.elf.segments.items

  abbrev area : Area
  area = made.layout.area

  abbrev area_at : ℕ
  area_at = made.layout.parts.area_at

  abbrev size : ℕ
  size = length made.layout.bytes.items

  -- where it is in the file
  area-place : area_at ≡ area_offset area area.start
  area-place = cases tight refl
    where
      cases : (b : Bool) → tight ≡ b → area_at ≡ area_offset area area.start
      cases true e = (made.laid_out.above (tight-is s tight w read sound made ∙ e)).place
      cases false e = (made.laid_out.behind (tight-is s tight w read sound made ∙ e)).place

  front : made.layout.parts.keep ≤ area_at
  front = made.laid_out.can.apart

  behind : area_at + size ≤ made.layout.parts.behind_at
  behind = made.laid_out.can.behind

  -- what is beside it
  abbrev IsBesideArea : ℕ → ℕ → Type 0
  IsBesideArea o n = (o + n ≤ area_at) ⊎ (area_at + size ≤ o)

  cell-beside : (p : Segment) (o n : ℕ) → Contains ps p → IsTrue (is_load p) → 0 < n → p.offset ≤ o →
      o + n ≤ p.offset + p.filesz → IsBesideArea (moved_by made.layout.shift.from made.layout.shift.by o) n
  cell-beside p o n there load some from within = cases tight refl
    where
      cases : (b : Bool) → tight ≡ b → IsBesideArea (moved_by made.layout.shift.from made.layout.shift.by o) n
      cases true e =
          let stays = moved-none made.layout.shift.from made.layout.shift.by o (by-tight s tight w read sound made e) in
          let ends = ends-below ps p there load (omega arith) in
          let keeps = (made.laid_out.above (tight-is s tight w read sound made ∙ e)).keeps in
          let high = front in
          inl (omega (arith, stays, ends, keeps, high))
      cases false e =
          let keep = keep-behind s tight w read sound made e in
          subst (λ (k : ℕ). (moved_by k made.layout.shift.by o + n ≤ area_at)
          ⊎ (area_at + size ≤ moved_by k made.layout.shift.by o)) keep
          (stretch-beside made.layout.parts ps made.layout.shift.by (length s.elf.file.now) size
          (parts-behind s tight w read sound made e) made.laid_out.can p o n there load some from within)

  abbrev IsApart : Patch → Type 0
  IsApart p = (p.offset + length p.bytes ≤ area_at) ⊎ (area_at + size ≤ p.offset)

  cells-beside : All IsApart (map patch_of made.cells)
  cells-beside i e below =
      subst IsApart (sym (get_or-map patch_of made.cells i none e inside))
      (subst (λ (n : ℕ). (number.offset + n ≤ area_at) ⊎ (area_at + size ≤ number.offset)) (sym wide)
      (subst (λ (o : ℕ). IsBesideArea o (cell).1) (sym place.offset)
      (cell-beside place.segment (stands_at place) (cell).1 place.there place.load (cells-some i none_cell in_cells) (omega arith)
      (let within = place.in_file in omega arith))))
    where
      none : NumberAt
      none = record { offset = 0; width = 0; value = 0 }

      none_cell : ℕ × ℕ × ℕ
      none_cell = (0, 0, 0)

      long : length (map patch_of made.cells) ≡ length made.cells
      long = length-map made.cells patch_of

      inside : i < length made.cells
      inside = omega (arith, long, below)

      count : length made.cells ≡ length s.cells
      count = made.are_cells.count

      in_cells : i < length s.cells
      in_cells = omega (arith, count, inside)

      number : NumberAt
      number = get_or made.cells i none

      cell : ℕ × ℕ × ℕ
      cell = get_or s.cells i none_cell

      is : IsCellNumber s.elf made.layout.shift cell number
      is = made.are_cells.each i none_cell none in_cells

      place : CellPlace ps made.layout.shift cell number
      place = cell-place s.elf made.layout.shift cell number is

      wide : length (little_bytes number.width number.value) ≡ cell.1
      wide = length-bytes_low_first 0 number.width number.value ∙ is.width

  -- the table of program headers
  table-size : length (segment_table made.segments) ≡ PHDR_SIZE * length made.segments
  table-size = length-segment_table made.segments

  table-above : tight ≡ true → IsBesideArea made.program_headers_at (length (segment_table made.segments))
  table-above e =
      let at = made.table_place.above (tight-is s tight w read sound made ∙ e) in
      let count = count-more s tight w made e in
      let long = table-size in
      let starts = starts-above s tight w made read sound e in
      let place = area-place in
      inl (omega (arith, at, count, long, starts, place))

  -- bytes that a segment loads whole
  loaded-beside : (p : Segment) (start n : ℕ) → Contains ps p → 0 < n → LoadsRange start n p →
      IsBesideArea (moved_by made.layout.shift.from made.layout.shift.by start) n
  loaded-beside p start n there some loads = cell-beside p start n there loads.load some loads.from loads.in_file

  table-kept : (e : tight ≡ false) → (b : Bool) → is_kept_table s.elf made.layout.shift ≡ b →
      (s.elf.phoff < made.layout.shift.from) ⊎ (made.layout.shift.from ≤ s.elf.phoff) →
      IsBesideArea made.program_headers_at (length (segment_table made.segments))
  table-kept e false kept order =
      let added = made.table_place.added (tight-is s tight w read sound made ∙ e) kept in
      let past = behind in
      inr (omega (arith, added, past))
  table-kept e true kept (inl low) =
      let at = made.table_place.kept (tight-is s tight w read sound made ∙ e) kept
      ∙ moved-before made.layout.shift.from made.layout.shift.by s.elf.phoff low in
      let ends = table-end s tight w read sound made low in
      let long = table-size in
      let count = count-same s tight w read sound made placed e in
      let keep = keep-behind s tight w read sound made e in
      let high = front in
      inl (omega (arith, at, ends, long, count, keep, high))
  table-kept e true kept (inr beyond) =
      let found : list_any (loads_range (table_of s.elf)) ps ≡ true = ap (λ (b : Bool). b
      || list_any (loads_range (table_of s.elf)) ps) (sym (le-ltb s.elf.phoff made.layout.shift.from beyond)) ∙ kept in
      let any : Any (λ p. loads_range (table_of s.elf) p ≡ true) ps = Any-from_list_any (loads_range (table_of s.elf)) ps found in
      let at : made.program_headers_at ≡ moved_by made.layout.shift.from made.layout.shift.by s.elf.phoff =
      made.table_place.kept (tight-is s tight w read sound made ∙ e) kept in
      let long : length (segment_table made.segments) ≡ PHDR_SIZE * length ps =
      table-size ∙ ap (λ (n : ℕ). PHDR_SIZE * n) (sym (count-same s tight w read sound made placed e)) in
      let code = code-inside s tight w read sound made in
      subst (λ (o : ℕ). IsBesideArea o (length (segment_table made.segments))) (sym at)
      (subst (IsBesideArea (moved_by made.layout.shift.from made.layout.shift.by s.elf.phoff)) (sym long)
      (loaded-beside any.1 s.elf.phoff (PHDR_SIZE * length ps) (any.0, any.2, any.3) (omega (arith, code))
      (loads-range s.elf.phoff (PHDR_SIZE * length ps) any.1 any.4)))

  table-beside : IsBesideArea made.program_headers_at (length (segment_table made.segments))
  table-beside = cases tight refl
    where
      cases : (b : Bool) → tight ≡ b → IsBesideArea made.program_headers_at (length (segment_table made.segments))
      cases true e = table-above e
      cases false e = table-kept e (is_kept_table s.elf made.layout.shift) refl (cases_lt s.elf.phoff made.layout.shift.from)

  headers-beside : All IsApart (headers s tight w made)
  headers-beside zero e below = table-beside
  headers-beside (suc k) e below =
      let in_header = fields-in_header s tight w made k e (omega arith) in
      let low = made.laid_out.header in
      let high = front in
      inl (omega (arith, in_header, low, high))

  area-stands : Stands w area_at made.layout.bytes.items
  area-stands =
      subst (λ (xs : List ℕ). Stands xs area_at made.layout.bytes.items) (sym (written-is s tight w made))
      (stands-put_all (headers s tight w made) (with_cells s tight w made) area_at made.layout.bytes.items
      (headers-within s tight w made) headers-beside
      (stands-put_all (map patch_of made.cells) (joined s tight w made) area_at made.layout.bytes.items
      (cells-within s tight w made) cells-beside
      (stands-front made.put.assembled.base made.tail area_at made.layout.bytes.items made.put.assembled.joined.middle)))

  starts : area.address ≤ area.start
  starts = cases tight refl
    where
      cases : (b : Bool) → tight ≡ b → area.address ≤ area.start
      cases true e = let above = starts-above s tight w made read sound e in omega (arith, above)
      cases false e = starts-behind s tight w made read sound e

  -- what is among its bytes
  part-stands : (a : ℕ) (part : List ℕ) → area.start ≤ a → Stands made.layout.bytes.items (a - area.start) part →
      Stands w (area_offset area a) part
  part-stands a part from inner =
      let place = area-place in
      let low = starts in
      let here : area_at + (a - area.start) ≡ area_offset area a = omega (arith, place, low, from) in
      subst (λ (o : ℕ). Stands w o part) here
      (stands-part w area_at (a - area.start) made.layout.bytes.items part area-stands inner)

  code-stands : Stands w area_at s.code
  code-stands =
      let here : area_at + 0 ≡ area_at = omega arith in
      subst (λ (o : ℕ). Stands w o s.code) here
      (stands-part w area_at 0 made.layout.bytes.items s.code area-stands made.laid_out.starts_with)

  -- the tables after the code
  code-ends : (source_area s tight).start ≤ (source_area s tight).code_end
  code-ends = let end : (source_area s tight).start + length s.code ≡ (source_area s tight).code_end = refl in omega (arith, end)

  frames-behind : IfSome area.frames (λ a. area.start ≤ a)
  frames-behind =
      subst (λ (x : Area). IfSome x.frames (λ a. x.start ≤ a)) (sym made.laid_out.area)
      (starts-at 8 (source_area s tight).start (source_area s tight).code_end s.frames (omega arith) code-ends)

  index-behind : IfSome area.index (λ a. area.start ≤ a)
  index-behind =
      let low = code-ends in
      let frames = table_end-above 8 (source_area s tight).code_end s.frames (omega arith) in
      subst (λ (x : Area). IfSome x.index (λ a. x.start ≤ a)) (sym made.laid_out.area)
      (starts-at 4 (source_area s tight).start (table_end 8 (source_area s tight).code_end s.frames) s.index (omega arith)
      (omega (arith, low, frames)))

  table-stands : (place : Option ℕ) (table : List ℕ) → IfSome place (λ a. area.start ≤ a) →
      IfSome place (λ a. Stands made.layout.bytes.items (a - area.start) table) →
      IfSome place (λ a. Stands w (area_offset area a) table)
  table-stands None table low stands = tt
  table-stands (Some a) table low stands = part-stands a table low stands

  -- all of it
  pub area-written : {Y Z : Type 0} (tables : List (String Y × Vec ℕ Z)) → HoldsTables tables made.layout →
      AreaStands (source_area s tight) tables s.code w
  area-written tables has =
      let place = area-place in
      subst (λ (x : Area). AreaStands x tables s.code w) made.laid_out.area
      (record {
        text = subst (λ (o : ℕ). Stands w o s.code) place code-stands;
        frames = table-stands area.frames (bytes_called tables (codes ".eh_frame")) frames-behind has.frames;
        index = table-stands area.index (bytes_called tables (codes ".eh_frame_hdr")) index-behind has.index;
      })

  -- The segment that holds it.
  holds : HoldsArea area made.segments
  holds = holds-area s tight w made read sound

  there : Contains (segments_of w) holds.segment
  there = subst (λ (xs : List Segment). Contains xs holds.segment) (sym (segments-written s tight w made)) holds.there

  start-is : area.start ≡ (source_area s tight).start
  start-is = ap (λ (a : Area). a.start) made.laid_out.area

  pub code-written : LoadOnce (segments_of w) → HoldsBytes w (segments_of w) (source_area s tight).start s.code
  code-written once =
      let address = holds.address in
      let offset = holds.offset in
      let end = holds.end in
      let whole = holds.whole in
      let from = starts in
      let place = area-place in
      let fits = area-holds_code s tight w made read sound in
      subst (λ (a : ℕ). HoldsBytes w (segments_of w) a s.code) start-is
      (holds-stands w (segments_of w) holds.segment area.start area_at s.code once there holds.load (omega (arith, address, from))
      (omega (arith, address, offset, place))
      (omega (arith, address, end, fits, from)) (omega (arith, whole)) code-stands)

  pub executable-written : LoadOnce (segments_of w) → (i : ℕ) → i < length s.code →
      (is_loaded_with PF_X (segments_of w) ((source_area s tight).start + i) ≡ true)
      × (is_loaded_with PF_W (segments_of w) ((source_area s tight).start + i) ≡ false)
  executable-written once i below = (right PF_X ∙ holds.executes, right PF_W ∙ holds.unwritten)
    where
      a : ℕ
      a = (source_area s tight).start + i

      loads : IsTrue (loads_address a holds.segment)
      loads =
          let address = holds.address in
          let end = holds.end in
          let whole = holds.whole in
          let from = starts in
          let fits = area-holds_code s tight w made read sound in
          let at = start-is in
          loads-from_parts a holds.segment holds.load (omega (arith, address, from, at))
          (omega (arith, address, end, whole, fits, from, at, below))

      right : (flag : ℕ) → is_loaded_with flag (segments_of w) a ≡ has_flag flag holds.segment
      right flag = ap (λ (o : Option Segment). option_map_or (has_flag flag) o false)
          (segment_of-once (segments_of w) a holds.segment once there loads)
