use Rattle.std.proofs.Common.{◌≡◌, ◌∙◌, sym, subst, ap, ℕ, ◌+◌, ◌^◌, ◌<◌, false, List, Option, length, map, rules}
use Rattle.std.specs.Prelude.{All, IfSome, codes, unwrap_or}
use Rattle.std.proofs.lemmas.Result.{IfOk-weaker}
use Rattle.elf_image.specs.declared.elf.Elf.{Elf}
use Rattle.elf_image.specs.declared.segment.Segment.{Segment}
use Rattle.elf_parts.specs.declared.number_at.NumberAt.{NumberAt}
use Rattle.elf_make.specs.declared.layout.Layout.{Layout}
use Rattle.elf_image.specs.declared.section.SectionHeader.{SectionHeader}
use Rattle.elf_parts.specs.Parts.{size_of}
use Rattle.elf_plan.specs.declared.area.Area.{Area}
use Rattle.elf_plan.specs.declared.area.Shift.{Shift}
use Rattle.elf_plan.specs.declared.sections.Contents.{Contents}
use Rattle.elf_plan.specs.Contents.{contents_of, is_at}
use Rattle.elf_plan.specs.HeaderPlaces.{ArePlaced, Outline}
use Rattle.elf_plan.specs.Homes.{AreContents}
use Rattle.elf_plan.specs.NameTables.{place_of_symbols}
use Rattle.elf_plan.specs.Plans.{Arranges}
use Rattle.elf_plan.specs.TableSizes.{table_size}
use Rattle.elf_make.specs.SectionTable.{ArePutWith}
use Rattle.elf_make.specs.CellNumbers.{AreCellNumbers, pieces}
use Rattle.elf_make.specs.FileParts.{IsLaidOut, IsPut, IsTablePlace, start_after}
use Rattle.elf_make.specs.Source.{Source, source_of}
use Rattle.elf_make.proofs.Growing.{can-grow, in-order}
use Rattle.elf_make.proofs.PiecesWritten.{low_cells}
use Rattle.elf_make.proofs.PlannedOrder.{listed-once, listed-within}
use Rattle.elf_make.proofs.making.made.Goals as goal

pub segments-requires-clause-grows : goal.segments-requires-clause-grows
segments-requires-clause-grows c = can-grow _ _ _ _ _ _ c.requires.read c.requires.sound c.in_ok-layout.ensures.laid_out

pub segments-requires-clause-ordered : goal.segments-requires-clause-ordered
segments-requires-clause-ordered c = in-order _ _ _ _ _ _ c.requires.read c.requires.sound c.in_ok-layout.ensures.laid_out

pub cell_numbers-requires : goal.cell_numbers-requires
cell_numbers-requires c =
    subst (λ (cells : List (ℕ × ℕ × ℕ)). All (λ cell. cell.0 + cell.1 < 2 ^ 64) cells) (sym c.deref-5.ensures.value)
    (low_cells c.args.source.now.elf.now c.requires.read c.requires.sound c.args.emitted.now.cells.items c.requires.cells)

pub put-requires-clause-within : goal.put-requires-clause-within
put-requires-clause-within c =
    subst (λ (n : ℕ). All (λ (e : ℕ × ℕ). e.1 < n) c.args.plan.now.order.items) c.requires.read.sections.count_is
    (listed-within _ _ _ c.requires.plan.arranged.order_is)

pub put-requires-clause-distinct : goal.put-requires-clause-distinct
put-requires-clause-distinct c = listed-once _ _ _ c.requires.plan.arranged.order_is

pub returns : goal.returns
returns c =
    let elf : Elf = c.args.source.now.elf.now in
    let s : Source = source_of elf c.args.emitted.now c.args.source.now.map.now c.args.source.now.tables.now in
    let layout : Layout = c.in_ok-layout.layout in
    let tail : List ℕ = c.put.new.tail.bytes.items in
    let cells : List NumberAt = c.in_ok-cells.cells.items in
    let segments : List Segment = c.in_ok-segments.segments.items in
    let at : ℕ = c.in_ok-program_headers_at.program_headers_at in
    let tables = c.args.source.now.tables.now in
    let plan = c.args.plan.now in
    let headers : List SectionHeader = c.in_ok-sections.sections.headers.items in
    let base : ℕ = size_of layout.parts in
    let base_is = c.new-tail.ensures.base ∙ c.in_ok-end.ensures in
    let arranged : Arranges elf tables layout.area layout.shift plan.contents.items plan.order.items =
    subst (λ (a : Area). Arranges elf tables a layout.shift plan.contents.items plan.order.items)
    (sym c.in_ok-layout.ensures.area)
    (subst (λ (h : Shift). Arranges elf tables plan.area h plan.contents.items plan.order.items)
    (sym c.in_ok-layout.ensures.shift) c.requires.plan.arranged) in
    let place = c.in_ok-program_headers_at.ensures in
    let start : ℕ → ℕ = start_after elf layout.area layout.shift in
    let PutIn : Area → Shift → ℕ → ℕ → ℕ → Type 0 = λ a h b from to.
    ArePutWith elf tables c.args.source.now.funcs.now c.args.source.now.cold.now c.args.source.now.map.now a h
    plan.contents.items plan.order.items b from tail to headers in
    let Put : ℕ → ℕ → ℕ → Type 0 = PutIn layout.area layout.shift in
    let put_of : PutIn layout.area layout.shift c.table_place.new.tail.base
    (c.table_place.new.tail.base + length c.table_place.new.tail.bytes.items) c.in_ok-sections.sections.section_headers_at =
    subst (λ (a : Area). PutIn a layout.shift c.table_place.new.tail.base
    (c.table_place.new.tail.base + length c.table_place.new.tail.bytes.items) c.in_ok-sections.sections.section_headers_at)
    (sym c.in_ok-layout.ensures.area)
    (subst (λ (h : Shift). PutIn plan.area h c.table_place.new.tail.base
    (c.table_place.new.tail.base + length c.table_place.new.tail.bytes.items) c.in_ok-sections.sections.section_headers_at)
    (sym c.in_ok-layout.ensures.shift) c.in_ok-sections.ensures.put) in
    let put_in : Put base (start base) c.in_ok-header.header.section_headers_at =
    subst (Put base (start base)) (sym c.in_ok-header.ensures.section_headers_at)
    (subst (λ (b : ℕ). Put b (start b) c.in_ok-sections.sections.section_headers_at) base_is
    (subst (λ (b : ℕ). Put b (start c.new-tail.result.base) c.in_ok-sections.sections.section_headers_at) place.base
    (subst (λ (from : ℕ). Put c.table_place.new.tail.base from c.in_ok-sections.sections.section_headers_at) place.start
    put_of))) in
    let known = contents_of elf tables layout.area layout.shift in
    let sized : c.in_ok-file_size.file_size ≡ base + length tail =
    c.in_ok-file_size.ensures
    ∙ ap (λ (b : ℕ). b + length tail) (c.in_ok-sections.ensures.base ∙ place.base ∙ base_is) in
    let index : c.unwrap_or-index_size.result ≡ unwrap_or (table_size tables (codes ".eh_frame_hdr")) 0 = search rules in
    let offsets : c.deref-4.result.now ≡ map (λ (h : SectionHeader). h.offset) headers =
    c.deref-4.ensures.value ∙ c.in_ok-section_offsets.ensures
    ∙ ap (map (λ (h : SectionHeader). h.offset)) c.deref-2.ensures.value in
    let outline : ℕ → ℕ → Outline = λ index_size file_size. record {
      area = layout.area;
      shift = layout.shift;
      table_at = at;
      index_size = index_size;
      file_size = file_size;
    } in
    let Placed : List ℕ → ℕ → ℕ → Type 0 = λ os index_size file_size. ArePlaced known elf.segments.items elf.sections.items os
    (outline index_size file_size) layout.code segments in
    let found : Placed c.deref-4.result.now c.unwrap_or-index_size.result c.in_ok-file_size.file_size = record {
      headers = c.in_ok-segments.ensures.headers;
      each = c.in_ok-segments.ensures.each known
          (subst (λ (cs : List Contents). AreContents known elf.sections.items cs) (sym c.deref-3.ensures.value)
          arranged.contents_are);
    } in
    let placed : Placed (map (λ (h : SectionHeader). h.offset) headers) (unwrap_or (table_size tables (codes ".eh_frame_hdr")) 0)
    (base + length tail) =
    subst (λ (os : List ℕ). Placed os (unwrap_or (table_size tables (codes ".eh_frame_hdr")) 0) (base + length tail)) offsets
    (subst (λ (n : ℕ). Placed c.deref-4.result.now n (base + length tail)) index
    (subst (λ (n : ℕ). Placed c.deref-4.result.now c.unwrap_or-index_size.result n) sized found)) in
    IfOk-weaker c.put_together.result _ _
    (λ w put.
    record {
      made = record {
        layout = layout;
        laid_out = subst (λ (xs : List ℕ). IsLaidOut elf c.args.plan.now.area.tight xs s.frames s.index layout) c.deref.ensures.value
            c.in_ok-layout.ensures.laid_out;
        cells = cells;
        are_cells = subst
            (λ (xs : List (ℕ × ℕ × ℕ)). AreCellNumbers elf layout.shift (pieces elf.segments.items xs) cells)
            c.deref-5.ensures.value c.in_ok-cells.ensures;
        segments = segments;
        are_headers = c.in_ok-segments.ensures.headers;
        program_headers_at = at;
        table_place = subst (λ (base : ℕ). IsTablePlace elf layout.area layout.shift base at)
            base_is c.in_ok-program_headers_at.ensures.place;
        fields = c.in_ok-header.header;
        entry = c.in_ok-header.ensures.entry;
        place = c.in_ok-header.ensures.program_headers_at;
        count = c.in_ok-header.ensures.segments ∙ ap length c.deref-6.ensures.value;
        names = c.in_ok-header.ensures.names ∙ c.in_ok-sections.ensures.names;
        tail = tail;
        put = subst (λ (xs : List NumberAt). IsPut layout elf.file.now tail cells segments xs at w.items)
            (c.deref-9.ensures.value ∙ c.in_ok-fields.ensures)
            (subst (λ (xs : List Segment). IsPut layout elf.file.now tail cells xs c.deref-9.result.now at w.items)
            c.deref-8.ensures.value
            (subst (λ (xs : List NumberAt). IsPut layout elf.file.now tail xs c.deref-8.result.now c.deref-9.result.now at w.items)
            c.deref-7.ensures.value put));
      };
      has_tables = c.in_ok-layout.ensures.tables;
      sections = record {
        contents = plan.contents.items;
        order = plan.order.items;
        arranged = arranged;
        apart =
            sym (ap (λ (i : ℕ). is_at i (place_of_symbols elf)) c.requires.plan.own.names)
            ∙ sym (ap (is_at plan.own.section_names) c.requires.plan.own.symbols) ∙ c.requires.plan.own.apart;
        names_apart =
            subst (λ (o : Option ℕ). IfSome o (λ i. is_at i (place_of_symbols elf) ≡ false)) c.requires.plan.own.symbol_names
            (subst (λ (o : Option ℕ). IfSome plan.own.symbol_names (λ i. is_at i o ≡ false)) c.requires.plan.own.symbols
            c.requires.plan.own.names_apart);
        headers = c.in_ok-sections.sections.headers.items;
        count = c.in_ok-header.ensures.sections;
        put = put_in.put;
        segments = placed;
      };
      names = put_in.names;
      symbols = put_in.symbols;
    })
    c.put_together.ensures

pub put-requires-clause-count : goal.put-requires-clause-count
put-requires-clause-count c = c.requires.read.sections.count_is

pub table_place-requires : goal.table_place-requires
table_place-requires c = c.new-tail.ensures.empty

pub put-requires-clause-contents : goal.put-requires-clause-contents
put-requires-clause-contents c = c.requires.plan.arranged.contents_are.count
