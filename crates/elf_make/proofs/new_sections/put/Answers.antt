use Rattle.std.proofs.Common.{◌≡◌, ◌∙◌, sym, ap, subst, refl, ℕ, ◌+◌, ◌≤◌, ◌<◌, ◌++◌, List, [], Bool, false, Option, length}
use Rattle.std.proofs.Common.{drop, take, get_or, slice_get, arith, rules}
use Rattle.std.specs.Option.{option_map_or}
use Rattle.elf_image.specs.declared.section.SectionHeader.{SectionHeader}
use Rattle.elf_image.specs.declared.section.Section.{Section}
use Rattle.elf_plan.specs.declared.area.Area.{Area}
use Rattle.elf_plan.specs.declared.area.Shift.{Shift}
use Rattle.elf_plan.specs.declared.sections.Contents.{Contents}
use Rattle.elf_plan.specs.Contents.{is_at, section_bytes}
use Rattle.elf_plan.specs.NewNames.{added_names}
use Rattle.elf_plan.specs.NewSections.{adds_ranges}
use Rattle.elf_make.specs.PlacedContents.{set_header}
use Rattle.elf_make.specs.SetHeaders.{AreAdded, AreSet, Keeps}
use Rattle.elf_make.specs.SectionTable.{ArePutWith}
use Rattle.elf_make.specs.declared.headers.NewContents.{NewContents}
use Rattle.elf_make.specs.MadeNames.{symbol_texts}
use Rattle.elf_make.specs.SymbolTable.{HasSymbols}
use Rattle.elf_make.proofs.AddedNames.{names-made}
use Rattle.elf_make.proofs.GrownNames.{added-keeps, all-more}
use Rattle.elf_make.proofs.HeadersSet.{headers-set, written-over}
use Rattle.elf_make.proofs.SymbolsPut.{has-symbols}
use Rattle.elf_make.proofs.new_sections.put.Goals as goal

abbrev count : List SectionHeader → ℕ
count headers = length headers

pub put_contents-requires-clause-within : goal.put_contents-requires-clause-within
put_contents-requires-clause-within c =
    let read = c.in_ok-headers.ensures.count in
    let more = all-more _ _ _ _ _ _ c.in_ok-added_headers.ensures.added in
    let lent = ap count c.deref_mut.ensures.value in
    let same = c.new_symbols.ensures.count in
    let lent-2 = ap count c.deref_mut-2.ensures.value in
    let set = c.set_all_contents.ensures.count in
    let lent-3 = ap count c.deref_mut-3.ensures.value in
    λ k d below. let low = c.requires.within k d below in omega (arith, read, more, lent, same, lent-2, set, lent-3, low)

pub put_contents-requires-clause-distinct : goal.put_contents-requires-clause-distinct
put_contents-requires-clause-distinct c = c.requires.distinct

pub put_contents-requires-clause-more : goal.put_contents-requires-clause-more
put_contents-requires-clause-more c =
    let read = c.in_ok-headers.ensures.count in
    let more = all-more _ _ _ _ _ _ c.in_ok-added_headers.ensures.added in
    let lent = ap count c.deref_mut.ensures.value in
    let same = c.new_symbols.ensures.count in
    let lent-2 = ap count c.deref_mut-2.ensures.value in
    let set = c.set_all_contents.ensures.count in
    let lent-3 = ap count c.deref_mut-3.ensures.value in
    let all = c.requires.count in
    omega (arith, read, more, lent, same, lent-2, set, lent-3, all)

pub returns-clause-put : goal.returns-clause-put
returns-clause-put c =
    let added : List SectionHeader = c.added_headers.new.headers.items in
    let symbols : List SectionHeader = c.new_symbols.new.headers in
    let set : List SectionHeader = c.set_all_contents.new.headers in
    let new : List SectionHeader = c.put_contents.new.headers in
    let long : ℕ = c.added_headers.new.headers.len in
    let before : List SectionHeader = take long (set ++ drop (length set) (take long (symbols ++ drop (length symbols) added))) in
    let lent = ap count c.deref_mut.ensures.value in
    let same = c.new_symbols.ensures.count in
    let lent-2 = ap count c.deref_mut-2.ensures.value in
    let all = c.set_all_contents.ensures.count in
    let lent-3 = ap count c.deref_mut-3.ensures.value in
    let last = c.in_ok-section_headers_at.ensures.count in
    let len : long ≡ length added = search rules in
    let full : long ≡ length new = omega (arith, len, lent, same, lent-2, all, lent-3, last) in
    let seam : take long (new ++ drop (length new) before) ≡ new = written-over long new before full in
    subst (λ (headers : List SectionHeader). ArePutWith c.args.source.now.elf.now c.args.source.now.tables.now
    c.args.source.now.funcs.now c.args.source.now.cold.now c.args.source.now.map.now c.args.plan.now.area c.args.plan.now.shift
    c.args.plan.now.contents.items c.args.plan.now.order.items c.args.tail.now.base
    (c.args.tail.now.base + length c.args.tail.now.bytes.items) c.put_contents.new.tail.bytes.items
    c.in_ok-section_headers_at.section_headers_at headers) (sym seam) c.in_ok-section_headers_at.ensures.put

-- The headers as they are lent, and what `set_all_contents` makes of them.
lent-symbols : (c : goal.After-put_contents-arg-1) → c.deref_mut-2.result.now ≡ c.new_symbols.new.headers
lent-symbols c =
    let count_lent = ap count c.deref_mut.ensures.value in
    let same = c.new_symbols.ensures.count in
    let len : c.added_headers.new.headers.len ≡ length c.added_headers.new.headers.items = search rules in
    c.deref_mut-2.ensures.value
    ∙ written-over c.added_headers.new.headers.len c.new_symbols.new.headers c.added_headers.new.headers.items
    (omega (arith, len, count_lent, same))

lent-set : (c : goal.After-put_contents-arg-1) → c.deref_mut-3.result.now ≡ c.set_all_contents.new.headers
lent-set c =
    let count_lent = ap count c.deref_mut.ensures.value in
    let same = c.new_symbols.ensures.count in
    let count_symbols = ap count (lent-symbols c) in
    let all = c.set_all_contents.ensures.count in
    let len : c.added_headers.new.headers.len ≡ length c.added_headers.new.headers.items = search rules in
    c.deref_mut-3.ensures.value
    ∙ written-over c.added_headers.new.headers.len c.set_all_contents.new.headers _
    (omega (arith, len, count_lent, same, count_symbols, all))

set-to : (c : goal.After-put_contents-arg-1) (k : ℕ) (h : SectionHeader) (s : Section) (x : Contents) →
    k < length c.args.plan.now.contents.items → k < length c.new_symbols.new.headers →
    k < length c.args.source.now.elf.now.sections.items → get_or c.set_all_contents.new.headers k h
    ≡ set_header c.args.plan.now.shift (get_or c.args.plan.now.contents.items k x)
    (get_or c.args.source.now.elf.now.sections.items k s) (get_or c.new_symbols.new.headers k h)
set-to c =
    let contents : List Contents = c.args.plan.now.contents.items in
    let sections : List Section = c.args.source.now.elf.now.sections.items in
    let set : List SectionHeader = c.set_all_contents.new.headers in
    let shift : Shift = c.args.plan.now.shift in
    subst (λ (hs : List SectionHeader). (k : ℕ) (h : SectionHeader) (s : Section) (x : Contents) → k < length contents →
    k < length hs → k < length sections → get_or set k h
    ≡ set_header shift (get_or contents k x) (get_or sections k s) (get_or hs k h)) (lent-symbols c)
    (subst (λ (ss : List Section). (k : ℕ) (h : SectionHeader) (s : Section) (x : Contents) → k < length contents →
    k < length c.deref_mut-2.result.now → k < length ss → get_or set k h
    ≡ set_header shift (get_or contents k x) (get_or ss k s) (get_or c.deref_mut-2.result.now k h)) c.deref-2.ensures.value
    (subst (λ (cs : List Contents). (k : ℕ) (h : SectionHeader) (s : Section) (x : Contents) → k < length cs →
    k < length c.deref_mut-2.result.now → k < length c.deref-2.result.now → get_or set k h
    ≡ set_header shift (get_or cs k x) (get_or c.deref-2.result.now k s) (get_or c.deref_mut-2.result.now k h))
    c.deref-3.ensures.value c.set_all_contents.ensures.set))

pub put_contents-requires-clause-set : goal.put_contents-requires-clause-set
put_contents-requires-clause-set c =
    let elf = c.args.source.now.elf.now in
    let tables = c.args.source.now.tables.now in
    let plan = c.args.plan.now in
    let shift : Shift = plan.shift in
    let area : Area = plan.area in
    let contents : List Contents = plan.contents.items in
    let sections : List Section = elf.sections.items in
    let t0 : List ℕ = c.in_ok-names.names.sections.bytes.items in
    let t1 : List ℕ = c.old_headers.new.names.bytes.items in
    let t2 : List ℕ = c.added_headers.new.names.bytes.items in
    let t3 : List ℕ = c.new_symbols.new.names.sections.bytes.items in
    let olds : List SectionHeader = c.in_ok-headers.headers.items in
    let added : List SectionHeader = c.added_headers.new.headers.items in
    let symbols : List SectionHeader = c.new_symbols.new.headers in
    let set : List SectionHeader = c.set_all_contents.new.headers in
    let lent : c.deref_mut.result.now ≡ added = c.deref_mut.ensures.value in
    let count_lent = ap count lent in
    let same = c.new_symbols.ensures.count in
    let all = c.set_all_contents.ensures.count in
    let names : c.bytes.result.now ≡ t3 = c.bytes.ensures in
    let ranges : c.adds_ranges-adds_ranges.result ≡ adds_ranges sections tables = c.adds_ranges-adds_ranges.ensures in
    let is_contents : c.deref-3.result.now ≡ contents = c.deref-3.ensures.value in
    let are = subst (λ (b : Bool). AreAdded t2 tables area b olds added) ranges c.in_ok-added_headers.ensures.added in
    let more = all-more _ _ _ _ _ _ c.in_ok-added_headers.ensures.added in
    let done : AreSet elf tables area shift contents t3 set =
    headers-set elf tables area shift contents plan.own.symbols t1 t2 t3
    (added-keeps t1 _ t2 c.in_ok-added_headers.ensures.names) (added-keeps t2 _ t3 c.in_ok-symbols.ensures.first) olds added symbols
    set c.requires.own.symbols c.requires.count c.requires.contents
    c.in_ok-headers.ensures.count c.in_ok-headers.ensures.each are (same ∙ count_lent)
    (subst (λ (hs : List SectionHeader). (k : ℕ) (d : SectionHeader) → get_or symbols k d
    ≡ record (get_or hs k d) { info = (get_or symbols k d).info }) lent c.new_symbols.ensures.same)
    (subst (λ (hs : List SectionHeader). (k : ℕ) (d : SectionHeader) → is_at k plan.own.symbols ≡ false →
    get_or symbols k d ≡ get_or hs k d) lent c.new_symbols.ensures.others)
    (all ∙ ap count (lent-symbols c))
    (set-to c)
    (subst (λ (hs : List SectionHeader). (k : ℕ) (h : SectionHeader) → length contents ≤ k → get_or set k h ≡ get_or hs k h)
    (lent-symbols c)
    (subst (λ (cs : List Contents). (k : ℕ) (h : SectionHeader) → length cs ≤ k →
    get_or set k h ≡ get_or c.deref_mut-2.result.now k h) is_contents c.set_all_contents.ensures.others))
    (omega (arith, more))
    (λ s at. subst (λ (table : List ℕ). Keeps table t1)
    (c.in_ok-names.ensures.sections
    ∙ ap (λ (o : Option Section). option_map_or (section_bytes elf.file.now) o [])
    (ap (slice_get sections) c.requires.own.names ∙ at))
    (added-keeps t0 _ t1 c.in_ok-headers.ensures.names)) in
    subst (λ (table : List ℕ). AreSet elf tables area shift contents table c.deref_mut-3.result.now) (sym names)
    (subst (AreSet elf tables area shift contents t3) (sym (lent-set c)) done)

pub put_contents-requires-clause-names : goal.put_contents-requires-clause-names
put_contents-requires-clause-names c =
    let source = c.args.source.now in
    let t1 : List ℕ = c.old_headers.new.names.bytes.items in
    names-made source.elf.now source.tables.now c.args.plan.now.area source.funcs.now source.cold.now c.args.plan.now.own _ _
    c.in_ok-names.names.sections.bytes.items t1 c.added_headers.new.names.bytes.items
    c.new_symbols.new.names.sections.bytes.items c.of_symbols.result.now _ c.requires.own c.in_ok-names.ensures.sections
    c.in_ok-names.ensures.symbols c.in_ok-headers.ensures.names
    (c.in_ok-added_headers.ensures.names
    ∙ ap (λ (b : Bool). t1 ++ added_names c.args.plan.now.area b) c.adds_ranges-adds_ranges.ensures)
    c.in_ok-symbols.ensures.first c.in_ok-symbols.ensures.second c.of_symbols.ensures c.bytes.ensures refl

pub put_contents-requires-clause-symbols : goal.put_contents-requires-clause-symbols
put_contents-requires-clause-symbols c =
    let source = c.args.source.now in
    let elf = source.elf.now in
    let plan = c.args.plan.now in
    let contents : List Contents = plan.contents.items in
    let set : List SectionHeader = c.set_all_contents.new.headers in
    let new : NewContents = record {
      section_names = c.bytes.result;
      symbols = c.deref-4.result;
      symbol_names = c.of_symbols.result;
      tables = source.tables;
      ranges = c.bytes_called.result;
    } in
    let read : length c.in_ok-headers.headers.items ≡ length elf.sections.items =
    c.in_ok-headers.ensures.count ∙ sym c.requires.count in
    let text : c.in_ok-text.text ≡ length c.in_ok-headers.headers.items = search rules in
    subst (HasSymbols elf source.funcs.now source.map.now source.cold.now contents new) (sym (lent-set c))
    (has-symbols elf source.funcs.now source.map.now source.cold.now contents plan.shift c.new_symbols.new.headers set new
    (c.set_all_contents.ensures.count ∙ ap count (lent-symbols c)) (set-to c) plan.own c.in_ok-text.text
    (symbol_texts c.new_symbols.new.names) c.in_ok-symbols.symbols.items c.requires.own (text ∙ read)
    (sym c.of_symbols.ensures) (sym c.deref-4.ensures.value) c.in_ok-symbols.ensures.symbols)
