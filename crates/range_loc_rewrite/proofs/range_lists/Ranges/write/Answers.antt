use Rattle.std.proofs.Common.{◌≡◌, ◌∙◌, ◌<◌, ℕ, Bool, List, [], ap, sym, subst, map, length}
use Rattle.std.specs.Global.{Vec}
use Rattle.std.specs.List.Sorted.{IsNonDecreasing}
use Rattle.addr_map.specs.declared.span.Span.{Span}
use Rattle.answer_runs.specs.declared.run.Run.{Run}
use Rattle.answer_runs.specs.AnswerRuns.{carried, AreRunsOf}
use Rattle.answer_runs.specs.CarriedAnswers.{IsCarriedFrom}
use Rattle.cover_lists.specs.declared.cover_tree.Cover.{Cover}
use Rattle.cover_lists.specs.GroupRuns.{AreApart, held_by, runs_in}
use Rattle.dw_lists.specs.declared.list_kind.ListKind.TheVariants.{Ranges}
use Rattle.dw_lists.specs.declared.named_list.NamedList.{NamedList}
use Rattle.dw_lists.specs.Faults.{ListSections, list_sections_held}
use Rattle.dw_lists.specs.ListTables.{range_says, RangesMade}
use Rattle.dw_lists.specs.Tables.{list_sections, range_answers}
use Rattle.list_writer.specs.WrittenRanges.{AreRangeLists, named_by}
use Rattle.list_writer.specs.WrittenTables.{AreLeft, AreWritten, indexed_in, with_tables}
use Rattle.range_loc_rewrite.specs.EnteredFirst.{AreEnteredFirst}
use Rattle.range_loc_rewrite.specs.KeptRanges.{AreKept}
use Rattle.range_loc_rewrite.specs.NewOffsets.{RangesGetOffsets}
use Rattle.range_loc_rewrite.proofs.EntriesFirst.{entered_first}
use Rattle.range_loc_rewrite.proofs.WrittenLaw.{kept_left, made_of, law_of, offsets_of, are_written, all_writable}
use Rattle.range_loc_rewrite.proofs.NewBases.{no_units}
use Rattle.cover_lists.specs.declared.groups.RangedEntry.{RangedEntry}
use Rattle.dw_lists.specs.declared.indexed_unit.IndexedUnit.{IndexedUnit}
use Rattle.table_core.specs.declared.written.Written.{Written}
use Rattle.range_loc_rewrite.proofs.range_lists.Ranges.write.Goals as goal

pub carried_groups-requires-clause-rising : goal.carried_groups-requires-clause-rising
carried_groups-requires-clause-rising c =
    subst (λ (bs : List ℕ). IsNonDecreasing bs) (sym c.deref.ensures.value) c.self.invariant.rising

pub carried_groups-requires-clause-apart : goal.carried_groups-requires-clause-apart
carried_groups-requires-clause-apart c =
    let t = c.self.inside in
    subst (λ (cs : List Cover). AreApart c.deref.result.now cs) (sym c.tree.ensures)
    (subst (λ (bs : List ℕ). AreApart bs t.index.tree) (sym c.deref.ensures.value) c.self.invariant.apart)

-- The lists of kept entries.
kept_lists : (spans : List Span) (lists ls : List (Vec (Run Bool))) (kept rs : List RangedEntry) (bs : List (Vec ℕ))
    (named : List NamedList) → ls ≡ lists → rs ≡ kept → AreRangeLists spans ls rs bs named → AreRangeLists spans lists kept bs named
kept_lists spans lists ls kept rs bs named same again are =
    subst (λ (l : List (Vec (Run Bool))). AreRangeLists spans l kept bs named) same
    (subst (λ (l : List RangedEntry). AreRangeLists spans ls l bs named) again are)

-- Attributes, units and lists as they are passed on.
module _ (s : ListSections) (number : RangedEntry → ℕ) (kept : List RangedEntry) (indexed : List IndexedUnit) (bs ls : List (Vec ℕ))
    (section : List ℕ)
    (named again : List NamedList) (units all : List IndexedUnit) (lists_are : ls ≡ bs) (section_is : section ≡ s.ranges)
    (named_are : named ≡ map (named_by number) kept) (again_are : again ≡ map (named_by number) kept) (all_are : all ≡ indexed)
    (units_are : units ≡ indexed_in section again all) where
  whole : units ≡ indexed_in s.ranges (map (named_by number) kept) indexed
  whole = units_are ∙ (λ i. indexed_in (section_is i) (again_are i) (all_are i))

  abbrev IsLeft : List NamedList → List IndexedUnit → Type 0
  IsLeft ns us = AreLeft Ranges 0 0 ns us

  left_are : IsLeft (map (named_by number) kept) (indexed_in s.ranges (map (named_by number) kept) indexed) → IsLeft named units
  left_are left =
      subst (λ (us : List IndexedUnit). IsLeft named us) (sym whole)
      (subst (λ (ns : List NamedList). IsLeft ns (indexed_in s.ranges (map (named_by number) kept) indexed)) (sym named_are) left)

  written_are : (w : Written) → AreWritten Ranges ls named (with_tables named units) w.bytes.items w.lists.items →
      AreWritten Ranges bs (map (named_by number) kept)
      (with_tables (map (named_by number) kept) (indexed_in s.ranges (map (named_by number) kept) indexed))
      w.bytes.items w.lists.items
  written_are w made =
      subst (λ (us : List IndexedUnit). AreWritten Ranges bs (map (named_by number) kept) (with_tables (map (named_by number) kept) us)
      w.bytes.items w.lists.items) whole
      (subst (λ (ns : List NamedList). AreWritten Ranges bs ns (with_tables ns units) w.bytes.items w.lists.items) named_are
      (subst (λ (l : List (Vec ℕ)). AreWritten Ranges l named (with_tables named units) w.bytes.items w.lists.items) lists_are made))

  none_are : (w : Written) → (length named ≡ 0 → length units ≡ 0 → w.bytes.items ≡ []) → length (map (named_by number) kept) ≡ 0 →
      length (indexed_in s.ranges (map (named_by number) kept) indexed) ≡ 0 → w.bytes.items ≡ []
  none_are w none e f = none (ap length named_are ∙ e) (ap length whole ∙ f)

pub write_tables-requires : goal.write_tables-requires
write_tables-requires c =
    let t = c.self.inside in
    let s : ListSections = list_sections_held t.info.items t.abbrevs.items t.addr.items t.ranges.items t.locations.items in
    let l = kept_lists c.args.map.now c.in_ok-lists.lists.items c.deref-3.result.now t.ranged.items c.deref-2.result.now
    c.in_ok-ranges.ranges.lists.items c.in_ok-ranges.ranges.named.items c.deref-3.ensures.value c.deref-2.ensures.value
    c.in_ok-ranges.ensures in
    left_are s l.number t.ranged.items t.indexed.items c.in_ok-ranges.ranges.lists.items c.deref-7.result.now c.deref-4.result.now
    c.deref-8.result.now c.deref-5.result.now c.indexed_in-units.result.now c.deref-6.result.now c.deref-7.ensures.value
    c.deref-4.ensures.value (c.deref-8.ensures.value ∙ l.named_are) (c.deref-5.ensures.value ∙ l.named_are) c.deref-6.ensures.value
    c.indexed_in-units.ensures
    (kept_left s t.ranged.items t.count t.index t.bounds.items t.indexed.items c.self.invariant l.number)

pub returns-clause-law : goal.returns-clause-law
returns-clause-law c = λ i f from stands.
    let t = c.self.inside in
    let s : ListSections = list_sections_held t.info.items t.abbrevs.items t.addr.items t.ranges.items t.locations.items in
    let same : s ≡ list_sections i = c.self.view_is ∙ from in
    let spans = c.args.map.now in
    let lists = c.in_ok-lists.lists.items in
    let bs = c.in_ok-ranges.ranges.lists.items in
    let w = c.in_ok-written.written in
    let l = kept_lists spans lists c.deref-3.result.now t.ranged.items c.deref-2.result.now bs c.in_ok-ranges.ranges.named.items
    c.deref-3.ensures.value c.deref-2.ensures.value c.in_ok-ranges.ensures in
    let are = subst (λ (x : ListSections). AreKept x t.ranged.items t.count t.index t.bounds.items t.indexed.items) same c.self.invariant in
    let each : (g : ℕ) → g < t.count → AreRunsOf (carried (held_by t.index.tree g) spans) (runs_in lists g) =
    λ g below.
    subst (λ (cs : List Cover). AreRunsOf (carried (held_by cs g) spans) (runs_in lists g)) c.tree.ensures
    (c.in_ok-lists.ensures.each g below) in
    let written = written_are s l.number t.ranged.items t.indexed.items bs c.deref-7.result.now c.deref-4.result.now
    c.deref-8.result.now c.deref-5.result.now c.indexed_in-units.result.now c.deref-6.result.now c.deref-7.ensures.value
    c.deref-4.ensures.value (c.deref-8.ensures.value ∙ l.named_are) (c.deref-5.ensures.value ∙ l.named_are) c.deref-6.ensures.value
    c.indexed_in-units.ensures w c.in_ok-written.ensures.written in
    let law = law_of i f spans t.ranged.items t.count t.index t.bounds.items t.indexed.items are lists each
    (λ g below. c.in_ok-lists.ensures.within g below) bs l.number l.bytes w
    (with_tables (map (named_by l.number) t.ranged.items)
    (indexed_in s.ranges (map (named_by l.number) t.ranged.items) t.indexed.items)) written stands in
    (subst (λ (x : ListSections). IsCarriedFrom (λ x y. x ≡ y) spans (range_says x) (range_answers f)) (sym from) law.0, law.1)

pub returns-clause-made : goal.returns-clause-made
returns-clause-made c =
    let t = c.self.inside in
    let s : ListSections = list_sections_held t.info.items t.abbrevs.items t.addr.items t.ranges.items t.locations.items in
    let bs = c.in_ok-ranges.ranges.lists.items in
    let w = c.in_ok-written.written in
    let l = kept_lists c.args.map.now c.in_ok-lists.lists.items c.deref-3.result.now t.ranged.items c.deref-2.result.now bs
    c.in_ok-ranges.ranges.named.items c.deref-3.ensures.value c.deref-2.ensures.value c.in_ok-ranges.ensures in
    let written = written_are s l.number t.ranged.items t.indexed.items bs c.deref-7.result.now c.deref-4.result.now
    c.deref-8.result.now c.deref-5.result.now c.indexed_in-units.result.now c.deref-6.result.now c.deref-7.ensures.value
    c.deref-4.ensures.value (c.deref-8.ensures.value ∙ l.named_are) (c.deref-5.ensures.value ∙ l.named_are) c.deref-6.ensures.value
    c.indexed_in-units.ensures w c.in_ok-written.ensures.written in
    let none = none_are s l.number t.ranged.items t.indexed.items bs c.deref-7.result.now c.deref-4.result.now
    c.deref-8.result.now c.deref-5.result.now c.indexed_in-units.result.now c.deref-6.result.now c.deref-7.ensures.value
    c.deref-4.ensures.value (c.deref-8.ensures.value ∙ l.named_are) (c.deref-5.ensures.value ∙ l.named_are) c.deref-6.ensures.value
    c.indexed_in-units.ensures w c.in_ok-written.ensures.none in
    subst (λ (x : ListSections). RangesMade x w) c.self.view_is
    (made_of s t.ranged.items t.count t.index t.bounds.items t.indexed.items c.self.invariant l.number bs
    (with_tables (map (named_by l.number) t.ranged.items)
    (indexed_in s.ranges (map (named_by l.number) t.ranged.items) t.indexed.items)) w written
    (λ empty e. none e (no_units s.ranges (map (named_by l.number) t.ranged.items) t.indexed.items empty e)))

pub returns-clause-offsets : goal.returns-clause-offsets
returns-clause-offsets c =
    let t = c.self.inside in
    let s : ListSections = list_sections_held t.info.items t.abbrevs.items t.addr.items t.ranges.items t.locations.items in
    let spans = c.args.map.now in
    let lists = c.in_ok-lists.lists.items in
    let bs = c.in_ok-ranges.ranges.lists.items in
    let w = c.in_ok-written.written in
    let l = kept_lists spans lists c.deref-3.result.now t.ranged.items c.deref-2.result.now bs c.in_ok-ranges.ranges.named.items
    c.deref-3.ensures.value c.deref-2.ensures.value c.in_ok-ranges.ensures in
    let written = written_are s l.number t.ranged.items t.indexed.items bs c.deref-7.result.now c.deref-4.result.now
    c.deref-8.result.now c.deref-5.result.now c.indexed_in-units.result.now c.deref-6.result.now c.deref-7.ensures.value
    c.deref-4.ensures.value (c.deref-8.ensures.value ∙ l.named_are) (c.deref-5.ensures.value ∙ l.named_are) c.deref-6.ensures.value
    c.indexed_in-units.ensures w c.in_ok-written.ensures.written in
    let none = none_are s l.number t.ranged.items t.indexed.items bs c.deref-7.result.now c.deref-4.result.now
    c.deref-8.result.now c.deref-5.result.now c.indexed_in-units.result.now c.deref-6.result.now c.deref-7.ensures.value
    c.deref-4.ensures.value (c.deref-8.ensures.value ∙ l.named_are) (c.deref-5.ensures.value ∙ l.named_are) c.deref-6.ensures.value
    c.indexed_in-units.ensures w c.in_ok-written.ensures.none in
    subst (λ (x : ListSections). RangesGetOffsets x.units x.ranges w.lists.items w.bytes.items) c.self.view_is
    (offsets_of s spans t.ranged.items t.count t.index t.bounds.items t.indexed.items c.self.invariant lists bs l.number l.bytes w
    (λ g below. c.in_ok-lists.ensures.within g below) written none)

pub returns-clause-entered : goal.returns-clause-entered
returns-clause-entered c =
    let t = c.self.inside in
    let s : ListSections = list_sections_held t.info.items t.abbrevs.items t.addr.items t.ranges.items t.locations.items in
    let spans = c.args.map.now in
    let lists = c.in_ok-lists.lists.items in
    let bs = c.in_ok-ranges.ranges.lists.items in
    let w = c.in_ok-written.written in
    let l = kept_lists spans lists c.deref-3.result.now t.ranged.items c.deref-2.result.now bs c.in_ok-ranges.ranges.named.items
    c.deref-3.ensures.value c.deref-2.ensures.value c.in_ok-ranges.ensures in
    let each : (g : ℕ) → g < t.count → AreRunsOf (carried (held_by t.index.tree g) spans) (runs_in lists g) =
    λ g below.
    subst (λ (cs : List Cover). AreRunsOf (carried (held_by cs g) spans) (runs_in lists g)) c.tree.ensures
    (c.in_ok-lists.ensures.each g below) in
    let written = written_are s l.number t.ranged.items t.indexed.items bs c.deref-7.result.now c.deref-4.result.now
    c.deref-8.result.now c.deref-5.result.now c.indexed_in-units.result.now c.deref-6.result.now c.deref-7.ensures.value
    c.deref-4.ensures.value (c.deref-8.ensures.value ∙ l.named_are) (c.deref-5.ensures.value ∙ l.named_are) c.deref-6.ensures.value
    c.indexed_in-units.ensures w c.in_ok-written.ensures.written in
    let us = with_tables (map (named_by l.number) t.ranged.items)
    (indexed_in s.ranges (map (named_by l.number) t.ranged.items) t.indexed.items) in
    subst (λ (x : ListSections). AreEnteredFirst spans x w.lists.items w.bytes.items) c.self.view_is
    (entered_first s spans t.ranged.items t.count t.index t.bounds.items t.indexed.items c.self.invariant lists each w.bytes.items
    w.lists.items
    (are_written s spans t.ranged.items t.count t.index t.bounds.items t.indexed.items c.self.invariant lists bs l.number l.bytes w us
    written)
    (all_writable s spans t.ranged.items t.count t.index t.bounds.items t.indexed.items c.self.invariant lists bs l.number l.bytes w
    (λ g below. c.in_ok-lists.ensures.within g below)))
