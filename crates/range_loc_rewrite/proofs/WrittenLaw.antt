-- The law of written ranges, for a file with the written table.
use Rattle.std.proofs.Common.{◌≡◌, ◌∙◌, ◌-◌, ◌^◌, ◌<◌, ℕ, Bool, [], List, Option, refl, sym, ap, subst, arith, map, All, length}
use Rattle.std.specs.Prelude.{Contains, is_some}
use Rattle.std.specs.Global.{Vec}
use Rattle.rb_bytes.specs.FirstFault.{IsFree}
use Rattle.elf_image.specs.declared.elf.Elf.{Elf}
use Rattle.addr_map.specs.declared.span.Span.{Span}
use Rattle.addr_map.specs.Spans.{owner}
use Rattle.answer_runs.specs.declared.run.Run.{Run}
use Rattle.answer_runs.specs.AnswerRuns.{run_at, carried, AreRunsOf, IsWithin}
use Rattle.answer_runs.specs.CarriedAnswers.{IsCarriedFrom}
use Rattle.table_core.specs.declared.written.Written.{Written}
use Rattle.dw_unit.specs.CompUnits.{units}
use Rattle.dw_unit.specs.Faults.{HasDwarfFault}
use Rattle.dw_unit.proofs.EntryPlaces.{places_ascend}
use Rattle.cover_lists.specs.declared.cover_index.CoverIndex.{CoverIndex}
use Rattle.cover_lists.specs.declared.groups.RangedEntry.{RangedEntry}
use Rattle.dw_lists.specs.declared.list_kind.ListKind.TheVariants as kind
use Rattle.dw_lists.specs.declared.indexed_unit.IndexedUnit.{IndexedUnit}
use Rattle.dw_lists.specs.Faults.{ListSections, range_places}
use Rattle.cover_lists.specs.GroupRuns.{held_by, runs_in}
use Rattle.cover_lists.proofs.EntryOrderFacts.{order_has}
use Rattle.range_loc_rewrite.specs.KeptRanges.{AreKept}
use Rattle.range_loc_rewrite.specs.NewOffsets.{HasHigh, RangesGetOffsets}
use Rattle.list_writer.specs.ListBytes.{IsWritable}
use Rattle.dw_lists.specs.ListTables.{range_says, RangesMade}
use Rattle.dw_lists.specs.Ranges.{covering}
use Rattle.dw_lists.specs.Tables.{list_sections, range_answers, StandsRanges}
use Rattle.list_writer.specs.WrittenRanges.{bounded, named_by, order_of, place_of, runs_bytes}
use Rattle.list_writer.specs.WrittenTables.{AreInOrder, AreLeft, AreWritten, OwnsRise, bytes_in, indexed_in, with_tables}
use Rattle.range_loc_rewrite.proofs.FreeRanges.{ranges_free}
use Rattle.list_writer.proofs.HeldRuns.{order_writable}
use Rattle.range_loc_rewrite.proofs.KeptEntries.{kept_ascend}
use Rattle.range_loc_rewrite.proofs.KeptOrder.{owns_rise, none_kept}
use Rattle.range_loc_rewrite.proofs.KeptPairs.{all_paired}
use Rattle.range_loc_rewrite.proofs.NamedRanges.{AreNamed, are_named, ranges_in_order}
use Rattle.range_loc_rewrite.proofs.RangeOffsets.{ranges_get_offsets}
use Rattle.range_loc_rewrite.proofs.RangeOrigins.{origin}
use Rattle.range_loc_rewrite.proofs.RangesLaw.{new_covering, new_free, is_carried}
use Rattle.range_loc_rewrite.proofs.RangeWeights.{holds_some, kept_says, some_if, within_there}
use Rattle.range_loc_rewrite.proofs.UnitsFree.{units_free}
use Rattle.range_loc_rewrite.proofs.UsedIndexes.{left_in}

module _ (s : ListSections) (kept : List RangedEntry) (count : ℕ) (index : CoverIndex) (bounds : List ℕ) (indexed : List IndexedUnit)
    (are : AreKept s kept count index bounds indexed) (number : RangedEntry → ℕ) where
  -- Entries are kept in order.
  pub kept_order : AreInOrder kind.Ranges 0 (map (named_by number) kept)
  kept_order = ranges_in_order number 0 0 kept (kept_ascend s index.tree kept are.seen (places_ascend s.units (units_free s are.free)))
      (omega arith)

  pub kept_owns : OwnsRise 0 (map (named_by number) kept)
  kept_owns = owns_rise number s index.tree (units s.units) kept 0 (all_paired s index.tree (units s.units) kept are.seen)
      (places_ascend s.units (units_free s are.free))

  pub kept_left : AreLeft kind.Ranges 0 0 (map (named_by number) kept) (indexed_in s.ranges (map (named_by number) kept) indexed)
  kept_left =
      subst (λ (us : List IndexedUnit). AreLeft kind.Ranges 0 0 (map (named_by number) kept)
      (indexed_in s.ranges (map (named_by number) kept) us))
      (sym are.indexes)
      (left_in kind.Ranges HasHigh (units s.units) s.ranges (map (named_by number) kept) kept_order kept_owns
      (places_ascend s.units (units_free s are.free)) (origin s are.free index.tree kept are.seen number))

  -- The written table.
  pub made_of : (bs : List (Vec ℕ)) (us : List IndexedUnit) (w : Written) →
      AreWritten kind.Ranges bs (map (named_by number) kept) us w.bytes.items w.lists.items →
      (s.ranges ≡ [] → length (map (named_by number) kept) ≡ 0 → w.bytes.items ≡ []) → RangesMade s w
  made_of bs us w written none = record {
    lists = record { attrs = written.names_are.attrs; once = written.names_are.once; low = written.names_are.low };
    nothing = λ empty high. none empty (ap (λ (rs : List RangedEntry). length (map (named_by number) rs))
        (none_kept s empty index.tree kept are.seen high));
  }

module _ (s : ListSections) (spans : List Span) (kept : List RangedEntry) (count : ℕ) (index : CoverIndex) (bounds : List ℕ)
    (indexed : List IndexedUnit)
    (are : AreKept s kept count index bounds indexed) (lists : List (Vec (Run Bool))) (bs : List (Vec ℕ)) (number : RangedEntry → ℕ)
    (same : (r : RangedEntry) → Contains kept r → bytes_in bs (number r) ≡ runs_bytes (order_of spans lists r)) (w : Written) where
  pub are_written : (us : List IndexedUnit) → AreWritten kind.Ranges bs (map (named_by number) kept) us w.bytes.items w.lists.items →
      AreNamed (order_of spans lists) kept w.bytes.items w.lists.items
  are_written us made = are_named bs (order_of spans lists) number kept w.bytes.items w.lists.items us made same

  pub all_writable : ((g : ℕ) → g < count → IsWithin 0 (runs_in lists g) (2 ^ 64 - 1)) → (r : RangedEntry) → Contains kept r →
      All (IsWritable kind.Ranges) (map bounded (order_of spans lists r))
  all_writable low r c =
      order_writable (place_of spans lists r) (runs_in lists r.group) (low r.group (within_there count kept r are.within c))

  pub offsets_of : ((g : ℕ) → g < count → IsWithin 0 (runs_in lists g) (2 ^ 64 - 1)) →
      AreWritten kind.Ranges bs (map (named_by number) kept)
      (with_tables (map (named_by number) kept) (indexed_in s.ranges (map (named_by number) kept) indexed)) w.bytes.items w.lists.items →
      (length (map (named_by number) kept) ≡ 0 → length (indexed_in s.ranges (map (named_by number) kept) indexed) ≡ 0 →
      w.bytes.items ≡ []) →
      RangesGetOffsets s.units s.ranges w.lists.items w.bytes.items
  offsets_of low made none =
      ranges_get_offsets s are.free index.tree kept are.seen (order_of spans lists) w.bytes.items w.lists.items
      (are_written (with_tables (map (named_by number) kept) (indexed_in s.ranges (map (named_by number) kept) indexed)) made)
      (places_ascend s.units (units_free s are.free)) (all_writable low) bs number same
      (subst (λ (us : List IndexedUnit). AreWritten kind.Ranges bs (map (named_by number) kept)
      (with_tables (map (named_by number) kept) (indexed_in s.ranges (map (named_by number) kept) us)) w.bytes.items w.lists.items)
      are.indexes made)
      (subst (λ (us : List IndexedUnit). length (map (named_by number) kept) ≡ 0 →
      length (indexed_in s.ranges (map (named_by number) kept) us) ≡ 0 → w.bytes.items ≡ []) are.indexes none)

module _ (i f : Elf) (spans : List Span) (kept : List RangedEntry) (count : ℕ) (index : CoverIndex) (bounds : List ℕ)
    (indexed : List IndexedUnit)
    (are : AreKept (list_sections i) kept count index bounds indexed) (lists : List (Vec (Run Bool)))
    (each : (g : ℕ) → g < count → AreRunsOf (carried (held_by index.tree g) spans) (runs_in lists g))
    (low : (g : ℕ) → g < count → IsWithin 0 (runs_in lists g) (2 ^ 64 - 1)) (bs : List (Vec ℕ)) (number : RangedEntry → ℕ)
    (same : (r : RangedEntry) → Contains kept r → bytes_in bs (number r) ≡ runs_bytes (order_of spans lists r)) (w : Written)
    (us : List IndexedUnit) (made : AreWritten kind.Ranges bs (map (named_by number) kept) us w.bytes.items w.lists.items)
    (stands : StandsRanges i spans w f) where
  abbrev s : ListSections
  s = list_sections i

  abbrev t : ListSections
  t = list_sections f

  abbrev order : RangedEntry → List (Run Bool)
  order = order_of spans lists

  written : AreNamed order kept w.bytes.items w.lists.items
  written = are_written s spans kept count index bounds indexed are lists bs number same w us made

  writable : (r : RangedEntry) → Contains kept r → All (IsWritable kind.Ranges) (map bounded (order r))
  writable = all_writable s spans kept count index bounds indexed are lists bs number same w low

  says : (r : RangedEntry) → Contains kept r → (p : ℕ) → is_some (run_at (order r) p)
      ≡ holds_some index.tree r.group (owner spans p)
  says r c p =
      order_has (place_of spans lists r) (runs_in lists r.group) p
      ∙ ap is_some (kept_says s spans kept count index bounds indexed are lists each r c p)
      ∙ some_if (holds_some index.tree r.group (owner spans p))

  pub law_of : IsCarriedFrom (λ x y. x ≡ y) spans (range_says s) (range_answers f) × IsFree (HasDwarfFault (range_places t))
  law_of =
      let c = stands.changed in
      let free : IsFree (HasDwarfFault (range_places t)) =
      new_free s t spans index.tree kept order w.bytes.items w.lists.items c.moves are.free are.seen written stands.table stands.units
      c.units_are c.named says writable in
      let p = ranges_free f t refl free in (
        subst (λ (x : Option (ℕ → Option (List ℕ))). IsCarriedFrom (λ x y. x ≡ y) spans (range_says s) x) (sym p.0)
            (is_carried (covering s) (covering t) spans (carried (range_says s) spans) (λ p. refl)
            (new_covering s t spans index.tree kept order w.bytes.items w.lists.items c.moves are.free are.seen written stands.table
            stands.units c.units_are c.named says writable)),
        free,
      )
