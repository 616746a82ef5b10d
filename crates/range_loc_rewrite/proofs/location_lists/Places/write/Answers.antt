use Rattle.std.proofs.Common.{◌≡◌, ◌∙◌, ℕ, List, [], ap, sym, subst, map, length, All}
use Rattle.std.specs.Prelude.{flat_map}
use Rattle.std.specs.Global.{Vec}
use Rattle.rb_bytes.specs.FirstFault.{IsFree}
use Rattle.answer_runs.specs.CarriedAnswers.{IsCarriedFrom}
use Rattle.dw_unit.specs.Faults.{HasDwarfFault}
use Rattle.dw_unit.proofs.EntryPlaces.{places_ascend}
use Rattle.dw_lists.specs.declared.list_kind.ListKind.TheVariants.{Locations}
use Rattle.dw_lists.specs.declared.named_list.NamedList.{NamedList}
use Rattle.dw_lists.specs.Faults.{ListSections, list_sections_held, location_places}
use Rattle.cover_lists.specs.KeptLists.{items_in}
use Rattle.list_units.specs.Listing.{AreNamesOf, all_items}
use Rattle.list_units.specs.ReadLists.{unit_lists}
use Rattle.cover_lists.specs.ListRuns.{said_in}
use Rattle.dw_lists.specs.ListTables.{place_says, PlacesMade}
use Rattle.dw_lists.specs.Tables.{list_sections, place_answers}
use Rattle.list_writer.specs.WrittenLocations.{runs_bytes, CanBeWritten}
use Rattle.list_writer.specs.WrittenTables.{AreLeft, AreWritten, indexed_in, with_tables}
use Rattle.dw_lists.specs.declared.indexed_unit.IndexedUnit.{IndexedUnit}
use Rattle.dw_unit.specs.CompUnits.{units}
use Rattle.table_core.specs.declared.written.Written.{Written}
use Rattle.range_loc_rewrite.proofs.NewBases.{no_units}
use Rattle.range_loc_rewrite.proofs.PlaceOrigins.{origin}
use Rattle.range_loc_rewrite.proofs.UsedIndexes.{left_in}
use Rattle.range_loc_rewrite.proofs.ItemOrder.{names_in_order, names_own}
use Rattle.range_loc_rewrite.specs.NewOffsets.{PlacesGetOffsets}
use Rattle.range_loc_rewrite.specs.PlaceRuns.{ArePlaceRuns}
use Rattle.range_loc_rewrite.proofs.PlaceOffsets.{places_get_offsets}
use Rattle.range_loc_rewrite.proofs.PlaceRuns.{kept_count, kept_each}
use Rattle.range_loc_rewrite.proofs.PlacesWritten.{are_spelled, made_of, law_of}
use Rattle.range_loc_rewrite.proofs.SoundPlaces.{places_fine}
use Rattle.range_loc_rewrite.proofs.UnitsFree.{units_free}
use Rattle.range_loc_rewrite.proofs.location_lists.Places.write.Goals as goal

-- Attributes, units and lists as they are passed on.
module _ (s : ListSections) (kept : List NamedList) (indexed : List IndexedUnit) (bs ls : List (Vec ℕ)) (section : List ℕ)
    (named again : List NamedList) (units all : List IndexedUnit) (lists_are : ls ≡ bs) (section_is : section ≡ s.locations)
    (named_are : named ≡ kept) (again_are : again ≡ kept) (all_are : all ≡ indexed)
    (units_are : units ≡ indexed_in section again all) where
  whole : units ≡ indexed_in s.locations kept indexed
  whole = units_are ∙ (λ i. indexed_in (section_is i) (again_are i) (all_are i))

  left_are : AreLeft Locations 0 0 kept (indexed_in s.locations kept indexed) → AreLeft Locations 0 0 named units
  left_are left =
      subst (λ (us : List IndexedUnit). AreLeft Locations 0 0 named us) (sym whole)
      (subst (λ (ns : List NamedList). AreLeft Locations 0 0 ns (indexed_in s.locations kept indexed)) (sym named_are) left)

  written_are : (w : Written) → AreWritten Locations ls named (with_tables named units) w.bytes.items w.lists.items →
      AreWritten Locations bs kept (with_tables kept (indexed_in s.locations kept indexed)) w.bytes.items w.lists.items
  written_are w made =
      subst (λ (us : List IndexedUnit). AreWritten Locations bs kept (with_tables kept us) w.bytes.items w.lists.items) whole
      (subst (λ (ns : List NamedList). AreWritten Locations bs ns (with_tables ns units) w.bytes.items w.lists.items) named_are
      (subst (λ (l : List (Vec ℕ)). AreWritten Locations l named (with_tables named units) w.bytes.items w.lists.items) lists_are made))

  none_are : (w : Written) → (length named ≡ 0 → length units ≡ 0 → w.bytes.items ≡ []) → length kept ≡ 0 →
      length (indexed_in s.locations kept indexed) ≡ 0 → w.bytes.items ≡ []
  none_are w none e f = none (ap length named_are ∙ e) (ap length whole ∙ f)

pub write_tables-requires : goal.write_tables-requires
write_tables-requires c =
    let t = c.self.inside in
    let s : ListSections = list_sections_held t.info.items t.abbrevs.items t.addr.items t.ranges.items t.locations.items in
    let up = places_ascend s.units (units_free s (places_fine s c.self.invariant.free).ranges) in
    left_are s t.named.items t.indexed.items c.in_ok-bytes.bytes.items c.deref-4.result.now c.deref.result.now c.deref-5.result.now
    c.deref-2.result.now c.indexed_in-units.result.now c.deref-3.result.now c.deref-4.ensures.value c.deref.ensures.value
    c.deref-5.ensures.value c.deref-2.ensures.value c.deref-3.ensures.value c.indexed_in-units.ensures
    (subst (λ (us : List IndexedUnit). AreLeft Locations 0 0 t.named.items (indexed_in s.locations t.named.items us))
    (sym c.self.invariant.indexes)
    (left_in Locations (λ _. ⊥) (units s.units) s.locations t.named.items
    (names_in_order t.kept.lists.items s t.named.items c.self.invariant.names up)
    (names_own t.kept.lists.items s t.named.items c.self.invariant.names up) up
    (origin s t.kept.lists.items t.named.items c.self.invariant.names)))

pub returns-clause-law : goal.returns-clause-law
returns-clause-law c = λ i f from stands.
    let t = c.self.inside in
    let s : ListSections = list_sections_held t.info.items t.abbrevs.items t.addr.items t.ranges.items t.locations.items in
    let same : s ≡ list_sections i = c.self.view_is ∙ from in
    let spans = c.args.map.now in
    let rs = c.args.runs.now in
    let bs = c.in_ok-bytes.bytes.items in
    let w = c.in_ok-written.written in
    let free : IsFree (HasDwarfFault (location_places (list_sections i))) =
    subst (λ (x : ListSections). IsFree (HasDwarfFault (location_places x))) same c.self.invariant.free in
    let are : ArePlaceRuns s spans rs = subst (λ (x : ListSections). ArePlaceRuns x spans rs) (sym c.self.view_is) c.requires in
    let says = flat_map (unit_lists s) (units s.units) in
    let count = kept_count says t.kept.lists.items c.self.invariant.listed spans rs are in
    let each = kept_each says t.kept.lists.items c.self.invariant.listed spans rs are in
    let spelled : items_in bs ≡ map runs_bytes rs = c.in_ok-bytes.ensures.written in
    let fits : All CanBeWritten rs = c.in_ok-bytes.ensures.fits in
    let written = written_are s t.named.items t.indexed.items bs c.deref-4.result.now c.deref.result.now c.deref-5.result.now
    c.deref-2.result.now c.indexed_in-units.result.now c.deref-3.result.now c.deref-4.ensures.value c.deref.ensures.value
    c.deref-5.ensures.value c.deref-2.ensures.value c.deref-3.ensures.value c.indexed_in-units.ensures w c.in_ok-written.ensures.written in
    let law = law_of i f spans free t.kept.lists.items t.named.items
    (subst (λ (x : ListSections). AreNamesOf t.kept.lists.items t.named.items (all_items x)) same c.self.invariant.names) rs count each
    bs spelled fits (with_tables t.named.items (indexed_in s.locations t.named.items t.indexed.items)) w written stands in
    (subst (λ (x : ListSections). IsCarriedFrom (λ x y. x ≡ y) spans (place_says x) (place_answers f)) (sym from) law.0, law.1)

pub returns-clause-made : goal.returns-clause-made
returns-clause-made c =
    let t = c.self.inside in
    let s : ListSections = list_sections_held t.info.items t.abbrevs.items t.addr.items t.ranges.items t.locations.items in
    let bs = c.in_ok-bytes.bytes.items in
    let w = c.in_ok-written.written in
    let written = written_are s t.named.items t.indexed.items bs c.deref-4.result.now c.deref.result.now c.deref-5.result.now
    c.deref-2.result.now c.indexed_in-units.result.now c.deref-3.result.now c.deref-4.ensures.value c.deref.ensures.value
    c.deref-5.ensures.value c.deref-2.ensures.value c.deref-3.ensures.value c.indexed_in-units.ensures w c.in_ok-written.ensures.written in
    let none = none_are s t.named.items t.indexed.items bs c.deref-4.result.now c.deref.result.now c.deref-5.result.now
    c.deref-2.result.now c.indexed_in-units.result.now c.deref-3.result.now c.deref-4.ensures.value c.deref.ensures.value
    c.deref-5.ensures.value c.deref-2.ensures.value c.deref-3.ensures.value c.indexed_in-units.ensures w c.in_ok-written.ensures.none in
    subst (λ (x : ListSections). PlacesMade x w) c.self.view_is
    (made_of s t.kept.lists.items t.named.items c.self.invariant.names bs
    (with_tables t.named.items (indexed_in s.locations t.named.items t.indexed.items)) w written
    (λ empty e. none e (no_units s.locations t.named.items t.indexed.items empty e)))

pub returns-clause-offsets : goal.returns-clause-offsets
returns-clause-offsets c =
    let t = c.self.inside in
    let s : ListSections = list_sections_held t.info.items t.abbrevs.items t.addr.items t.ranges.items t.locations.items in
    let spans = c.args.map.now in
    let rs = c.args.runs.now in
    let bs = c.in_ok-bytes.bytes.items in
    let w = c.in_ok-written.written in
    let are : ArePlaceRuns s spans rs = subst (λ (x : ListSections). ArePlaceRuns x spans rs) (sym c.self.view_is) c.requires in
    let says = flat_map (unit_lists s) (units s.units) in
    let count = kept_count says t.kept.lists.items c.self.invariant.listed spans rs are in
    let each = kept_each says t.kept.lists.items c.self.invariant.listed spans rs are in
    let spelled : items_in bs ≡ map runs_bytes rs = c.in_ok-bytes.ensures.written in
    let fits : All CanBeWritten rs = c.in_ok-bytes.ensures.fits in
    let written = written_are s t.named.items t.indexed.items bs c.deref-4.result.now c.deref.result.now c.deref-5.result.now
    c.deref-2.result.now c.indexed_in-units.result.now c.deref-3.result.now c.deref-4.ensures.value c.deref.ensures.value
    c.deref-5.ensures.value c.deref-2.ensures.value c.deref-3.ensures.value c.indexed_in-units.ensures w c.in_ok-written.ensures.written in
    let none = none_are s t.named.items t.indexed.items bs c.deref-4.result.now c.deref.result.now c.deref-5.result.now
    c.deref-2.result.now c.indexed_in-units.result.now c.deref-3.result.now c.deref-4.ensures.value c.deref.ensures.value
    c.deref-5.ensures.value c.deref-2.ensures.value c.deref-3.ensures.value c.indexed_in-units.ensures w c.in_ok-written.ensures.none in
    subst (λ (x : ListSections). PlacesGetOffsets x.units x.locations w.lists.items w.bytes.items) c.self.view_is
    (places_get_offsets s (places_fine s c.self.invariant.free).there t.kept.lists.items t.named.items c.self.invariant.names bs spans
    (said_in rs) (are_spelled s t.kept.lists.items t.named.items c.self.invariant.names spans rs count each bs spelled fits)
    w.bytes.items w.lists.items
    (subst (λ (us : List IndexedUnit). AreWritten Locations bs t.named.items
    (with_tables t.named.items (indexed_in s.locations t.named.items us)) w.bytes.items w.lists.items) c.self.invariant.indexes written)
    (subst (λ (us : List IndexedUnit). length t.named.items ≡ 0 → length (indexed_in s.locations t.named.items us) ≡ 0 →
    w.bytes.items ≡ []) c.self.invariant.indexes none)
    (places_ascend s.units (units_free s (places_fine s c.self.invariant.free).ranges)))
