-- Each attribute that refers to a location list gets an offset in a written table, or its unit gets a base.
use Rattle.std.proofs.Common.{◌≡◌, ◌<◌, ◌==◌, ◌&&◌, ◌||◌, ◌∙◌, [], ℕ, Bool, true, false, List, Some, None, sym, ap, subst}
use Rattle.std.proofs.Common.{length, map, inl, inr, ◌≢◌}
use Rattle.std.specs.Prelude.{flat_map, Contains, if◌then◌else◌, is_some}
use Rattle.std.specs.Global.{Vec}
use Rattle.answer_runs.specs.declared.run.Run.{Run}
use Rattle.answer_runs.proofs.Ascending.{Ascends}
use Rattle.table_core.specs.declared.written.ListAt.{ListAt}
use Rattle.addr_map.specs.declared.span.Span.{Span}
use Rattle.dw_unit.specs.declared.entry.Attr.{Attr}
use Rattle.dw_unit.specs.CompUnits.{Entry, Unit, units, attr}
use Rattle.dw_unit.specs.EntryMoves.{new_list_offset}
use Rattle.cover_lists.specs.declared.kept_list.KeptList.{KeptList}
use Rattle.dw_lists.specs.declared.list_kind.ListKind.TheVariants.{Locations}
use Rattle.dw_lists.specs.declared.named_list.NamedList.{NamedList}
use Rattle.dw_lists.specs.Faults.{ListSections}
use Rattle.dw_lists.specs.IndexedUnits.{indexed_units}
use Rattle.dw_lists.specs.Lists.{locations_kind}
use Rattle.dw_lists.specs.UnitLists.{own_place}
use Rattle.dw_lists.specs.Weights.{indexes}
use Rattle.list_units.specs.Listing.{AreNamesOf, IsNameOf, ListItem, all_items, list_index}
use Rattle.list_units.proofs.Zips.{zip_right}
use Rattle.list_writer.specs.WrittenLocations.{bounded}
use Rattle.list_writer.specs.FullLists.{IsFullList}
use Rattle.list_writer.specs.WrittenTables.{AreWritten, IsNamed, StandsAt, bytes_in, indexed_in, with_tables}
use Rattle.list_writer.proofs.BasesThere.{list_full}
use Rattle.list_writer.proofs.ListsThere.{list_inside}
use Rattle.range_loc_rewrite.specs.NewOffsets.{GetsBase, GetsOffset, NeedsTable, PlacesGetOffsets}
use Rattle.range_loc_rewrite.proofs.ItemsThere.{IsPlaceName, HasItem, has_item}
use Rattle.range_loc_rewrite.proofs.KeptLookups.{all_of, place_of}
use Rattle.range_loc_rewrite.proofs.NewBases.{IsSpelled, kept_base, new_base}
use Rattle.range_loc_rewrite.proofs.PlaceOrigins.{origin}
use Rattle.range_loc_rewrite.proofs.PlacesStay.{AreSpelled}
use Rattle.range_loc_rewrite.proofs.RangesStay.{found_name}
use Rattle.range_loc_rewrite.proofs.SoundLists.{AreThere}
use Rattle.range_loc_rewrite.proofs.UsedIndexes.{greatest_is, used_entry}

module _ (s : ListSections) (fine : (u : Unit) → Contains (units s.units) u →
    AreThere locations_kind s.locations s.units.addr u (flat_map (λ (e : Entry). e.attrs) u.entries))
    (lists : List KeptList) (named : List NamedList) (items : AreNamesOf lists named (all_items s))
    (bs : List (Vec ℕ)) (spans : List Span) (runs : ℕ → List (Run (List (List ℕ)))) (spelled : AreSpelled lists bs spans runs named)
    (bytes : List ℕ) (names : List ListAt)
    (w : AreWritten Locations bs named (with_tables named (indexed_in s.locations named (indexed_units locations_kind s.units))) bytes
    names)
    (none : length named ≡ 0 → length (indexed_in s.locations named (indexed_units locations_kind s.units)) ≡ 0 → bytes ≡ [])
    (up : Ascends 0 (map place_of (all_of (units s.units)))) where
  module _ (u : Unit) (uc : Contains (units s.units) u) (e : Entry) (ec : Contains u.entries e) (k : ℕ) (a : Attr)
      (is : attr k e ≡ Some a) (name : IsPlaceName k) where
    -- The kept attribute of the attribute's list.
    record Name : Type 0 where
      pub n : NamedList
      pub there : Contains named n
      pub place : n.place ≡ e.place
      pub called : n.attr ≡ k
      pub own : n.own ≡ own_place u
      pub index : n.index ≡ list_index a

    name_of : (a.form == 0x17 || a.form == 0x22) ≡ true → Name
    name_of form =
        let found : HasItem s u e k a = has_item s fine u uc e ec k name a is
        (both (a.name == 0x02 || a.name == 0x40) (a.form == 0x17 || a.form == 0x22)
        (ap (λ (n : ℕ). n == 0x02 || n == 0x40) (found_name k e.attrs a is) ∙ name) form) in
        let item : ListItem = record { place = e.place; attr = k; own = own_place u; index = list_index a; list = found.list } in
        let q = zip_right (IsNameOf lists) named (all_items s) item items found.there in
        record { n = q.0; there = q.1; place = q.2.place; called = q.2.attr; own = q.2.own; index = q.2.index }
      where
        both : (x y : Bool) → x ≡ true → y ≡ true → (x && y) ≡ true
        both true y f g = g
        both false y f g = absurd (cc)

    by_offset : a.form ≡ 0x17 → GetsOffset locations_kind names bytes e.place k
    by_offset form =
        let q = name_of (ap (λ (f : ℕ). f == 0x17 || f == 0x22) form) in
        let index : q.n.index ≡ None = q.index ∙ ap (λ (f : ℕ). if f == 0x22 then Some a.value else None) form in
        let x = subst (IsNamed Locations bs w.tables names named q.n) index (w.each q.n q.there) in
        record {
          offset = x.0;
          is = (λ i. new_list_offset names (sym q.place i) (sym q.called i)) ∙ x.1;
          within = subst (λ (l : List ℕ). x.0 < length l) (sym w.bytes_are)
              (list_inside Locations w.tables x.0 (bounded (runs q.n.list))
              (subst (StandsAt w.tables x.0) (spelled.bytes q.n q.there) x.2) w.units);
          full = subst (λ (l : List ℕ). IsFullList locations_kind l x.0) (sym w.bytes_are)
              (list_full Locations w.tables x.0 (bounded (runs q.n.list))
              (subst (StandsAt w.tables x.0) (spelled.bytes q.n q.there) x.2) w.units (spelled.writable q.n q.there));
        }

  lists_spelled : (r : NamedList) → Contains named r → IsSpelled Locations (bytes_in bs r.list)
  lists_spelled r c = record { entries = bounded (runs r.list); are = spelled.bytes r c; writable = spelled.writable r c }

  base_of : (s.locations ≡ [] → bytes ≢ []) → (u : Unit) → Contains (units s.units) u → NeedsTable locations_kind (λ _. ⊥) u →
      GetsBase locations_kind s.units u names bytes
  base_of some u uc (NeedsTable.uses_index i c) =
      let e = used_entry 0x22 u i c in
      let g = greatest_is (indexes 0x22 u) i c in
      new_base Locations (λ _. ⊥) s.units s.locations bs named bytes names w (origin s lists named items) up lists_spelled some none u uc
      e.0 e.1 (inl (ap is_some g.1))
  base_of some u uc (NeedsTable.names_list e k a ec is name form) =
      let q = name_of u uc e ec k a is name (ap (λ (f : ℕ). f == 0x17 || f == 0x22) form) in
      new_base Locations (λ _. ⊥) s.units s.locations bs named bytes names w (origin s lists named items) up lists_spelled some none u uc
      e ec (inr (q.n, q.there, q.own))
  base_of some u uc (NeedsTable.has_entry e ec never) = absurd never

  pub places_get_offsets : PlacesGetOffsets s.units s.locations names bytes
  places_get_offsets = record {
    offsets = λ u uc e ec k a is name form. by_offset u uc e ec k a is name form;
    bases = base_of;
    kept = kept_base Locations (λ _. ⊥) s.units s.locations bs named bytes names w (origin s lists named items) up;
  }
