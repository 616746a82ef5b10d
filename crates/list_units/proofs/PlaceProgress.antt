-- The locations of some units, with the result for the next one.
use Rattle.std.proofs.Common.{◌≡◌, ◌∙◌, ◌||◌, ◌&&◌, ◌==◌, ◌++◌, ◌∷◌, [], ℕ, Bool, true, false, List, Option, Some, None, Ok}
use Rattle.std.proofs.Common.{refl, sym, ap, subst, not}
use Rattle.std.specs.Prelude.{if◌then◌else◌, flat_map, is_some}
use Rattle.std.specs.List.{list_all}
use Rattle.std.proofs.lemmas.Bool.{and_parts}
use Rattle.std.proofs.lemmas.List.Folds.{list_all-append}
use Rattle.std.specs.Global.{Vec}
use Rattle.answer_runs.specs.Choices.{lower, least}
use Rattle.table_core.specs.declared.form.TheConstants.{DW_FORM_sec_offset, DW_FORM_loclistx, DW_FORM_rnglistx}
use Rattle.table_core.specs.AttributeForms.{is_address_index, is_text_index}
use Rattle.table_core.specs.DebugUnits.{Walked, first_place}
use Rattle.dw_unit.specs.declared.unit_reading.UnitReading.{UnitReading}
use Rattle.dw_unit.specs.declared.attribute.TheConstants.{DW_AT_ranges, DW_AT_str_offsets_base, DW_AT_rnglists_base, DW_AT_loclists_base}
use Rattle.dw_unit.specs.declared.entry.Attr.{Attr}
use Rattle.dw_unit.specs.CompUnits.{Entry, Unit, base, address_of, unit_of}
use Rattle.dw_unit.specs.Declarations.{has_bad_form, has_bad_high}
use Rattle.dw_unit.specs.Faults.{fails, implies, is_sound_attr, is_sound_unit}
use Rattle.dw_unit.specs.ListedEntries.{ListedEntry}
use Rattle.dw_unit.specs.UnitReadings.{IsReading}
use Rattle.dw_unit.proofs.Leasts.{least-append}
use Rattle.dw_unit.proofs.UnitReadings.{places_more, unformed_more, bad_before, bad_now, still_good, flat-more}
use Rattle.cover_lists.specs.declared.groups.Groups.{Groups}
use Rattle.list_units.specs.declared.located_attr.Locations.{Locations}
use Rattle.list_units.specs.declared.place_reading.PlaceProgress.{PlaceProgress}
use Rattle.list_units.specs.declared.placing.UnitFaults.{UnitFaults}
use Rattle.dw_lists.specs.declared.named_list.NamedList.{NamedList}
use Rattle.dw_lists.specs.Faults.{ListSections, has_bad_offset, has_bad_offsets, bad_list_tables}
use Rattle.cover_lists.specs.Groups.{AreNumbered}
use Rattle.dw_lists.specs.Lists.{Kind, ranges_kind, locations_kind}
use Rattle.dw_lists.specs.Locations.{PlaceSaid}
use Rattle.list_units.specs.Listing.{AreNamesOf, unit_items}
use Rattle.list_units.specs.PlaceReading.{is_bad_unit, unit_says, AreGathered, IsProgress, IsUnitAdded}
use Rattle.list_units.specs.Placing.{IsUnitPlaced}
use Rattle.list_units.specs.RangeReading.{units_of}
use Rattle.list_units.specs.ReadLists.{unit_lists, is_formed, are_formed}
use Rattle.dw_lists.specs.IndexedUnits.{indexed_of}
use Rattle.list_units.proofs.PlainPlaces.{unit_of_listed}
use Rattle.list_units.proofs.PlainUnits.{unit_indexed}
use Rattle.list_units.proofs.ReadProgress.{units_more, read_unit, entries_by, indexes_more}

-- All location attributes of a sound unit have a form that is read

not_false : (b : Bool) → not b ≡ false → b ≡ true
not_false true e = refl
not_false false e = absurd (cc)

attr_formed : (addr : List ℕ) (u : Unit) (a : Attr) → is_sound_attr addr u a ≡ true → is_formed a ≡ true
attr_formed addr u a e = fifth
    (implies (is_text_index a.form) (is_some (base DW_AT_str_offsets_base u)))
    (implies (is_address_index a.form) (is_some (address_of addr u a)))
    (implies (a.form == DW_FORM_loclistx) (is_some (base DW_AT_loclists_base u)))
    (implies (a.form == DW_FORM_rnglistx) (is_some (base DW_AT_rnglists_base u)))
    (is_formed a)
    (implies (a.name == DW_AT_ranges) (a.form == DW_FORM_sec_offset || a.form == DW_FORM_rnglistx))
    (implies (a.name == DW_AT_rnglists_base || a.name == DW_AT_loclists_base) (a.form == DW_FORM_sec_offset)) e
  where
    fifth : (a b c d e f g : Bool) → (a && b && c && d && e && f && g) ≡ true → e ≡ true
    fifth a b c d e f g all =
        let six = and_parts (a && b && c && d && e && f) g all in
        let five = and_parts (a && b && c && d && e) f six.0 in
        (and_parts (a && b && c && d) e five.0).1

attrs_formed : (addr : List ℕ) (u : Unit) (attrs : List Attr) → list_all (is_sound_attr addr u) attrs ≡ true → are_formed attrs ≡ true
attrs_formed addr u [] e = refl
attrs_formed addr u (a ∷ attrs) e =
    let both = and_parts (is_sound_attr addr u a) (list_all (is_sound_attr addr u) attrs) e in
    (λ i. attr_formed addr u a both.0 i && attrs_formed addr u attrs both.1 i)

entries_formed : (addr : List ℕ) (u : Unit) (es : List Entry) → list_all (λ (e : Entry). list_all (is_sound_attr addr u) e.attrs) es ≡ true
    →
    are_formed (flat_map (λ (e : Entry). e.attrs) es) ≡ true
entries_formed addr u [] e = refl
entries_formed addr u (x ∷ es) e =
    let both = and_parts (list_all (is_sound_attr addr u) x.attrs) (list_all (λ (e : Entry). list_all (is_sound_attr addr u) e.attrs) es) e
    in
    list_all-append is_formed x.attrs (flat_map (λ (e : Entry). e.attrs) es)
    ∙ (λ i. attrs_formed addr u x.attrs both.0 i && entries_formed addr u es both.1 i)

unit_formed : (addr : List ℕ) (u : Unit) → is_sound_unit addr u ≡ true → are_formed (flat_map (λ (e : Entry). e.attrs) u.entries) ≡ true
unit_formed addr u sound = entries_formed addr u u.entries sound

-- The lowest tables, with one more unit.
bad_more : (s : ListSections) (k : Kind) (section : List ℕ) (ws : List Walked) (w : Walked) (u : Unit) (old new now : Option ℕ) →
    unit_of s.units.abbrevs w ≡ Ok u → new ≡ lower old now → old
    ≡ least (flat_map (bad_list_tables k section s.units.addr) (units_of s ws)) →
    now ≡ least (bad_list_tables k section s.units.addr u) →
    new ≡ least (flat_map (bad_list_tables k section s.units.addr) (units_of s (ws ++ w ∷ [])))
bad_more s k section ws w u old new now read made before here =
    made ∙ (λ i. lower (before i) (here i))
    ∙ sym (ap (λ (us : List Unit). least (flat_map (bad_list_tables k section s.units.addr) us)) (units_more s ws w u read)
    ∙ ap least (flat-more (bad_list_tables k section s.units.addr) (units_of s ws) u)
    ∙ least-append (flat_map (bad_list_tables k section s.units.addr) (units_of s ws)) (bad_list_tables k section s.units.addr u))

module _ (s : ListSections) (ws : List Walked) (w : Walked) (old new : PlaceProgress) (r : UnitReading) (are : IsProgress s ws old)
    (is : IsReading s.units.abbrevs s.units.addr w r) (form : new.bad_form ≡ lower old.bad_form r.bad_form)
    (high : new.bad_high ≡ lower old.bad_high r.bad_high) (unform : new.unformed ≡ lower old.unformed r.unformed) where
  with_bad : AreNumbered new.groups → new.bad ≡ first_place (is_bad_unit s) (ws ++ w ∷ []) →
      (new.bad ≡ None → AreGathered s (ws ++ w ∷ []) new) → IsProgress s (ws ++ w ∷ []) new
  with_bad numbered bad gathered = record {
    numbered = numbered;
    form = form ∙ (λ i. lower (are.form i) (is.form i)) ∙ sym (places_more has_bad_form s.units.abbrevs ws w);
    high = high ∙ (λ i. lower (are.high i) (is.high i)) ∙ sym (places_more has_bad_high s.units.abbrevs ws w);
    unformed_are = unform ∙ (λ i. lower (are.unformed_are i) (is.behind.unformed i)) ∙ sym (unformed_more s.units.abbrevs ws w);
    bad = bad;
    gathered = gathered;
  }

  none_bad : (place : ℕ) → new.bad ≡ Some place → new.bad ≡ None → AreGathered s (ws ++ w ∷ []) new
  none_bad place now none = let e : None ≡ Some place = sym none ∙ now in absurd (cc)

  -- A unit before was bad.
  pub bad_kept : AreNumbered new.groups → is_some old.bad ≡ true → new.bad ≡ old.bad → IsProgress s (ws ++ w ∷ []) new
  bad_kept numbered some same = by_bad old.bad refl some
    where
      by_bad : (o : Option ℕ) → old.bad ≡ o → is_some o ≡ true → IsProgress s (ws ++ w ∷ []) new
      by_bad None e some = absurd (cc)
      by_bad (Some place) e some =
          with_bad numbered (same ∙ e ∙ sym (bad_before (is_bad_unit s) ws w place (sym are.bad ∙ e))) (none_bad place (same ∙ e))

  -- This unit can't be read.
  pub bad_first : AreNumbered new.groups → old.bad ≡ None → r.entries ≡ None → new.bad ≡ Some w.place → IsProgress s (ws ++ w ∷ []) new
  bad_first numbered before none now =
      let bad : is_bad_unit s w ≡ true = ap (λ (b : Bool). b || has_bad_offsets s w) (entries_by s w r None is none) in
      with_bad numbered (now ∙ sym (bad_now (is_bad_unit s) ws w (sym are.bad ∙ before) bad)) (none_bad w.place now)

  -- This unit was read.
  module _ (f : UnitFaults) (before : old.bad ≡ None) (good : fails (is_sound_unit s.units.addr) (unit_of s.units.abbrevs w)
      ≡ false) (u : Unit)
      (read : unit_of s.units.abbrevs w ≡ Ok u) (x : IsUnitPlaced s u old.groups old.kept old.named.items new.groups new.kept
      new.named.items f)
      (ranges : new.bad_ranges ≡ lower old.bad_ranges f.ranges.bad) (locations : new.bad_locations
      ≡ lower old.bad_locations f.locations.bad)
      (indexes : new.indexed.items ≡ old.indexed.items ++ indexed_of locations_kind u) where
    tested : is_bad_unit s w ≡ (f.ranges.lacks_offset || f.locations.lacks_offset)
    tested =
        (λ i. good i || (has_bad_offset ranges_kind s.ranges (read i) || has_bad_offset locations_kind s.locations (read i)))
        ∙ (λ i. sym x.lacks_ranges i || sym x.lacks_locations i)

    formed : are_formed (flat_map (λ (e : Entry). e.attrs) u.entries) ≡ true
    formed = unit_formed s.units.addr u
        (not_false (is_sound_unit s.units.addr u) (sym (ap (fails (is_sound_unit s.units.addr)) read) ∙ good))

    pub by_offset : (b : Bool) → (f.ranges.lacks_offset || f.locations.lacks_offset) ≡ b → new.bad ≡ (if b then Some w.place else old.bad) →
        IsProgress s (ws ++ w ∷ []) new
    by_offset true lacks now =
        with_bad x.grow.numbered (now ∙ sym (bad_now (is_bad_unit s) ws w (sym are.bad ∙ before) (tested ∙ lacks))) (none_bad w.place now)
    by_offset false lacks now =
        let was = are.gathered before in
        with_bad x.grow.numbered (now ∙ before ∙ sym (still_good (is_bad_unit s) ws w (sym are.bad ∙ before) (tested ∙ lacks)))
        (λ none. record {
          held = x.held;
          says = λ a. x.says a ∙ ap (λ (l : List PlaceSaid). l ++ unit_says s a u) (was.says a)
              ∙ sym (ap (flat_map (unit_says s a)) (units_more s ws w u read) ∙ flat-more (unit_says s a) (units_of s ws) u);
          ranges = bad_more s ranges_kind s.ranges ws w u old.bad_ranges new.bad_ranges f.ranges.bad read ranges was.ranges x.bad_ranges;
          locations = bad_more s locations_kind s.locations ws w u old.bad_locations new.bad_locations f.locations.bad read locations
              was.locations
              x.bad_locations;
          listed = x.listed formed ∙ ap (λ (l : List (ℕ → List (List ℕ))). l ++ unit_lists s u) was.listed
              ∙ sym (ap (flat_map (unit_lists s)) (units_more s ws w u read) ∙ flat-more (unit_lists s) (units_of s ws) u);
          names = subst (AreNamesOf new.kept.lists.items new.named.items)
              (sym (ap (flat_map (unit_items s)) (units_more s ws w u read) ∙ flat-more (unit_items s) (units_of s ws) u))
              (x.names formed (flat_map (unit_items s) (units_of s ws)) was.names);
          indexes = indexes_more s locations_kind ws w u old.indexed.items new.indexed.items read indexes was.indexes;
        })

-- A unit whose entries can be read.
pub unit_added : (s : ListSections) (ws : List Walked) (w : Walked) (old mid new : PlaceProgress) (r : UnitReading) (es : Vec ListedEntry) →
    IsProgress s ws old → IsReading s.units.abbrevs s.units.addr w r → mid.bad_form ≡ lower old.bad_form r.bad_form →
    mid.bad_high ≡ lower old.bad_high r.bad_high → mid.unformed ≡ lower old.unformed r.unformed → mid.groups ≡ old.groups →
    mid.kept ≡ old.kept → mid.named ≡ old.named → mid.indexed ≡ old.indexed → mid.bad_ranges ≡ old.bad_ranges →
    mid.bad_locations ≡ old.bad_locations → mid.bad ≡ old.bad → old.bad ≡ None →
    r.entries ≡ Some es → IsUnitAdded s es.items w.place mid new → IsProgress s (ws ++ w ∷ []) new
unit_added s ws w old mid new r es are is form high unform groups kept named indexed ranges locations bad before some added =
    let behind = entries_by s w r (Some es) is some in
    let u = read_unit (unit_of s.units.abbrevs w) es.items behind.1 in
    let x : IsUnitPlaced s u.0 old.groups old.kept old.named.items new.groups new.kept new.named.items added.faults =
    subst (λ (g : Groups). IsUnitPlaced s u.0 g old.kept old.named.items new.groups new.kept new.named.items added.faults) groups
    (subst (λ (l : Locations). IsUnitPlaced s u.0 mid.groups l old.named.items new.groups new.kept new.named.items added.faults) kept
    (subst (λ (v : Vec NamedList). IsUnitPlaced s u.0 mid.groups mid.kept v.items new.groups new.kept new.named.items added.faults) named
    (unit_of_listed s u.0 es.items mid.groups new.groups mid.kept new.kept mid.named.items new.named.items added.faults u.2 added.placed)))
    in
    by_offset s ws w old new r are is (added.form ∙ form) (added.high ∙ high) (added.unformed_is
    ∙ unform) added.faults before behind.0 u.0 u.1 x
    (added.ranges ∙ ap (λ (o : Option ℕ). lower o added.faults.ranges.bad) ranges)
    (added.locations ∙ ap (λ (o : Option ℕ). lower o added.faults.locations.bad) locations)
    (added.indexes ∙ (λ i. (indexed i).items ++ unit_indexed locations_kind u.0 es.items u.2 i))
    (added.faults.ranges.lacks_offset || added.faults.locations.lacks_offset) refl
    (added.bad ∙ ap (λ (o : Option ℕ). if added.faults.ranges.lacks_offset || added.faults.locations.lacks_offset then Some w.place else o)
    bad)
