-- In sections of locations without a fault, all lists of both kinds to which entries refer can be read.
use Rattle.std.proofs.Common.{◌≡◌, ◌∙◌, ◌||◌, ◌++◌, [], ℕ, Bool, true, false, not, List, None, refl, sym, ap, map, filter}
use Rattle.std.specs.Prelude.{flat_map, option_map, Contains}
use Rattle.std.specs.List.{find}
use Rattle.std.specs.Option.{option_or, option_map_or}
use Rattle.rb_bytes.specs.FirstFault.{IsFree}
use Rattle.rb_bytes.proofs.Options.{both_none}
use Rattle.answer_runs.specs.Choices.{least}
use Rattle.table_core.specs.DebugUnits.{Walked, walked, first_place, other_version}
use Rattle.dw_unit.specs.CompUnits.{Entry, Unit, units, unit_of}
use Rattle.dw_unit.specs.Faults.{HasDwarfFault, unit_fault_places, is_bad, bad_address_table}
use Rattle.dw_unit.proofs.NewSections.{sound_units}
use Rattle.dw_unit.proofs.NoFaults.{AreAbsent, absent, free_of, none_least, both_nil, no_first}
use Rattle.dw_lists.specs.Faults.{ListSections, range_places, location_places, has_bad_offset, has_bad_offsets, lacks_offset}
use Rattle.dw_lists.specs.Faults.{bad_list_tables, bad_table, is_list_table}
use Rattle.dw_lists.specs.Lists.{Kind, ranges_kind, locations_kind}
use Rattle.range_loc_rewrite.proofs.SoundLists.{AreThere, none_found, found_none, units_there, there_units}
use Rattle.range_loc_rewrite.proofs.UnitsFree.{units_free, none_less}

or_parts : (a b : Bool) → (a || b) ≡ false → (a ≡ false) × (b ≡ false)
or_parts true b e = absurd (cc)
or_parts false b e = (refl, e)

-- The tables of a section with a fault of their own.
abbrev pub bad_of : List ℕ → List ℕ
bad_of section = map (λ (w : Walked). w.place) (filter (λ (w : Walked). not (option_map_or is_list_table w.bytes false)) (walked 5 section))

module _ (s : ListSections) where
  abbrev bad_lists : Walked → Bool
  bad_lists w = has_bad_offsets s w

  abbrev listed : Kind → List ℕ → List ℕ
  listed k section = flat_map (bad_list_tables k section s.units.addr) (units s.units)

  pub record ArePlacesFine : Type 0 where
    pub ranges : IsFree (HasDwarfFault (range_places s))
    pub there : (u : Unit) → Contains (units s.units) u → AreThere locations_kind s.locations s.units.addr u
        (flat_map (λ (e : Entry). e.attrs) u.entries)

  pub places_fine : IsFree (HasDwarfFault (location_places s)) → ArePlacesFine
  places_fine free =
      let none : AreAbsent (location_places s) = absent (location_places s) free in
      let unit : List Walked = walked 5 s.units.info in
      let version = both_none (option_or (other_version 5 s.units.info) (other_version 5 s.units.addr))
      (option_or (other_version 5 s.ranges) (other_version 5 s.locations)) none.version in
      let versions = both_none (other_version 5 s.ranges) (other_version 5 s.locations) version.1 in
      let bad = both_none (first_place (λ w. is_bad s.units w || bad_lists w) unit)
      (option_or (bad_address_table s.units.addr) (option_or (bad_table ranges_kind s.ranges s.units)
      (bad_table locations_kind s.locations s.units))) none.bad in
      let later = both_none (bad_address_table s.units.addr) (option_or (bad_table ranges_kind s.ranges s.units)
      (bad_table locations_kind s.locations s.units)) bad.1 in
      let tables = both_none (bad_table ranges_kind s.ranges s.units) (bad_table locations_kind s.locations s.units) later.1 in
      let of_locations = both_nil (bad_of s.locations) (listed locations_kind s.locations)
      (none_least (bad_of s.locations ++ listed locations_kind s.locations) tables.1) in
      let none_bad : find (λ w. is_bad s.units w || bad_lists w) unit ≡ None = no_first (λ w. is_bad s.units w || bad_lists w) unit bad.0 in
      let good : first_place (is_bad s.units) unit ≡ None = ap (option_map (λ (w : Walked). w.place))
      (none_less (is_bad s.units) bad_lists unit none_bad) in
      let free_units : IsFree (HasDwarfFault (unit_fault_places s.units)) =
      free_of (unit_fault_places s.units) (record {
        version = version.0;
        form = none.form;
        high = none.high;
        bad = (λ i. option_or (good i) (later.0 i));
      }) in
      let lacks : (u : Unit) → Contains (units s.units) u → (lacks_offset ranges_kind s.ranges u ≡ false)
      × (lacks_offset locations_kind s.locations u ≡ false) =
      λ u c.
      let p = none_found s bad_lists unit (units s.units) (sound_units s.units free_units) none_bad u c in
      let q = or_parts (has_bad_offset ranges_kind s.ranges (unit_of s.units.abbrevs p.0))
      (has_bad_offset locations_kind s.locations (unit_of s.units.abbrevs p.0)) p.2 in
      (sym (ap (has_bad_offset ranges_kind s.ranges) p.1) ∙ q.0, sym (ap (has_bad_offset locations_kind s.locations) p.1) ∙ q.1) in
      let found : find (λ w. is_bad s.units w || has_bad_offset ranges_kind s.ranges (unit_of s.units.abbrevs w)) unit ≡ None =
      found_none s (λ w. has_bad_offset ranges_kind s.ranges (unit_of s.units.abbrevs w)) unit (units s.units)
      (sound_units s.units free_units)
      (λ w u c is. ap (has_bad_offset ranges_kind s.ranges) is ∙ (lacks u c).0) in
      record {
        ranges = free_of (range_places s) (record {
          version = (λ i. option_or (version.0 i) (versions.0 i));
          form = none.form;
          high = none.high;
          bad = (λ i. option_or (option_map (λ (w : Walked). w.place) (found i)) (option_or (later.0 i) (tables.0 i)));
        });
        there = units_there locations_kind s.locations s.units.addr (units s.units) (λ u c. (lacks u c).1) of_locations.1;
      }

  -- The converse.
  pub fine_places : IsFree (HasDwarfFault (range_places s)) → other_version 5 s.locations ≡ None → bad_of s.locations ≡ [] →
      ((u : Unit) → Contains (units s.units) u → (e : Entry) → Contains u.entries e →
      AreThere locations_kind s.locations s.units.addr u e.attrs) →
      IsFree (HasDwarfFault (location_places s))
  fine_places free version tables there =
      let none : AreAbsent (range_places s) = absent (range_places s) free in
      let unit : List Walked = walked 5 s.units.info in
      let ranges : Walked → Bool = λ w. has_bad_offset ranges_kind s.ranges (unit_of s.units.abbrevs w) in
      let free_units = units_free s free in
      let versions = both_none (option_or (other_version 5 s.units.info) (other_version 5 s.units.addr))
      (other_version 5 s.ranges) none.version in
      let bad = both_none (first_place (λ w. is_bad s.units w || ranges w) unit)
      (option_or (bad_address_table s.units.addr) (bad_table ranges_kind s.ranges s.units)) none.bad in
      let later = both_none (bad_address_table s.units.addr) (bad_table ranges_kind s.ranges s.units) bad.1 in
      let p = there_units locations_kind s.locations s.units.addr (units s.units) there in
      let found : find (λ w. is_bad s.units w || bad_lists w) unit ≡ None =
      found_none s bad_lists unit (units s.units) (sound_units s.units free_units)
      (λ w u c is.
      let q = none_found s ranges unit (units s.units) (sound_units s.units free_units)
      (no_first (λ w. is_bad s.units w || ranges w) unit bad.0) u c in
      let left : has_bad_offset ranges_kind s.ranges (unit_of s.units.abbrevs w) ≡ false =
      ap (has_bad_offset ranges_kind s.ranges) (is ∙ sym q.1) ∙ q.2 in
      let right : has_bad_offset locations_kind s.locations (unit_of s.units.abbrevs w) ≡ false = ap
      (has_bad_offset locations_kind s.locations) is ∙ p.0 u c in
      (λ i. left i || right i)) in
      free_of (location_places s) (record {
        version = (λ i. option_or (versions.0 i) (option_or (versions.1 i) (version i)));
        form = none.form;
        high = none.high;
        bad = (λ i. option_or (option_map (λ (w : Walked). w.place) (found i))
            (option_or (later.0 i) (option_or (later.1 i) (least (tables i ++ p.1 i)))));
      })
