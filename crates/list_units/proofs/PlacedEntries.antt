-- Entries of a unit with their ranges and locations, with one more entry.
use Rattle.std.proofs.Common.{◌≡◌, ◌∙◌, ◌+◌, ◌<◌, ◌≤◌, ◌++◌, ◌∷◌, [], ℕ, true, false, List, Option, None, BTreeMap, refl, sym, ap, subst}
use Rattle.std.proofs.Common.{arith, length, reverse, append-nil, append_assoc, map, get_or, take, drop}
use Rattle.std.proofs.lemmas.Bool.{and_parts}
use Rattle.std.proofs.lemmas.List.{drop_all, drop_more, take_all, take_more, map_push, reverse-append}
use Rattle.dw_unit.proofs.UnitReadings.{flat-more}
use Rattle.std.specs.Prelude.{if◌then◌else◌, flat_map, filter_map}
use Rattle.std.specs.BTreeMap.{IsEmpty}
use Rattle.std.specs.Option.{option_or, option_map_or}
use Rattle.std.proofs.lemmas.List.Elements.{All-weaker}
use Rattle.std.proofs.lemmas.List.Folds.{list_all-append}
use Rattle.answer_runs.specs.declared.range.Range.{Range}
use Rattle.answer_runs.specs.Choices.{first_of}
use Rattle.dw_unit.specs.declared.attribute.TheConstants.{DW_AT_location, DW_AT_frame_base}
use Rattle.dw_unit.specs.declared.entry.Attr.{Attr}
use Rattle.dw_unit.specs.CompUnits.{Entry, Unit, attr, enclosing}
use Rattle.dw_unit.specs.ListedEntries.{ListedEntry}
use Rattle.dw_unit.specs.ListedUnits.{plain, plain_unit}
use Rattle.cover_lists.specs.declared.groups.Groups.{Groups}
use Rattle.list_units.specs.declared.located_attr.Locations.{Locations}
use Rattle.list_units.specs.declared.placing.UnitFaults.{UnitFaults}
use Rattle.list_units.specs.declared.placing.UnitState.{UnitState}
use Rattle.dw_lists.specs.declared.named_list.NamedList.{NamedList}
use Rattle.dw_lists.specs.Faults.{ListSections}
use Rattle.cover_lists.specs.Groups.{Grow, AreNumbered, HasRanges}
use Rattle.list_units.specs.declared.open_entries.OpenEntry.{OpenEntry}
use Rattle.cover_lists.specs.KeptLists.{IsNumberOf, all_say}
use Rattle.dw_lists.specs.KnownLists.{location_list, AreKnown, AreNoted, IsGroupOf, range_list}
use Rattle.dw_lists.specs.Lists.{ranges_kind, locations_kind}
use Rattle.dw_lists.specs.Locations.{entry_says, expressions_of, PlaceSaid, attr_says}
use Rattle.list_units.specs.Listing.{AreNamesOf, HasMore, entry_items}
use Rattle.list_units.specs.OpenEntries.{AreOpen, chain, closed, nearest}
use Rattle.list_units.specs.Placing.{ArePlaced, IsUnitPlaced}
use Rattle.dw_lists.specs.Ranges.{ranges_of, ranged_from}
use Rattle.list_units.specs.ReadLists.{firsts, read_at, offsets_in, AreListed, is_formed, are_formed}
use Rattle.list_units.specs.UnitLocations.{AreLocated, AreHeld, IsHeld, all_located, entry_said}
use Rattle.list_units.proofs.Gathered.{plain_attrs}
use Rattle.cover_lists.proofs.GroupFacts.{grow_none, grow_more}
use Rattle.list_units.proofs.LocationFacts.{grown_same, read_more, read_none}
use Rattle.dw_lists.proofs.NotedLists.{lacks_all, bad_all}
use Rattle.list_units.proofs.OpenFacts.{entered, still_open}
use Rattle.dw_lists.proofs.RangeLists.{none_with}
use Rattle.list_units.proofs.ReadListFacts.{listed_none}

module _ (s : ListSections) (u : Unit) (e : Entry) (before : List Entry) where
  abbrev nearest_ranges : Option (List Range)
  nearest_ranges = first_of (filter_map (ranges_of s u) (e ∷ enclosing e.depth before))

  -- The answer if the nearest ranges are a group's.
  said_here : (g : Groups) (n : Option ℕ) (p : ℕ) → HasRanges g n nearest_ranges → entry_said s u g.covers.items n e p
      ≡ entry_says s u p (record { entry = e; own = ranges_of s u e; nearest = nearest_ranges })
  said_here g n p has =
      (λ i. attr_says e.place DW_AT_location (if has.holds p i then option_map_or (λ v. expressions_of s u v p)
      (attr DW_AT_location e) [] else [])
      ++ attr_says e.place DW_AT_frame_base (if has.holds p i then option_map_or (λ v. expressions_of s u v p)
      (attr DW_AT_frame_base e) [] else []))

module _ (s : ListSections) (u : Unit) (first : Groups) (old : Locations) (before : List NamedList) (e : Entry) (done rest : List Entry)
    (attrs : List Attr) where
  pub placed_next : (g mid new : Groups) (kept newer : Locations) (named more : List NamedList) (state after : UnitState)
      (others f : UnitFaults)
      (was : BTreeMap ℕ (Option ℕ))
      (own n : Option ℕ) → ArePlaced s u first old before g kept named state done (e ∷ rest) attrs others →
      Grow g mid × AreKnown (range_list s u) mid was × AreNoted ranges_kind s.ranges s.units.addr u (attrs ++ e.attrs) f.ranges →
      Grow mid new × AreKnown (range_list s u) new after.ranges × HasRanges new own (ranges_of s u e) →
      n ≡ option_or own (nearest (closed e.depth (reverse state.entries.items))) →
      reverse after.entries.items ≡ record { depth = e.depth; nearest = n } ∷ closed e.depth (reverse state.entries.items) →
      AreLocated s u n kept newer after.locations (λ covers p. entry_said s u covers n e p)
      × AreNoted locations_kind s.locations s.units.addr u (attrs ++ e.attrs) f.locations →
      (are_formed e.attrs ≡ true → AreListed s u (offsets_in s u attrs) old.lists.items kept.lists.items state.locations →
      AreListed s u (offsets_in s u (attrs ++ e.attrs)) old.lists.items newer.lists.items after.locations) →
      (are_formed e.attrs ≡ true → HasMore kept.lists.items newer.lists.items named more (entry_items s u e)) →
      ArePlaced s u first old before new newer more after (e ∷ done) rest (attrs ++ e.attrs) f
  placed_next g mid new kept newer named more state after others f was own n x noted owned is opened located listed names =
      let grow : Grow g new = grow_more g mid new noted.0 owned.0 in
      let entry = entered (ranges_of s u) new e done (reverse state.entries.items) (reverse after.entries.items) own n
      (still_open (ranges_of s u) g new (chain done) (reverse state.entries.items) grow x.are_open) owned.2 is opened in
      let held : AreHeld new.count kept = All-weaker (IsHeld g.count (length kept.lists.items)) (IsHeld new.count (length kept.lists.items))
      (λ l h. (omega (arith, h.0, grow.count), h.1)) kept.located.items x.held in
      record {
        grow = grow_more first g new x.grow grow;
        known_are = owned.1;
        read = read_more s u old.lists.items kept.lists.items newer.lists.items state.locations after.locations x.read located.0.read;
        listed = λ formed.
            let both = and_parts (are_formed attrs) (are_formed e.attrs) (sym (list_all-append is_formed attrs e.attrs) ∙ formed) in
            listed both.1 (x.listed both.0);
        held = located.0.held new.count entry.0.within held;
        says = λ p.
            let now : all_located new.covers.items newer.lists.items newer.located.items p
            ≡ all_located g.covers.items kept.lists.items kept.located.items p
            ++ entry_says s u p (record { entry = e; own = ranges_of s u e; nearest = nearest_ranges s u e done }) =
            located.0.says new.count new.covers.items p entry.0.within held
            ∙ (λ i. grown_same g new kept.lists.items kept.located.items (length kept.lists.items) p grow x.held i
            ++ said_here s u e done new n p entry.0 i) in
            ap (λ (l : List PlaceSaid). l ++ flat_map (entry_says s u p) (ranged_from (ranges_of s u) (e ∷ done) rest)) now
            ∙ append_assoc (all_located g.covers.items kept.lists.items kept.located.items p)
            (entry_says s u p (record { entry = e; own = ranges_of s u e; nearest = nearest_ranges s u e done }))
            (flat_map (entry_says s u p) (ranged_from (ranges_of s u) (e ∷ done) rest))
            ∙ x.says p;
        names = λ formed items z.
            let both = and_parts (are_formed attrs) (are_formed e.attrs) (sym (list_all-append is_formed attrs e.attrs) ∙ formed) in
            let m = x.names both.0 items z in (
              m.0 ++ entry_items s u e,
              names both.1 m.0 m.1,
              append_assoc m.0 (entry_items s u e) (flat_map (entry_items s u) rest) ∙ m.2,
            );
        are_open = entry.1;
        ranges_noted = noted.2;
        locations_noted = located.1;
      }

-- Nothing is added yet.
pub placed_none : (s : ListSections) (u : Unit) (first : Groups) (old : Locations) (before : List NamedList) (state : UnitState)
    (f : UnitFaults) →
    AreNumbered first →
    AreHeld first.count old → IsEmpty state.ranges → IsEmpty state.locations → state.entries.items ≡ [] →
    f ≡ record { ranges = record { lacks_offset = false; bad = None }; locations = record { lacks_offset = false; bad = None } } →
    ArePlaced s u first old before first old before state [] u.entries [] f
placed_none s u first old before state f numbered held no_ranges no_locations none is = record {
  grow = grow_none first numbered;
  known_are = none_with (λ (at : ℕ) (o : Option ℕ). IsGroupOf first o (range_list s u at)) state.ranges no_ranges;
  read = read_none s u old.lists.items state.locations
      (none_with (λ (at : ℕ) (o : Option ℕ). IsNumberOf old.lists.items o (location_list s u at)) state.locations no_locations);
  listed = λ formed. listed_none s u old.lists.items state.locations no_locations;
  held = held;
  says = λ p. refl;
  names = λ formed items z. (items, z, refl);
  are_open = subst (λ (os : List OpenEntry). AreOpen (ranges_of s u) first [] (reverse os)) (sym none) tt;
  ranges_noted = subst (λ (f : UnitFaults). AreNoted ranges_kind s.ranges s.units.addr u [] f.ranges) (sym is)
      (record { lacks = refl; bad = refl });
  locations_noted = subst (λ (f : UnitFaults). AreNoted locations_kind s.locations s.units.addr u [] f.locations) (sym is)
      (record { lacks = refl; bad = refl });
}

-- All entries of a unit are added.
pub unit_placed : (s : ListSections) (es : List ListedEntry) (first g : Groups) (old kept : Locations) (before named : List NamedList)
    (state : UnitState)
    (done : List Entry)
    (f : UnitFaults) → ArePlaced s (plain_unit es) first old before g kept named state done [] (flat_map (λ (e : ListedEntry). e.attrs) es)
    f →
    IsUnitPlaced s (plain_unit es) first old before g kept named f
unit_placed s es first g old kept before named state done f x =
    let attrs : List Attr = flat_map (λ (e : ListedEntry). e.attrs) es in
    record {
      grow = x.grow;
      held = x.held;
      says = λ p. sym (append-nil (all_located g.covers.items kept.lists.items kept.located.items p)) ∙ x.says p;
      listed = λ formed.
          (x.listed (ap are_formed (sym (plain_attrs es)) ∙ formed)).kept
          ∙ ap (λ (l : List Attr). all_say old.lists.items ++ read_at s (plain_unit es) (firsts (offsets_in s (plain_unit es) l)))
          (sym (plain_attrs es));
      names = λ formed items z.
          let m = x.names (ap are_formed (sym (plain_attrs es)) ∙ formed) items z in
          subst (AreNamesOf kept.lists.items named) (sym (append-nil m.0) ∙ m.2) m.1;
      lacks_ranges = lacks_all ranges_kind s.ranges s.units.addr (plain_unit es) attrs f.ranges (plain_attrs es) x.ranges_noted;
      bad_ranges = bad_all ranges_kind s.ranges s.units.addr (plain_unit es) attrs f.ranges (plain_attrs es) x.ranges_noted;
      lacks_locations = lacks_all locations_kind s.locations s.units.addr (plain_unit es) attrs f.locations
          (plain_attrs es) x.locations_noted;
      bad_locations = bad_all locations_kind s.locations s.units.addr (plain_unit es) attrs f.locations (plain_attrs es) x.locations_noted;
    }

-- The next of the listed entries

module _ (s : ListSections) (u : Unit) (first : Groups) (old : Locations) (before : List NamedList) (g : Groups) (kept : Locations)
    (named : List NamedList) (state : UnitState) (f : UnitFaults)
    (es : List ListedEntry) (n : ℕ) where
  module _ (x : ListedEntry) (lt : n < length es) (is : x ≡ get_or es n x) where
    pub placed_front : (done : List Entry) (attrs : List Attr) →
        ArePlaced s u first old before g kept named state done (map plain (drop n es)) attrs f →
        ArePlaced s u first old before g kept named state done (plain x ∷ map plain (drop (n + 1) es)) attrs f
    placed_front done attrs placed =
        subst (λ (l : List ListedEntry). ArePlaced s u first old before g kept named state done (map plain l) attrs f)
        (drop_more es n x lt ∙ ap (λ (x : ListedEntry). x ∷ drop (n + 1) es) (sym is)) placed

    pub placed_item : (rest : List Entry) → ArePlaced s u first old before g kept named state (plain x ∷ reverse (map plain (take n es)))
        rest
        (flat_map (λ (e : ListedEntry). e.attrs) (take n es) ++ x.attrs) f →
        ArePlaced s u first old before g kept named state (reverse (map plain (take (n + 1) es))) rest
        (flat_map (λ (e : ListedEntry). e.attrs) (take (n + 1) es)) f
    placed_item rest placed =
        let more : take (n + 1) es ≡ take n es ++ x ∷ [] = take_more es n x lt ∙ ap (λ (x : ListedEntry). take n es ++ x ∷ []) (sym is) in
        let done : plain x ∷ reverse (map plain (take n es)) ≡ reverse (map plain (take (n + 1) es)) =
        sym (ap (λ (l : List ListedEntry). reverse (map plain l)) more ∙ ap (λ (l : List Entry). reverse l) (map_push plain (take n es) x)
        ∙ reverse-append (map plain (take n es)) (plain x ∷ [])) in
        let attrs : flat_map (λ (e : ListedEntry). e.attrs) (take n es) ++ x.attrs
        ≡ flat_map (λ (e : ListedEntry). e.attrs) (take (n + 1) es) =
        sym (ap (flat_map (λ (e : ListedEntry). e.attrs)) more ∙ flat-more (λ (e : ListedEntry). e.attrs) (take n es) x) in
        subst (λ (l : List Attr). ArePlaced s u first old before g kept named state (reverse (map plain (take (n + 1) es))) rest l f) attrs
        (subst (λ (l : List Entry). ArePlaced s u first old before g kept named state l rest
        (flat_map (λ (e : ListedEntry). e.attrs) (take n es)
        ++ x.attrs) f)
        done placed)

  pub placed_all : (done : List Entry) → length es ≤ n →
      ArePlaced s u first old before g kept named state done (map plain (drop n es)) (flat_map (λ (e : ListedEntry). e.attrs) (take n es)) f
      →
      ArePlaced s u first old before g kept named state done [] (flat_map (λ (e : ListedEntry). e.attrs) es) f
  placed_all done le placed =
      subst (λ (l : List ListedEntry). ArePlaced s u first old before g kept named state done [] (flat_map (λ (e : ListedEntry). e.attrs) l)
      f)
      (take_all n es le)
      (subst (λ (l : List ListedEntry). ArePlaced s u first old before g kept named state done (map plain l)
      (flat_map (λ (e : ListedEntry). e.attrs) (take n es)) f)
      (drop_all n es le) placed)
