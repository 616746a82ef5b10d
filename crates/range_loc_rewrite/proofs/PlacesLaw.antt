-- In each file with the written tables of locations, and ranges that cover as before, all answers are as before, and no list is bad.
use Rattle.std.proofs.Common.{◌≡◌, ◌∙◌, ◌==◌, ◌&&◌, ◌||◌, ◌++◌, ◌∷◌, [], ℕ, Bool, true, false, List, Option, Some, None}
use Rattle.std.proofs.Common.{refl, sym, ap, subst, arith, length, map}
use Rattle.std.specs.Prelude.{flat_map, Contains, option_map, if◌then◌else◌, is_some}
use Rattle.std.specs.Global.{Vec}
use Rattle.std.specs.List.{AllZip}
use Rattle.std.proofs.lemmas.Bool.{eqb-true, eq-eqb}
use Rattle.std.proofs.lemmas.List.{map-append}
use Rattle.rb_bytes.specs.FirstFault.{IsFree}
use Rattle.addr_map.specs.declared.span.Span.{Span}
use Rattle.addr_map.specs.Spans.{owner}
use Rattle.answer_runs.specs.declared.range.Range.{Range}
use Rattle.answer_runs.specs.declared.run.Run.{Run}
use Rattle.table_core.specs.declared.written.ListAt.{ListAt}
use Rattle.table_core.specs.DebugUnits.{other_version}
use Rattle.table_core.specs.WrittenUnits.{units_bytes}
use Rattle.dw_unit.specs.declared.entry.Attr.{Attr}
use Rattle.dw_unit.specs.CompUnits.{Entry, Unit, units, attr, may_repeat}
use Rattle.dw_unit.specs.Changes.{is_first_of, is_own}
use Rattle.dw_unit.specs.ChangedEntries.{IsChangedEntry, IsChangedUnit, AreChangedUnits}
use Rattle.dw_unit.specs.EntryMoves.{Moves, new_list_offset}
use Rattle.dw_unit.specs.Faults.{HasDwarfFault}
use Rattle.dw_unit.proofs.EntryPlaces.{places_ascend}
use Rattle.answer_runs.proofs.Ascending.{Ascends}
use Rattle.dw_unit.proofs.SoundEntries.{IsSoundEntry, AreSoundUnits, all_sound}
use Rattle.cover_lists.specs.declared.kept_list.KeptList.{KeptList}
use Rattle.dw_lists.specs.declared.list_kind.ListKind.TheVariants.{Locations}
use Rattle.dw_lists.specs.declared.named_list.NamedList.{NamedList}
use Rattle.dw_lists.specs.declared.indexed_unit.IndexedUnit.{IndexedUnit}
use Rattle.dw_lists.specs.Faults.{ListSections, range_places, location_places}
use Rattle.list_units.specs.Listing.{all_items, IsNameOf}
use Rattle.dw_lists.specs.Lists.{ranges_kind, locations_kind, has_list}
use Rattle.dw_lists.specs.Locations.{entry_says, places_said, attr_says}
use Rattle.dw_lists.specs.Ranges.{Ranged, ranged_from, ranged_in, ranged, ranges_of, covering}
use Rattle.list_writer.specs.WrittenTables.{AreWritten}
use Rattle.range_loc_rewrite.proofs.ChangedAttrs.{changed, for_high, new_high, from_high, from_ranges}
use Rattle.range_loc_rewrite.proofs.EntriesStay.{high_some, list_some}
use Rattle.range_loc_rewrite.proofs.KeptLookups.{sound_at, no_bounds, all_of, place_of}
use Rattle.range_loc_rewrite.proofs.NearestStay.{place_in, HoldAlike, hold_alike, AlikeRanges, IsRangedAlike, ranged_alike, Split}
use Rattle.range_loc_rewrite.proofs.NearestStay.{zip_split}
use Rattle.dw_lists.proofs.OwnRanges.{listed_ranges}
use Rattle.range_loc_rewrite.proofs.PlacesStay.{AreSpelled, Same, same}
use Rattle.range_loc_rewrite.proofs.RangesLaw.{given_by}
use Rattle.list_writer.proofs.PutEntries.{flat_has}
use Rattle.range_loc_rewrite.proofs.RangesStay.{found_name, found_there, SoundTests, tests_of}
use Rattle.range_loc_rewrite.proofs.SoundLists.{IsThere, AreThere, AreFine, lists_fine}
use Rattle.range_loc_rewrite.proofs.SoundPlaces.{ArePlacesFine, places_fine, fine_places, bad_of}
use Rattle.range_loc_rewrite.proofs.TableFaults.{no_other, no_bad}
use Rattle.range_loc_rewrite.proofs.UnitsFree.{units_free}
use Rattle.list_units.proofs.Zips.{zip_with, zip_right}

-- Entries have ranges if they had some

is_some_by : {X : Type 0} (o : Option X) → (o ≡ None → ⊥) → is_some o ≡ true
is_some_by None none = absurd (none refl)
is_some_by (Some x) none = refl

both_true : (x y : Bool) → x ≡ true → y ≡ true → (x && y) ≡ true
both_true true y f g = g
both_true false y f g = absurd (cc)

module _ (s t : ListSections) (m : Moves) (u v : Unit) (d e : Entry) (c : IsChangedEntry s.units t.units.info m (is_first_of u d) d e)
    (old : IsSoundEntry s.units.addr u d) (new : IsSoundEntry t.units.addr v e) (fine_old : AreFine s u d.attrs)
    (fine_new : AreFine t v e.attrs) where
  abbrev made : Attr → Attr
  made = changed m (is_own s.units d.declaration) (is_first_of u d) d

  none_high : attr 0x12 e ≡ None
  none_high = new_high s.units t.units.info m (is_first_of u d) d e c

  new_some : (a : Attr) → attr 0x55 e ≡ Some a → has_list ranges_kind a ≡ true → is_some (ranges_of t v e) ≡ true
  new_some a is h = is_some_by (ranges_of t v e) (list_some t v e a none_high is (fine_new a (found_there 0x55 e.attrs a is) h))

  named_list : (a : Attr) → attr 0x55 d ≡ Some a → has_list ranges_kind a ≡ true
  named_list a is =
      let tests : SoundTests s.units.addr u a = tests_of s.units.addr u d 0x55 a old is in
      let name : (a.name == 0x55) ≡ true = eq-eqb a.name 0x55 (found_name 0x55 d.attrs a is) in
      both_true (a.name == 0x55) (a.form == 0x17 || a.form == 0x23) name (tests.ranges name)

  pub ranges_some : is_some (ranges_of t v e) ≡ is_some (ranges_of s u d)
  ranges_some = by_high (attr 0x12 d) refl
    where
      by_ranges : attr 0x12 d ≡ None → (o : Option Attr) → attr 0x55 d ≡ o → is_some (ranges_of t v e) ≡ is_some (ranges_of s u d)
      by_ranges high None is =
          let none : attr 0x55 e ≡ None = from_ranges s.units t.units.info m (is_first_of u d) d e c high ∙ ap (option_map made) is in
          ap (λ (o : Option (List Range)). is_some o) (no_bounds t v e none_high ∙ ap (listed_ranges t v) none)
          ∙ sym (ap (λ (o : Option (List Range)). is_some o) (no_bounds s u d high ∙ ap (listed_ranges s u) is))
      by_ranges high (Some a) is =
          let there : attr 0x55 e ≡ Some (made a) = from_ranges s.units t.units.info m (is_first_of u d) d e c high
          ∙ ap (option_map made) is in
          let listed : has_list ranges_kind (made a) ≡ true =
          both_true ((made a).name == 0x55) (a.form == 0x17 || a.form == 0x23)
          (eq-eqb (made a).name 0x55 (found_name 0x55 e.attrs (made a) there))
          ((tests_of s.units.addr u d 0x55 a old is).ranges (eq-eqb a.name 0x55 (found_name 0x55 d.attrs a is))) in
          new_some (made a) there listed
          ∙ sym (is_some_by (ranges_of s u d) (list_some s u d a high is (fine_old a (found_there 0x55 d.attrs a is) (named_list a is))))

      by_high : (o : Option Attr) → attr 0x12 d ≡ o → is_some (ranges_of t v e) ≡ is_some (ranges_of s u d)
      by_high None is = by_ranges is (attr 0x55 d) refl
      by_high (Some h) is =
          let none : attr 0x55 d ≡ None = old.ranges h is in
          new_some (for_high m (is_own s.units d.declaration) (is_first_of u d) d h)
          (from_high s.units t.units.info m (is_first_of u d) d e c h is none) refl
          ∙ sym (is_some_by (ranges_of s u d) (high_some s u d h is (old.low h is)))

-- Offsets of entries and of ranged entries

places_from : (own : Entry → Option (List Range)) (before es : List Entry) → map place_in (ranged_from own before es) ≡ map place_of es
places_from own before [] = refl
places_from own before (e ∷ es) = ap (λ (l : List ℕ). e.place ∷ l) (places_from own (e ∷ before) es)

places_all : (s : ListSections) (us : List Unit) → map place_in (flat_map (ranged_in s) us) ≡ map place_of (all_of us)
places_all s [] = refl
places_all s (u ∷ us) =
    map-append place_in (ranged_in s u) (flat_map (ranged_in s) us)
    ∙ (λ i. places_from (ranges_of s u) [] u.entries i ++ places_all s us i)
    ∙ sym (map-append place_of u.entries (all_of us))

ranged_size : (own : Entry → Option (List Range)) (before es : List Entry) → length (ranged_from own before es) ≡ length es
ranged_size own before [] = refl
ranged_size own before (e ∷ es) = let h = ranged_size own (e ∷ before) es in omega (arith, h)

module _ (s t : ListSections) (spans : List Span) (m : Moves) (lists : List KeptList) (bs : List (Vec ℕ)) (named : List NamedList)
    (bytes : List ℕ) (names : List ListAt)
    (free : IsFree (HasDwarfFault (location_places s))) (items : AllZip (IsNameOf lists) named (all_items s))
    (us : List IndexedUnit) (w : AreWritten Locations bs named us bytes names)
    (table : t.locations ≡ bytes) (free_ranges : IsFree (HasDwarfFault (range_places t))) (covered : (p o : ℕ) → owner spans p ≡ Some o →
    covering t p ≡ covering s o)
    (changes : AreChangedUnits s.units m t.units)
    (listed : (l : ListAt) → Contains names l → new_list_offset m.lists l.entry l.attr ≡ Some l.offset)
    (runs : ℕ → List (Run (List (List ℕ)))) (spelled : AreSpelled lists bs spans runs named) where
  locations_are : t.locations ≡ units_bytes w.tables
  locations_are = table ∙ w.bytes_are

  fine : ArePlacesFine s
  fine = places_fine s free

  sound_old : AreSoundUnits s.units.addr (units s.units)
  sound_old = all_sound s.units (units_free s fine.ranges)

  sound_new : AreSoundUnits t.units.addr (units t.units)
  sound_new = all_sound t.units (units_free t free_ranges)

  up : Ascends 0 (map place_of (all_of (units s.units)))
  up = places_ascend s.units (units_free s fine.ranges)

  record EntryStays (u v : Unit) (d e : Entry) : Type 0 where
    pub place : e.place ≡ d.place
    pub depth : e.depth ≡ d.depth
    pub some : is_some (ranges_of t v e) ≡ is_some (ranges_of s u d)
    pub location : Same s t spans m w.tables w.units locations_are lists bs named names items (given_by names m.lists listed) w.each runs
        spelled sound_old up fine.there u v d e 0x02
    pub frame_base : Same s t spans m w.tables w.units locations_are lists bs named names items (given_by names m.lists listed) w.each runs
        spelled sound_old up fine.there u v d e 0x40

  entries_stay : (u v : Unit) → Contains (units s.units) u → Contains (units t.units) v → IsChangedUnit s.units t.units.info m u v →
      AllZip (EntryStays u v) u.entries v.entries
  entries_stay u v uc vc c =
      zip_with (λ d e. IsChangedEntry s.units t.units.info m (is_first_of u d) d e) (EntryStays u v) u.entries v.entries c.entries
      (λ d e dc ec x. record {
        place = x.place;
        depth = x.depth;
        some = ranges_some s t m u v d e x (sound_at s.units.addr (units s.units) u d sound_old uc dc)
            (sound_at t.units.addr (units t.units) v e sound_new vc ec)
            (λ a ac h. lists_fine s fine.ranges u uc a (flat_has (λ (e : Entry). e.attrs) u.entries d a dc ac) h)
            (λ a ac h. lists_fine t free_ranges v vc a (flat_has (λ (e : Entry). e.attrs) v.entries e a ec ac) h);
        location = same s t spans m w.tables w.units locations_are lists bs named names items (given_by names m.lists listed) w.each runs
            spelled sound_old up fine.there u v uc
            c.entries d e dc x 0x02 refl;
        frame_base = same s t spans m w.tables w.units locations_are lists bs named names items (given_by names m.lists listed) w.each runs
            spelled sound_old up fine.there u v uc
            c.entries d e dc x 0x40 refl;
      })

  record UnitStays (u v : Unit) : Type 0 where
    pub in_new : Contains (units t.units) v
    pub entries : AllZip (EntryStays u v) u.entries v.entries

  all_stay : AllZip UnitStays (units s.units) (units t.units)
  all_stay =
      zip_with (IsChangedUnit s.units t.units.info m) UnitStays (units s.units) (units t.units) changes
      (λ u v uc vc c. record { in_new = vc; entries = entries_stay u v uc vc c })

  -- At an address

  module _ (p o : ℕ) (owned : owner spans p ≡ Some o) where
    -- Entries contain the addresses alike.
    held_from : (u v : Unit) (before after ds es : List Entry) →
        AllZip (HoldAlike o p) (ranged_from (ranges_of s u) before ds) (ranged_from (ranges_of t v) after es) →
        AllZip (EntryStays u v) ds es →
        AllZip (AlikeRanges (ranges_of s u) (ranges_of t v) o p) ds es
    held_from u v before after [] [] h z = tt
    held_from u v before after [] (e ∷ es) h z = absurd z
    held_from u v before after (d ∷ ds) [] h z = absurd z
    held_from u v before after (d ∷ ds) (e ∷ es) h z =
        (record { depth = z.0.depth; some = z.0.some; held = h.0.held }, held_from u v (d ∷ before) (e ∷ after) ds es h.1 z.1)

    -- Entries give the same answers.
    says_alike : (u v : Unit) (xs ys : List Ranged) → AllZip (IsRangedAlike (ranges_of s u) (ranges_of t v) o p (EntryStays u v)) xs ys →
        flat_map (entry_says t v p) ys ≡ flat_map (entry_says s u o) xs
    says_alike u v [] [] z = refl
    says_alike u v [] (y ∷ ys) z = absurd z
    says_alike u v (x ∷ xs) [] z = absurd z
    says_alike u v (x ∷ xs) (y ∷ ys) z =
        (λ i. (attr_says (z.0.entries.place i) 0x02 (if z.0.held i then z.0.entries.location.said p o owned i else [])
        ++ attr_says (z.0.entries.place i) 0x40 (if z.0.held i then z.0.entries.frame_base.said p o owned i else []))
        ++ says_alike u v xs ys z.1 i)

    zip_size : (u v : Unit) (ds es : List Entry) → AllZip (EntryStays u v) ds es → length es ≡ length ds
    zip_size u v [] [] z = refl
    zip_size u v [] (e ∷ es) z = absurd z
    zip_size u v (d ∷ ds) [] z = absurd z
    zip_size u v (d ∷ ds) (e ∷ es) z = let h = zip_size u v ds es z.1 in omega (arith, h)

    units_alike : (us vs : List Unit) → AllZip UnitStays us vs →
        AllZip (HoldAlike o p) (flat_map (ranged_in s) us) (flat_map (ranged_in t) vs) →
        flat_map (λ (v : Unit). flat_map (entry_says t v p) (ranged_in t v)) vs ≡ flat_map
        (λ (u : Unit). flat_map (entry_says s u o) (ranged_in s u)) us
    units_alike [] [] z h = refl
    units_alike [] (v ∷ vs) z h = absurd z
    units_alike (u ∷ us) [] z h = absurd z
    units_alike (u ∷ us) (v ∷ vs) z h =
        let sizes : length (ranged_in t v) ≡ length (ranged_in s u) =
        ranged_size (ranges_of t v) [] v.entries ∙ zip_size u v u.entries v.entries z.0.entries
        ∙ sym (ranged_size (ranges_of s u) [] u.entries) in
        let k : Split (HoldAlike o p) (ranged_in s u) (ranged_in t v) (flat_map (ranged_in s) us) (flat_map (ranged_in t) vs) =
        zip_split (HoldAlike o p) (ranged_in s u) (ranged_in t v) (flat_map (ranged_in s) us) (flat_map (ranged_in t) vs) sizes h in
        let alike : AllZip (AlikeRanges (ranges_of s u) (ranges_of t v) o p) u.entries v.entries = held_from u v [] [] u.entries v.entries
        k.front z.0.entries in
        (λ i. says_alike u v (ranged_in s u) (ranged_in t v)
        (ranged_alike (ranges_of s u) (ranges_of t v) o p (EntryStays u v) [] [] u.entries v.entries tt alike z.0.entries) i
        ++ units_alike us vs z.1 k.back i)

    places_same : (u v : Unit) (ds es : List Entry) → AllZip (EntryStays u v) ds es → map place_of es ≡ map place_of ds
    places_same u v [] [] z = refl
    places_same u v [] (e ∷ es) z = absurd z
    places_same u v (d ∷ ds) [] z = absurd z
    places_same u v (d ∷ ds) (e ∷ es) z = (λ i. z.0.place i ∷ places_same u v ds es z.1 i)

    all_same : (us vs : List Unit) → AllZip UnitStays us vs → map place_of (all_of vs) ≡ map place_of (all_of us)
    all_same [] [] z = refl
    all_same [] (v ∷ vs) z = absurd z
    all_same (u ∷ us) [] z = absurd z
    all_same (u ∷ us) (v ∷ vs) z =
        map-append place_of v.entries (all_of vs) ∙ (λ i. places_same u v u.entries v.entries z.0.entries i ++ all_same us vs z.1 i)
        ∙ sym (map-append place_of u.entries (all_of us))

    pub new_places : places_said t p ≡ places_said s o
    new_places =
        let here : map place_in (ranged s) ≡ map place_of (all_of (units s.units)) = places_all s (units s.units) in
        units_alike (units s.units) (units t.units) all_stay
        (hold_alike 0 o p (ranged s) (ranged t) (subst (Ascends 0) (sym here) up)
        (places_all t (units t.units) ∙ all_same (units s.units) (units t.units) all_stay ∙ sym here) (covered p o owned))

  -- Each list can be read

  there : (v : Unit) → Contains (units t.units) v → (e : Entry) → Contains v.entries e →
      AreThere locations_kind t.locations t.units.addr v e.attrs
  there v vc e ec x xc h =
      let p = zip_right UnitStays (units s.units) (units t.units) v all_stay vc in
      let q = zip_right (EntryStays p.0 v) p.0.entries v.entries e p.2.entries ec in
      let sound : IsSoundEntry t.units.addr v e = sound_at t.units.addr (units t.units) v e sound_new vc ec in
      by_name q.0 p.0 q.2 sound (x.name == 0x02) (x.name == 0x40) refl refl
      (first (x.name == 0x02 || x.name == 0x40) (x.form == 0x17 || x.form == 0x22) h)
    where
      first : (b c : Bool) → (b && c) ≡ true → b ≡ true
      first true c f = refl
      first false c f = absurd (cc)

      by_name : (d : Entry) → (u : Unit) → EntryStays u v d e → IsSoundEntry t.units.addr v e → (b c : Bool) → (x.name == 0x02) ≡ b →
          (x.name == 0x40) ≡ c → (b || c) ≡ true →
          IsThere locations_kind t.locations t.units.addr v x
      by_name d u z sound true c f g k =
          let name : x.name ≡ 0x02 = eqb-true x.name 0x02 f in
          z.location.there x (subst (λ (n : ℕ). attr n e ≡ Some x) name (sound.sole x xc (ap may_repeat name))) h
      by_name d u z sound false true f g k =
          let name : x.name ≡ 0x40 = eqb-true x.name 0x40 g in
          z.frame_base.there x (subst (λ (n : ℕ). attr n e ≡ Some x) name (sound.sole x xc (ap may_repeat name))) h
      by_name d u z sound false false f g k = absurd (cc)

  pub new_free : IsFree (HasDwarfFault (location_places t))
  new_free =
      fine_places t free_ranges (ap (other_version 5) locations_are ∙ no_other w.tables w.units) (ap bad_of locations_are
      ∙ no_bad w.tables w.units w.sound) there
