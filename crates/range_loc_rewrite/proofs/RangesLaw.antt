-- In each file with the written tables, entries cover the new code as they covered the old, and no list is bad.
use Rattle.std.proofs.Common.{◌≡◌, ◌∙◌, ◌==◌, ◌&&◌, ◌++◌, ◌∷◌, [], ℕ, Bool, true, false, List, Option, Some, None, refl, sym, ap}
use Rattle.std.proofs.Common.{subst, arith, map, filter, All}
use Rattle.std.specs.Prelude.{flat_map, Contains, option_map, option_and_then, if◌then◌else◌, IsSome, is_some, not, filter_map}
use Rattle.std.specs.List.{find, AllZip}
use Rattle.std.specs.Option.{option_map_or}
use Rattle.std.proofs.lemmas.Bool.{eqb-true}
use Rattle.std.proofs.lemmas.List.{map-append}
use Rattle.std.proofs.lemmas.List.Elements.{filter-append}
use Rattle.rb_bytes.proofs.Members.{Contains-there}
use Rattle.rb_bytes.specs.FirstFault.{IsFree}
use Rattle.addr_map.specs.declared.span.Span.{Span}
use Rattle.addr_map.specs.Spans.{owner}
use Rattle.answer_runs.specs.declared.range.Range.{Range}
use Rattle.answer_runs.specs.declared.run.Run.{Run}
use Rattle.answer_runs.specs.AnswerRuns.{run_at, carried}
use Rattle.answer_runs.specs.CarriedAnswers.{Agree, IsCarried}
use Rattle.answer_runs.specs.Choices.{first_of, unless_empty}
use Rattle.table_core.specs.declared.written.ListAt.{ListAt}
use Rattle.table_core.specs.DebugUnits.{Walked, walked, other_version}
use Rattle.table_core.specs.WrittenUnits.{units_bytes}
use Rattle.dw_unit.specs.CompUnits.{Entry, Unit, units, enclosing}
use Rattle.dw_unit.specs.Changes.{is_first_of}
use Rattle.dw_unit.specs.ChangedEntries.{IsChangedEntry, IsChangedUnit, AreChangedUnits}
use Rattle.dw_unit.specs.EntryMoves.{Moves, is_list_of, new_list_offset}
use Rattle.dw_unit.specs.Faults.{HasDwarfFault, unit_fault_places}
use Rattle.dw_unit.proofs.EntryPlaces.{places_ascend}
use Rattle.dw_unit.proofs.SoundEntries.{all_sound}
use Rattle.cover_lists.specs.declared.cover_tree.Cover.{Cover}
use Rattle.cover_lists.specs.declared.groups.RangedEntry.{RangedEntry}
use Rattle.dw_lists.specs.declared.list_kind.ListKind.TheVariants as kind
use Rattle.dw_lists.specs.Faults.{ListSections, range_places, is_list_table}
use Rattle.list_units.specs.Gathering.{seen_kept}
use Rattle.list_writer.specs.ListBytes.{IsWritable}
use Rattle.list_units.specs.RangeReading.{all_seen}
use Rattle.dw_lists.specs.Ranges.{Ranged, ranged_from, ranged_in, ranges_of, covering}
use Rattle.cover_lists.specs.Located.{hold}
use Rattle.list_writer.specs.WrittenRanges.{bounded}
use Rattle.range_loc_rewrite.proofs.EntriesStay.{Stays, stays}
use Rattle.range_loc_rewrite.proofs.KeptLookups.{sound_at}
use Rattle.range_loc_rewrite.proofs.KeptPairs.{all_paired}
use Rattle.range_loc_rewrite.proofs.NamedRanges.{AreNamed}
use Rattle.range_loc_rewrite.proofs.SoundLists.{AreFine, lists_fine, fine_free}
use Rattle.range_loc_rewrite.proofs.TableFaults.{no_other, no_bad}
use Rattle.range_loc_rewrite.proofs.UnitsFree.{units_free}
use Rattle.list_units.proofs.Zips.{zip_with, zip_right}
use Rattle.range_loc_rewrite.proofs.RangeWeights.{holds_some}

-- Entries that contain two addresses alike cover them alike

abbrev covered : List Ranged → ℕ → List ℕ
covered rs a = map (λ (r : Ranged). r.entry.place) (filter (λ (r : Ranged). hold r.own a) rs)

covered-append : (xs ys : List Ranged) (a : ℕ) → covered (xs ++ ys) a ≡ covered xs a ++ covered ys a
covered-append xs ys a =
    ap (map (λ (r : Ranged). r.entry.place)) (filter-append (λ (r : Ranged). hold r.own a) xs ys)
    ∙ map-append (λ (r : Ranged). r.entry.place) (filter (λ (r : Ranged). hold r.own a) xs) (filter (λ (r : Ranged). hold r.own a) ys)

record Alike (own new : Entry → Option (List Range)) (o p : ℕ) (d e : Entry) : Type 0 where
  pub place : e.place ≡ d.place
  pub held : hold (new e) p ≡ hold (own d) o

module _ (own new : Entry → Option (List Range)) (o p : ℕ) where
  alike_from : (before after ds es : List Entry) → AllZip (Alike own new o p) ds es →
      covered (ranged_from new after es) p ≡ covered (ranged_from own before ds) o
  alike_from before after [] [] z = refl
  alike_from before after [] (e ∷ es) z = absurd z
  alike_from before after (d ∷ ds) [] z = absurd z
  alike_from before after (d ∷ ds) (e ∷ es) z =
      step (record { entry = e; own = new e; nearest = first_of (filter_map new (e ∷ enclosing e.depth after)) })
      (record { entry = d; own = own d; nearest = first_of (filter_map own (d ∷ enclosing d.depth before)) }) z.0.place
      (hold (new e) p) (hold (own d) o) z.0.held (alike_from (d ∷ before) (e ∷ after) ds es z.1)
    where
      olds : List Ranged
      olds = filter (λ (r : Ranged). hold r.own o) (ranged_from own (d ∷ before) ds)

      news : List Ranged
      news = filter (λ (r : Ranged). hold r.own p) (ranged_from new (e ∷ after) es)

      step : (x y : Ranged) → x.entry.place ≡ y.entry.place → (b c : Bool) → b ≡ c →
          map (λ (r : Ranged). r.entry.place) news ≡ map (λ (r : Ranged). r.entry.place) olds →
          map (λ (r : Ranged). r.entry.place) (if b then x ∷ news else news) ≡ map (λ (r : Ranged). r.entry.place)
          (if c then y ∷ olds else olds)
      step x y same true true f more = (λ i. same i ∷ more i)
      step x y same false false f more = more
      step x y same true false f more = absurd (cc)
      step x y same false true f more = absurd (cc)

-- The law

find_member : (e attr : ℕ) (xs : List ListAt) (o : ℕ) → new_list_offset xs e attr ≡ Some o → (l : ListAt) × Contains xs l × (l.entry ≡ e)
    × (l.attr ≡ attr) × (l.offset ≡ o)
find_member e attr [] o f = absurd (cc)
find_member e attr (x ∷ xs) o f = step (x.entry == e) (x.attr == attr) refl refl f (λ f. find_member e attr xs o f)
  where
    same : Some x.offset ≡ Some o → x.offset ≡ o
    same g = cc

    again : (l : ListAt) × Contains xs l × (l.entry ≡ e) × (l.attr ≡ attr) × (l.offset ≡ o) →
        (l : ListAt) × Contains (x ∷ xs) l × (l.entry ≡ e) × (l.attr ≡ attr) × (l.offset ≡ o)
    again q = (q.0, Contains-there x xs q.0 q.1, q.2, q.3, q.4)

    step : (a b : Bool) → (x.entry == e) ≡ a → (x.attr == attr) ≡ b →
        option_map (λ (l : ListAt). l.offset) (if a && b then Some x else find (is_list_of e attr) xs) ≡ Some o →
        (new_list_offset xs e attr ≡ Some o → (l : ListAt) × Contains xs l × (l.entry ≡ e) × (l.attr ≡ attr) × (l.offset ≡ o)) →
        (l : ListAt) × Contains (x ∷ xs) l × (l.entry ≡ e) × (l.attr ≡ attr) × (l.offset ≡ o)
    step true true f g h ih = (x, (0, omega arith, refl), eqb-true x.entry e f, eqb-true x.attr attr g, same h)
    step true false f g h ih = again (ih h)
    step false b f g h ih = again (ih h)

pub given_by : (names lists : List ListAt) → ((l : ListAt) → Contains names l → new_list_offset lists l.entry l.attr ≡ Some l.offset) →
    (e attr o : ℕ) → new_list_offset names e attr ≡ Some o → new_list_offset lists e attr ≡ Some o
given_by names lists named e attr o f =
    let q = find_member e attr names o f in
    (λ i. new_list_offset lists (sym q.2 i) (sym q.3 i)) ∙ named q.0 q.1 ∙ ap (λ (n : ℕ). Some n) q.4

module _ (s t : ListSections) (spans : List Span) (covers : List Cover) (kept : List RangedEntry) (order : RangedEntry → List (Run Bool))
    (bytes : List ℕ) (names : List ListAt) (m : Moves)
    (free : IsFree (HasDwarfFault (range_places s))) (seen : (a : ℕ) → seen_kept covers kept a ≡ all_seen s a)
    (w : AreNamed order kept bytes names) (table : t.ranges ≡ bytes) (free_units : IsFree (HasDwarfFault (unit_fault_places t.units)))
    (changed : AreChangedUnits s.units m t.units)
    (named : (l : ListAt) → Contains names l → new_list_offset m.lists l.entry l.attr ≡ Some l.offset)
    (says : (r : RangedEntry) → Contains kept r → (p : ℕ) → is_some (run_at (order r) p)
    ≡ holds_some covers r.group (owner spans p))
    (writable : (r : RangedEntry) → Contains kept r → All (IsWritable kind.Ranges) (map bounded (order r))) where
  ranges_are : t.ranges ≡ units_bytes w.tables
  ranges_are = table ∙ w.bytes_are

  free_old : IsFree (HasDwarfFault (unit_fault_places s.units))
  free_old = units_free s free

  entries_stay : (u v : Unit) → Contains (units s.units) u → Contains (units t.units) v → IsChangedUnit s.units t.units.info m u v →
      AllZip (λ d e. (e.place ≡ d.place) × Stays s t spans u v d e) u.entries v.entries
  entries_stay u v uc vc c =
      zip_with (λ d e. IsChangedEntry s.units t.units.info m (is_first_of u d) d e) (λ d e. (e.place ≡ d.place) × Stays s t spans u v d e)
      u.entries v.entries c.entries
      (λ d e dc ec x. (
        x.place,
        stays s t w.tables w.units ranges_are spans covers kept order names m (given_by names m.lists named) w.each says writable
            (units s.units)
            (all_paired s covers (units s.units) kept seen) (all_sound s.units free_old) (places_ascend s.units free_old)
            (lists_fine s free) u v uc c.entries d e dc x
            (sound_at t.units.addr (units t.units) v e (all_sound t.units free_units) vc ec),
      ))

  record UnitStays (u v : Unit) : Type 0 where
    pub covered_alike : (p o : ℕ) → owner spans p ≡ Some o → covered (ranged_in t v) p ≡ covered (ranged_in s u) o
    pub fine : (e : Entry) → Contains v.entries e → AreFine t v e.attrs

  unit_stays : (u v : Unit) → Contains (units s.units) u → Contains (units t.units) v → IsChangedUnit s.units t.units.info m u v →
      UnitStays u v
  unit_stays u v uc vc c =
      let z = entries_stay u v uc vc c in
      record {
        covered_alike = λ p o owned.
            alike_from (ranges_of s u) (ranges_of t v) o p [] [] u.entries v.entries
            (zip_with (λ d e. (e.place ≡ d.place) × Stays s t spans u v d e) (Alike (ranges_of s u) (ranges_of t v) o p) u.entries v.entries
            z
            (λ d e dc ec x. record { place = x.0; held = x.1.held p o owned }));
        fine = λ e ec. (zip_right (λ d e. (e.place ≡ d.place) × Stays s t spans u v d e) u.entries v.entries e z ec).2.1.fine;
      }

  all_stay : AllZip UnitStays (units s.units) (units t.units)
  all_stay = zip_with (IsChangedUnit s.units t.units.info m) UnitStays (units s.units) (units t.units) changed
      (λ u v uc vc c. unit_stays u v uc vc c)

  units_covered : (p o : ℕ) → owner spans p ≡ Some o → (us vs : List Unit) → AllZip UnitStays us vs →
      covered (flat_map (ranged_in t) vs) p ≡ covered (flat_map (ranged_in s) us) o
  units_covered p o owned [] [] z = refl
  units_covered p o owned [] (v ∷ vs) z = absurd z
  units_covered p o owned (u ∷ us) [] z = absurd z
  units_covered p o owned (u ∷ us) (v ∷ vs) z =
      covered-append (ranged_in t v) (flat_map (ranged_in t) vs) p
      ∙ (λ i. z.0.covered_alike p o owned i ++ units_covered p o owned us vs z.1 i)
      ∙ sym (covered-append (ranged_in s u) (flat_map (ranged_in s) us) o)

  pub new_covering : (p o : ℕ) → owner spans p ≡ Some o → covering t p ≡ covering s o
  new_covering p o owned = units_covered p o owned (units s.units) (units t.units) all_stay

  pub new_free : IsFree (HasDwarfFault (range_places t))
  new_free =
      fine_free t free_units (ap (other_version 5) ranges_are ∙ no_other w.tables w.units) (ap of_tables_in ranges_are
      ∙ no_bad w.tables w.units w.sound)
      (λ v vc e ec. (zip_right UnitStays (units s.units) (units t.units) v all_stay vc).2.fine e ec)
    where
      of_tables_in : List ℕ → List ℕ
      of_tables_in section = map (λ (w : Walked). w.place) (filter (λ (w : Walked). not (option_map_or is_list_table w.bytes false))
          (walked 5 section))

agree_same : {X : Type 0} (o : Option (List X)) → Agree (λ x y. x ≡ y) o o
agree_same None = tt
agree_same (Some x) = refl

-- The carried answers.
pub is_carried : {X : Type 0} (old new : ℕ → List X) (spans : List Span) (wanted : ℕ → Option (List X)) →
    ((p : ℕ) → wanted p ≡ carried (λ a. unless_empty (old a)) spans p) → ((p o : ℕ) → owner spans p ≡ Some o → new p ≡ old o) →
    IsCarried (λ x y. x ≡ y) spans wanted (Some (λ p. unless_empty (new p)))
is_carried old new spans wanted answers same p some = by_owner (owner spans p) refl some
  where
    by_owner : (o : Option ℕ) → owner spans p ≡ o → IsSome o → Agree (λ x y. x ≡ y) (wanted p) (unless_empty (new p))
    by_owner None e f = absurd (cc)
    by_owner (Some o) e f =
        let is : wanted p ≡ unless_empty (new p) = answers p ∙ ap (option_and_then (λ a. unless_empty (old a))) e
        ∙ ap unless_empty (sym (same p o e)) in
        subst (λ x. Agree (λ a b. a ≡ b) x (unless_empty (new p))) (sym is) (agree_same (unless_empty (new p)))
