-- The ranges of some units, with the result for the next one.
use Rattle.std.proofs.Common.{◌≡◌, ◌∙◌, ◌||◌, ◌++◌, ◌∷◌, [], ℕ, Bool, true, false, List, Option, Some, None, Result, Ok, Err, refl, sym, ap}
use Rattle.std.proofs.Common.{subst, map}
use Rattle.std.specs.Prelude.{if◌then◌else◌, flat_map, is_some, MatchOption}
use Rattle.std.specs.Global.{Vec}
use Rattle.std.proofs.lemmas.List.{map-append}
use Rattle.answer_runs.specs.Choices.{lower, least}
use Rattle.table_core.specs.DebugUnits.{Walked, first_place}
use Rattle.table_core.specs.ReadSteps.{oks}
use Rattle.dw_unit.specs.declared.trouble.Trouble.{Trouble}
use Rattle.dw_unit.specs.declared.unit_reading.UnitReading.{UnitReading}
use Rattle.dw_unit.specs.CompUnits.{Unit, unit_of}
use Rattle.dw_unit.specs.Declarations.{has_bad_form, has_bad_high}
use Rattle.dw_unit.specs.Faults.{fails, is_sound_unit}
use Rattle.dw_unit.specs.ListedEntries.{ListedEntry, listed}
use Rattle.dw_unit.specs.ListedUnits.{listed_unit}
use Rattle.dw_unit.specs.UnitReadings.{IsReading}
use Rattle.dw_unit.proofs.Leasts.{least-append}
use Rattle.dw_unit.proofs.UnitReadings.{places_more, unformed_more, bad_before, bad_now, still_good, oks-append, flat-more}
use Rattle.cover_lists.specs.declared.groups.Groups.{Groups}
use Rattle.cover_lists.specs.declared.groups.RangedEntry.{RangedEntry}
use Rattle.list_units.specs.declared.range_reading.Progress.{Progress}
use Rattle.dw_lists.specs.declared.unit_ranges.ListFaults.{ListFaults}
use Rattle.dw_lists.specs.Faults.{ListSections, has_bad_offset, bad_list_tables}
use Rattle.list_units.specs.Gathering.{SeenEntry, seen_in, IsUnitGathered}
use Rattle.cover_lists.specs.Groups.{AreNumbered, AreWithin}
use Rattle.dw_lists.specs.Lists.{Kind, ranges_kind}
use Rattle.list_units.specs.RangeReading.{is_bad_unit, units_of, AreGathered, IsProgress, IsUnitAdded}
use Rattle.dw_lists.specs.declared.indexed_unit.IndexedUnit.{IndexedUnit}
use Rattle.dw_lists.specs.IndexedUnits.{indexed_of}
use Rattle.list_units.proofs.PlainUnits.{unit_of_listed, unit_indexed}

pub none_of : (o : Option ℕ) → is_some o ≡ false → o ≡ None
none_of None e = refl
none_of (Some n) e = absurd (cc)

pub units_more : (s : ListSections) (ws : List Walked) (w : Walked) (u : Unit) → unit_of s.units.abbrevs w ≡ Ok u →
    units_of s (ws ++ w ∷ []) ≡ units_of s ws ++ u ∷ []
units_more s ws w u e =
    ap oks (map-append (unit_of s.units.abbrevs) ws (w ∷ []))
    ∙ oks-append (map (unit_of s.units.abbrevs) ws) (unit_of s.units.abbrevs w ∷ [])
    ∙ ap (λ (r : Result Unit Trouble). units_of s ws ++ oks (r ∷ [])) e

pub read_unit : (r : Result Unit Trouble) (es : List ListedEntry) → listed_unit r ≡ Ok es →
    (u : Unit) × (r ≡ Ok u) × (map listed u.entries ≡ es)
read_unit (Ok u) es e = (u, refl, same_ok e)
  where
    same_ok : {X E : Type 0} {x y : X} → ◌≡◌ {A = Result X E} (Ok x) (Ok y) → x ≡ y
    same_ok e = cc
read_unit (Err t) es e = absurd (cc)

-- The result for a unit, by whether its entries were read.
pub entries_by : (s : ListSections) (w : Walked) (r : UnitReading) (o : Option (Vec ListedEntry)) →
    IsReading s.units.abbrevs s.units.addr w r →
    r.entries ≡ o → MatchOption o (fails (is_sound_unit s.units.addr) (unit_of s.units.abbrevs w) ≡ true)
    (λ es. (fails (is_sound_unit s.units.addr) (unit_of s.units.abbrevs w) ≡ false)
    × (listed_unit (unit_of s.units.abbrevs w) ≡ Ok es.items))
entries_by s w r o is e = subst (λ o. MatchOption o (fails (is_sound_unit s.units.addr) (unit_of s.units.abbrevs w) ≡ true)
    (λ es. (fails (is_sound_unit s.units.addr) (unit_of s.units.abbrevs w) ≡ false)
    × (listed_unit (unit_of s.units.abbrevs w) ≡ Ok es.items)))
    e is.behind.entries

-- The indexes of one more unit.
pub indexes_more : (s : ListSections) (k : Kind) (ws : List Walked) (w : Walked) (u : Unit) (old new : List IndexedUnit) →
    unit_of s.units.abbrevs w ≡ Ok u → new ≡ old ++ indexed_of k u → old ≡ flat_map (indexed_of k) (units_of s ws) →
    new ≡ flat_map (indexed_of k) (units_of s (ws ++ w ∷ []))
indexes_more s k ws w u old new read made before =
    made ∙ ap (λ (l : List IndexedUnit). l ++ indexed_of k u) before
    ∙ sym (ap (flat_map (indexed_of k)) (units_more s ws w u read) ∙ flat-more (indexed_of k) (units_of s ws) u)

module _ (s : ListSections) (ws : List Walked) (w : Walked) (old new : Progress) (r : UnitReading) (are : IsProgress s ws old)
    (is : IsReading s.units.abbrevs s.units.addr w r) (form : new.bad_form ≡ lower old.bad_form r.bad_form)
    (high : new.bad_high ≡ lower old.bad_high r.bad_high) (unform : new.unformed ≡ lower old.unformed r.unformed) where
  with_bad : AreNumbered new.groups → AreWithin new.groups.count new.ranged.items → new.bad ≡ first_place (is_bad_unit s) (ws ++ w ∷ []) →
      (new.bad ≡ None → AreGathered s (ws ++ w ∷ []) new) → IsProgress s (ws ++ w ∷ []) new
  with_bad numbered within bad gathered = record {
    numbered = numbered;
    within = within;
    form = form ∙ (λ i. lower (are.form i) (is.form i)) ∙ sym (places_more has_bad_form s.units.abbrevs ws w);
    high = high ∙ (λ i. lower (are.high i) (is.high i)) ∙ sym (places_more has_bad_high s.units.abbrevs ws w);
    unformed_are = unform ∙ (λ i. lower (are.unformed_are i) (is.behind.unformed i)) ∙ sym (unformed_more s.units.abbrevs ws w);
    bad = bad;
    gathered = gathered;
  }

  none_bad : (place : ℕ) → new.bad ≡ Some place → new.bad ≡ None → AreGathered s (ws ++ w ∷ []) new
  none_bad place now none = let e : None ≡ Some place = sym none ∙ now in absurd (cc)

  -- A unit before was bad.
  pub bad_stays : (place : ℕ) → AreNumbered new.groups → AreWithin new.groups.count new.ranged.items → old.bad ≡ Some place →
      new.bad ≡ Some place → IsProgress s (ws ++ w ∷ []) new
  bad_stays place numbered within before now =
      with_bad numbered within (now ∙ sym (bad_before (is_bad_unit s) ws w place (sym are.bad ∙ before))) (none_bad place now)

  pub bad_kept : AreNumbered new.groups → AreWithin new.groups.count new.ranged.items → is_some old.bad ≡ true → new.bad ≡ old.bad →
      IsProgress s (ws ++ w ∷ []) new
  bad_kept numbered within some same = by_bad old.bad refl some
    where
      by_bad : (o : Option ℕ) → old.bad ≡ o → is_some o ≡ true → IsProgress s (ws ++ w ∷ []) new
      by_bad None e some = absurd (cc)
      by_bad (Some place) e some = bad_stays place numbered within e (same ∙ e)

  -- This unit can't be read.
  pub bad_first : AreNumbered new.groups → AreWithin new.groups.count new.ranged.items → old.bad ≡ None → r.entries ≡ None →
      new.bad ≡ Some w.place → IsProgress s (ws ++ w ∷ []) new
  bad_first numbered within before none now =
      let bad : is_bad_unit s w ≡ true =
      ap (λ (b : Bool). b || has_bad_offset ranges_kind s.ranges (unit_of s.units.abbrevs w)) (entries_by s w r None is none) in
      with_bad numbered within (now ∙ sym (bad_now (is_bad_unit s) ws w (sym are.bad ∙ before) bad)) (none_bad w.place now)

  -- This unit was read.
  module _ (es : List ListedEntry) (f : ListFaults) (before : old.bad ≡ None)
      (good : fails (is_sound_unit s.units.addr) (unit_of s.units.abbrevs w) ≡ false) (u : Unit) (read : unit_of s.units.abbrevs w ≡ Ok u)
      (g : IsUnitGathered s u old.groups old.ranged.items new.groups new.ranged.items f)
      (table : new.bad_table ≡ lower old.bad_table f.bad)
      (indexes : new.indexed.items ≡ old.indexed.items ++ indexed_of ranges_kind u) where
    tested : is_bad_unit s w ≡ f.lacks_offset
    tested = (λ i. good i || has_bad_offset ranges_kind s.ranges (read i)) ∙ sym g.lacks

    by_offset : (b : Bool) → f.lacks_offset ≡ b → new.bad ≡ (if b then Some w.place else old.bad) → IsProgress s (ws ++ w ∷ []) new
    by_offset true lacks now =
        with_bad g.added.grow.numbered g.added.within (now ∙ sym (bad_now (is_bad_unit s) ws w (sym are.bad ∙ before) (tested ∙ lacks)))
        (none_bad w.place now)
    by_offset false lacks now =
        let was = are.gathered before in
        with_bad g.added.grow.numbered g.added.within (now ∙ before
        ∙ sym (still_good (is_bad_unit s) ws w (sym are.bad ∙ before) (tested ∙ lacks)))
        (λ none. record {
          seen = λ a. g.added.seen_are a ∙ ap (λ (l : List SeenEntry). l ++ seen_in s u u.entries a) (was.seen a)
              ∙ sym (ap (flat_map (λ (u : Unit). seen_in s u u.entries a)) (units_more s ws w u read)
              ∙ flat-more (λ (u : Unit). seen_in s u u.entries a) (units_of s ws) u);
          bad = table ∙ (λ i. lower (was.bad i) (g.bad i))
              ∙ sym (ap (λ (us : List Unit). least (flat_map (bad_list_tables ranges_kind s.ranges s.units.addr) us))
              (units_more s ws w u read)
              ∙ ap least (flat-more (bad_list_tables ranges_kind s.ranges s.units.addr) (units_of s ws) u)
              ∙ least-append (flat_map (bad_list_tables ranges_kind s.ranges s.units.addr) (units_of s ws))
              (bad_list_tables ranges_kind s.ranges s.units.addr u));
          indexes = indexes_more s ranges_kind ws w u old.indexed.items new.indexed.items read indexes was.indexes;
        })

-- A unit whose entries can be read.
pub unit_added : (s : ListSections) (ws : List Walked) (w : Walked) (old mid new : Progress) (r : UnitReading) (es : Vec ListedEntry) →
    IsProgress s ws old → IsReading s.units.abbrevs s.units.addr w r → mid.bad_form ≡ lower old.bad_form r.bad_form →
    mid.bad_high ≡ lower old.bad_high r.bad_high → mid.unformed ≡ lower old.unformed r.unformed → mid.groups ≡ old.groups →
    mid.ranged.items ≡ old.ranged.items → mid.indexed ≡ old.indexed → mid.bad_table ≡ old.bad_table → mid.bad ≡ old.bad →
    old.bad ≡ None → r.entries ≡ Some es →
    IsUnitAdded s es.items w.place mid new → IsProgress s (ws ++ w ∷ []) new
unit_added s ws w old mid new r es are is form high unform groups ranged indexed table bad before some added =
    let behind = entries_by s w r (Some es) is some in
    let u = read_unit (unit_of s.units.abbrevs w) es.items behind.1 in
    let g : IsUnitGathered s u.0 old.groups old.ranged.items new.groups new.ranged.items added.faults =
    subst (λ (x : Groups). IsUnitGathered s u.0 x old.ranged.items new.groups new.ranged.items added.faults) groups
    (subst (λ (x : List RangedEntry). IsUnitGathered s u.0 mid.groups x new.groups new.ranged.items added.faults) ranged
    (unit_of_listed s u.0 es.items mid.groups new.groups mid.ranged.items new.ranged.items added.faults u.2 added.gathered)) in
    by_offset s ws w old new r are is (added.form ∙ form) (added.high ∙ high) (added.unformed_is ∙ unform) es.items added.faults before
    behind.0 u.0 u.1 g
    (added.table ∙ ap (λ (o : Option ℕ). lower o added.faults.bad) table)
    (added.indexes ∙ (λ i. (indexed i).items ++ unit_indexed ranges_kind u.0 es.items u.2 i))
    added.faults.lacks_offset refl
    (added.bad ∙ ap (λ (o : Option ℕ). if added.faults.lacks_offset then Some w.place else o) bad)
