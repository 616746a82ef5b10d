-- The list of each entry begins where the entry is entered.
use Rattle.std.proofs.Common.{◌≡◌, ◌∙◌, ◌+◌, ◌*◌, ◌<◌, ℕ, Bool, true, false, List, Option, Some, None, Ok, refl, sym, ap}
use Rattle.std.proofs.Common.{subst, All, map, ⊎_elim}
use Rattle.std.specs.Prelude.{Contains, is_some, option_and_then}
use Rattle.std.specs.Global.{Vec}
use Rattle.std.specs.List.{list_any}
use Rattle.std.specs.Option.{option_map_or}
use Rattle.addr_map.specs.declared.span.Span.{Span}
use Rattle.addr_map.specs.Spans.{owner}
use Rattle.answer_runs.specs.declared.range.Range.{Range}
use Rattle.answer_runs.specs.declared.run.Run.{Run}
use Rattle.answer_runs.specs.AddressRanges.{holds_address}
use Rattle.answer_runs.specs.AnswerRuns.{carried, AreRunsOf}
use Rattle.table_core.specs.declared.written.ListAt.{ListAt}
use Rattle.dw_unit.specs.CompUnits.{Entry, Unit, number_in, units}
use Rattle.dw_unit.specs.EntryMoves.{new_list_offset}
use Rattle.dw_unit.proofs.EntryPlaces.{places_ascend}
use Rattle.cover_lists.specs.declared.cover_index.CoverIndex.{CoverIndex}
use Rattle.cover_lists.specs.declared.cover_tree.Cover.{Cover}
use Rattle.cover_lists.specs.declared.groups.RangedEntry.{RangedEntry}
use Rattle.cover_lists.specs.EntryAddresses.{entered, first_start}
use Rattle.cover_lists.specs.EntryOrders.{are_at}
use Rattle.cover_lists.specs.GroupRuns.{held_by, runs_in}
use Rattle.cover_lists.specs.Located.{hold}
use Rattle.cover_lists.proofs.EntryOrderFacts.{AreRunsIn, at_is, entered_at, order_first}
use Rattle.dw_lists.specs.declared.indexed_unit.IndexedUnit.{IndexedUnit}
use Rattle.dw_lists.specs.declared.list_kind.ListKind.TheVariants as kind
use Rattle.dw_lists.specs.Faults.{ListSections}
use Rattle.dw_lists.specs.Lists.{items_at, ranges_kind}
use Rattle.dw_lists.specs.Ranges.{named_entry, ranges_of}
use Rattle.list_units.specs.Gathering.{ranges_index}
use Rattle.list_writer.specs.ListBytes.{IsWritable}
use Rattle.list_writer.specs.WrittenRanges.{bounded, order_of, place_of, runs_bytes}
use Rattle.list_writer.specs.WrittenTables.{StandsAt}
use Rattle.list_writer.proofs.ListsThere.{list_read, offset_there}
use Rattle.list_writer.proofs.SpelledEntries.{item_at}
use Rattle.range_loc_rewrite.specs.EnteredFirst.{AreEnteredAlike, AreEnteredFirst, BeginsAt, EntersAt, HasIndex, HasOffset}
use Rattle.range_loc_rewrite.specs.KeptRanges.{AreKept}
use Rattle.range_loc_rewrite.proofs.KeptLookups.{IsFound, kept_entry, kept_from, own_unique}
use Rattle.range_loc_rewrite.proofs.KeptPairs.{AllPaired, IsKeptAs, all_paired}
use Rattle.range_loc_rewrite.proofs.NamedRanges.{AreNamed, IsNamed}
use Rattle.range_loc_rewrite.proofs.RangeWeights.{holds_some, kept_says, some_if}
use Rattle.range_loc_rewrite.proofs.UnitsFree.{units_free}

module _ (s : ListSections) (spans : List Span) (kept : List RangedEntry) (count : ℕ) (index : CoverIndex) (bounds : List ℕ)
    (indexed : List IndexedUnit) (are : AreKept s kept count index bounds indexed) (lists : List (Vec (Run Bool)))
    (each : (g : ℕ) → g < count → AreRunsOf (carried (held_by index.tree g) spans) (runs_in lists g))
    (bytes : List ℕ) (names : List ListAt) (w : AreNamed (order_of spans lists) kept bytes names)
    (writable : (r : RangedEntry) → Contains kept r → All (IsWritable kind.Ranges) (map bounded (order_of spans lists r))) where
  abbrev covers : List Cover
  covers = index.tree

  pairs : AllPaired s covers (units s.units) kept
  pairs = all_paired s covers (units s.units) kept are.seen

  -- The runs of what is kept of an entry.
  runs_are : (u : Unit) (e : Entry) (r : RangedEntry) → Contains kept r → IsKeptAs s covers u e r → (ranges : List Range) →
      ranges_of s u e ≡ Some ranges → AreRunsIn spans ranges (runs_in lists r.group)
  runs_are u e r rc k ranges is p =
      at_is (runs_in lists r.group) p
      ∙ ap is_some (kept_says s spans kept count index bounds indexed are lists each r rc p)
      ∙ some_if (holds_some covers r.group (owner spans p)) ∙ by (owner spans p)
    where
      by : (o : Option ℕ) → holds_some covers r.group o ≡ option_map_or (λ o. list_any (holds_address o) ranges) o false
      by None = refl
      by (Some o) = k.held o ∙ ap (λ (x : Option (List Range)). hold x o) is

  record IsEntered (u : Unit) (e : Entry) (r : RangedEntry) (n : ℕ) : Type 0 where
    pub place : place_of spans lists r ≡ n
    pub there : are_at (runs_in lists r.group) n ≡ true

  -- Where it is entered.
  is_entered : (u : Unit) (e : Entry) (r : RangedEntry) (n : ℕ) → Contains kept r → IsKeptAs s covers u e r → EntersAt spans s u e n →
      IsEntered u e r n
  is_entered u e r n rc k at = by (ranges_of s u e) refl at.entered
    where
      by : (o : Option (List Range)) → ranges_of s u e ≡ o → option_and_then (entered (named_entry s.units.addr u e)) o ≡ Some at.address →
          IsEntered u e r n
      by None f g = absurd (cc)
      by (Some ranges) f g =
          let p = entered_at spans ranges (runs_in lists r.group) (runs_are u e r rc k ranges f) r (named_entry s.units.addr u e)
          at.address n k.entry (k.first ∙ ap (option_and_then first_start) f) g at.moved_is at.owned in
          record { place = p.0; there = p.1 }

  -- Its list begins there.
  begins : (u : Unit) (e : Entry) (r : RangedEntry) (n at : ℕ) → Contains kept r → IsEntered u e r n →
      StandsAt w.tables at (runs_bytes (order_of spans lists r)) → BeginsAt bytes at n
  begins u e r n at rc x stands =
      let there : are_at (runs_in lists r.group) (place_of spans lists r) ≡ true =
      ap (are_at (runs_in lists r.group)) x.place ∙ x.there in
      let b = order_first (place_of spans lists r) (runs_in lists r.group) there in
      record {
        first = item_at (bounded b.r);
        more = map item_at (map bounded b.more);
        are = ap (λ (section : List ℕ). items_at ranges_kind section at) w.bytes_are
            ∙ list_read kind.Ranges w.tables at (map bounded (order_of spans lists r)) stands w.units (writable r rc)
            ∙ ap (λ (rs : List (Run Bool)). Ok (map item_at (map bounded rs))) b.is;
        start = ap (λ (n : ℕ). Some n) (b.start ∙ x.place);
      }

  module _ (u : Unit) (uc : Contains (units s.units) u) (e : Entry) (ec : Contains u.entries e) where
    found : (n : ℕ) → EntersAt spans s u e n → IsFound s covers u e kept
    found n at =
        ⊎_elim (λ (none : ranges_of s u e ≡ None).
        let f : None ≡ Some at.address =
        sym (ap (option_and_then (entered (named_entry s.units.addr u e))) none) ∙ at.entered in absurd (cc))
        (λ (f : IsFound s covers u e kept). f) (kept_entry s covers (units s.units) kept u e pairs uc ec)

    offset_first : ranges_index e.attrs ≡ None → (n : ℕ) → EntersAt spans s u e n → HasOffset names bytes e n
    offset_first none n at =
        let f = found n at in
        let x = subst (IsNamed (order_of spans lists) w.tables names kept f.r) (f.kept_as.index ∙ none) (w.each f.r f.there) in
        record {
          offset = x.0;
          is = ap (λ (n : ℕ). new_list_offset names n 0x55) (sym f.kept_as.place) ∙ x.1;
          begins = begins u e f.r n x.0 f.there (is_entered u e f.r n f.there f.kept_as at) x.2;
        }

    index_first : (i : ℕ) → ranges_index e.attrs ≡ Some i → AreEnteredAlike s u i e → (n : ℕ) → EntersAt spans s u e n →
        HasIndex names bytes u i n
    index_first i named alike n at =
        let f = found n at in
        let x = subst (IsNamed (order_of spans lists) w.tables names kept f.r) (f.kept_as.index ∙ named) (w.each f.r f.there) in
        let y = kept_from s covers (units s.units) kept x.2 pairs x.8 in
        let same : y.u ≡ u =
        own_unique 0 (units s.units) y.u u y.e e (places_ascend s.units (units_free s are.free)) y.unit y.there uc ec
        (sym y.kept_as.own ∙ x.6 ∙ f.kept_as.own) in
        let like : IsKeptAs s covers u y.e x.2 = subst (λ (v : Unit). IsKeptAs s covers v y.e x.2) same y.kept_as in
        let there : Contains u.entries y.e = subst (λ (v : Unit). Contains v.entries y.e) same y.there in
        let enters : EntersAt spans s u y.e n =
        record {
          address = at.address;
          entered = alike y.e there (sym y.kept_as.index ∙ x.7) ∙ at.entered;
          moved_is = at.moved_is;
          owned = at.owned;
        } in
        record {
          base = x.0;
          is = ap (λ (n : ℕ). new_list_offset names n 0x74) (sym f.kept_as.own) ∙ x.3;
          offset = x.1;
          offset_is = ap (λ (l : List ℕ). number_in 4 (x.0 + 4 * i) l) w.bytes_are
              ∙ offset_there w.tables (x.0 + 4 * i) x.1 x.4 w.units x.5;
          begins = begins u y.e x.2 n (x.0 + x.1) x.8 (is_entered u y.e x.2 n x.8 like enters) x.9;
        }

  pub entered_first : AreEnteredFirst spans s names bytes
  entered_first = record {
    by_offset = λ u uc e ec none n at. offset_first u uc e ec none n at;
    by_index = λ u uc e ec i named alike n at. index_first u uc e ec i named alike n at;
  }
