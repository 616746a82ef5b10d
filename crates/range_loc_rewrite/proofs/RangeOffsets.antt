-- Each entry with ranges gets the offset of its list in a written table, or its unit gets a base.
use Rattle.std.proofs.Common.{◌≡◌, ◌∙◌, ◌<◌, ◌==◌, ◌&&◌, ◌||◌, ◌∷◌, [], ℕ, Bool, true, false, List, Option, Some, None, refl, sym, ap}
use Rattle.std.proofs.Common.{subst}
use Rattle.std.proofs.Common.{All, length, map, ⊎_elim, inl, inr, ◌≢◌}
use Rattle.std.specs.Prelude.{Contains, if◌then◌else◌, is_some, option_and_then, option_map}
use Rattle.std.specs.Global.{Vec}
use Rattle.std.proofs.lemmas.Bool.{eqb-true}
use Rattle.rb_bytes.specs.FirstFault.{IsFree}
use Rattle.answer_runs.specs.declared.range.Range.{Range}
use Rattle.answer_runs.specs.declared.run.Run.{Run}
use Rattle.answer_runs.proofs.Ascending.{Ascends}
use Rattle.table_core.specs.declared.written.ListAt.{ListAt}
use Rattle.dw_unit.specs.declared.entry.Attr.{Attr}
use Rattle.dw_unit.specs.CompUnits.{Entry, Unit, units, attr, low_pc}
use Rattle.dw_unit.specs.EntryMoves.{new_list_offset}
use Rattle.dw_unit.specs.Faults.{HasDwarfFault}
use Rattle.dw_unit.proofs.SoundEntries.{IsSoundEntry, all_sound}
use Rattle.cover_lists.specs.declared.cover_tree.Cover.{Cover}
use Rattle.cover_lists.specs.declared.groups.RangedEntry.{RangedEntry}
use Rattle.cover_lists.specs.Located.{Located, ranges_in}
use Rattle.dw_lists.specs.declared.list_kind.ListKind.TheVariants as kind
use Rattle.dw_lists.specs.declared.named_list.NamedList.{NamedList}
use Rattle.dw_lists.specs.Faults.{ListSections, range_places}
use Rattle.dw_lists.specs.Lists.{ranges_kind, list_at}
use Rattle.dw_lists.specs.Ranges.{ranges_of, up_to}
use Rattle.dw_lists.specs.IndexedUnits.{indexed_units}
use Rattle.dw_lists.specs.Weights.{indexes}
use Rattle.dw_lists.proofs.OwnRanges.{listed_ranges, of_offset, own_bounds}
use Rattle.list_units.specs.Gathering.{ranges_index, seen_kept}
use Rattle.list_units.specs.RangeReading.{all_seen}
use Rattle.list_writer.specs.FullLists.{IsFullList}
use Rattle.list_writer.specs.ListBytes.{IsWritable}
use Rattle.list_writer.specs.WrittenRanges.{bounded, named_by, runs_bytes}
use Rattle.list_writer.specs.WrittenTables.{AreWritten, bytes_in, indexed_in, with_tables}
use Rattle.list_writer.proofs.BasesThere.{list_full}
use Rattle.list_writer.proofs.ListsThere.{list_inside}
use Rattle.list_writer.proofs.PutEntries.{flat_has}
use Rattle.range_loc_rewrite.specs.NewOffsets.{GetsBase, GetsOffset, HasHigh, NeedsTable, RangesGetOffsets}
use Rattle.range_loc_rewrite.proofs.KeptLookups.{IsFound, all_of, kept_entry, no_bounds, place_of, sound_at}
use Rattle.range_loc_rewrite.proofs.KeptPairs.{all_paired}
use Rattle.range_loc_rewrite.proofs.NamedRanges.{AreNamed, IsNamed, contains_map, map_contains}
use Rattle.range_loc_rewrite.proofs.NewBases.{IsSpelled, kept_base, new_base}
use Rattle.range_loc_rewrite.proofs.RangeOrigins.{origin}
use Rattle.range_loc_rewrite.proofs.RangesStay.{found_name, found_there}
use Rattle.range_loc_rewrite.proofs.SoundLists.{IsFine, lists_fine}
use Rattle.range_loc_rewrite.proofs.UnitsFree.{units_free}
use Rattle.range_loc_rewrite.proofs.UsedIndexes.{greatest_is, used_entry}

module _ (s : ListSections) (free : IsFree (HasDwarfFault (range_places s))) (covers : List Cover) (kept : List RangedEntry)
    (seen : (a : ℕ) → seen_kept covers kept a ≡ all_seen s a) (order : RangedEntry → List (Run Bool)) (bytes : List ℕ) (names : List ListAt)
    (w : AreNamed order kept bytes names) (up : Ascends 0 (map place_of (all_of (units s.units))))
    (writable : (r : RangedEntry) → Contains kept r → All (IsWritable kind.Ranges) (map bounded (order r))) where
  module _ (u : Unit) (uc : Contains (units s.units) u) (e : Entry) (ec : Contains u.entries e) where
    sound : IsSoundEntry s.units.addr u e
    sound = sound_at s.units.addr (units s.units) u e (all_sound s.units (units_free s free)) uc ec

    found : (ranges : List Range) → ranges_of s u e ≡ Some ranges → IsFound s covers u e kept
    found ranges is =
        ⊎_elim (λ (none : ranges_of s u e ≡ None). let f : None ≡ Some ranges = sym none ∙ is in absurd (cc))
        (λ (f : IsFound s covers u e kept). f)
        (kept_entry s covers (units s.units) kept u e (all_paired s covers (units s.units) kept seen) uc ec)

    by_offset : IsFound s covers u e kept → ranges_index e.attrs ≡ None → GetsOffset ranges_kind names bytes e.place 0x55
    by_offset f index =
        let x = subst (IsNamed order w.tables names kept f.r) (f.kept_as.index ∙ index) (w.each f.r f.there) in
        record {
          offset = x.0;
          is = ap (λ (n : ℕ). new_list_offset names n 0x55) (sym f.kept_as.place) ∙ x.1;
          within = subst (λ (l : List ℕ). x.0 < length l) (sym w.bytes_are)
              (list_inside kind.Ranges w.tables x.0 (map bounded (order f.r)) x.2 w.units);
          full = subst (λ (l : List ℕ). IsFullList ranges_kind l x.0) (sym w.bytes_are)
              (list_full kind.Ranges w.tables x.0 (map bounded (order f.r)) x.2 w.units (writable f.r f.there));
        }

    -- An entry whose ranges are in a list.
    module _ (a : Attr) (is : attr 0x55 e ≡ Some a) (form : (a.form == 0x17 || a.form == 0x23) ≡ true) where
      fine : IsFine s u a
      fine = lists_fine s free u uc a (flat_has (λ (e : Entry). e.attrs) u.entries e a ec (found_there 0x55 e.attrs a is))
          (both (a.name == 0x55) (a.form == 0x17 || a.form == 0x23) (ap (λ (n : ℕ). n == 0x55) (found_name 0x55 e.attrs a is)) form)
        where
          both : (x y : Bool) → x ≡ true → y ≡ true → (x && y) ≡ true
          both true y f g = g
          both false y f g = absurd (cc)

      no_high : (o : Option Attr) → attr 0x12 e ≡ o → attr 0x12 e ≡ None
      no_high None none = none
      no_high (Some h) high = let f : None ≡ Some a = sym (sound.ranges h high) ∙ is in absurd (cc)

      listed : IsFound s covers u e kept
      listed = by (list_at ranges_kind s.ranges s.units.addr u fine.at) refl fine.read
        where
          by : (o : Option (List Located)) → list_at ranges_kind s.ranges s.units.addr u fine.at ≡ o → is_some o ≡ true →
              IsFound s covers u e kept
          by None f g = absurd (cc)
          by (Some ls) f g =
              found (ranges_in ls)
              (no_bounds s u e (no_high (attr 0x12 e) refl) ∙ ap (listed_ranges s u) is ∙ of_offset s u a (Some fine.at) fine.offset
              ∙ ap (option_map ranges_in) f)

    -- An entry with a high address.
    module _ (h : HasHigh e) where
      bounded_by : (low : Option ℕ) → low_pc s.units.addr u e ≡ low → is_some low ≡ true → IsFound s covers u e kept
      bounded_by None f g = absurd (cc)
      bounded_by (Some low) f g =
          found (up_to low h.a ∷ [])
          (own_bounds s u e (up_to low h.a)
          ((λ i. option_and_then (λ h. option_map (λ l. up_to l h) (f i)) (h.is i))))

      by_high : IsFound s covers u e kept
      by_high = bounded_by (low_pc s.units.addr u e) refl (sound.low h.a h.is)

      ends : GetsOffset ranges_kind names bytes e.place 0x55
      ends =
          by_offset by_high
          (ap (option_and_then (λ (a : Attr). if a.form == 0x23 then Some a.value else None)) (sound.ranges h.a h.is))

    index_is : (a : Attr) → attr 0x55 e ≡ Some a → (o : Option ℕ) → (if a.form == 0x23 then Some a.value else None) ≡ o →
        ranges_index e.attrs ≡ o
    index_is a is o f = ap (option_and_then (λ (a : Attr). if a.form == 0x23 then Some a.value else None)) is ∙ f

  module _ (bs : List (Vec ℕ)) (number : RangedEntry → ℕ)
      (same : (r : RangedEntry) → Contains kept r → bytes_in bs (number r) ≡ runs_bytes (order r))
      (made : AreWritten kind.Ranges bs (map (named_by number) kept) (with_tables (map (named_by number) kept)
      (indexed_in s.ranges (map (named_by number) kept) (indexed_units ranges_kind s.units))) bytes names)
      (none : length (map (named_by number) kept) ≡ 0 →
      length (indexed_in s.ranges (map (named_by number) kept) (indexed_units ranges_kind s.units)) ≡ 0 →
      bytes ≡ []) where
    spelled : (n : NamedList) → Contains (map (named_by number) kept) n → IsSpelled kind.Ranges (bytes_in bs n.list)
    spelled n c =
        let q = map_contains number kept n c in
        record {
          entries = map bounded (order q.0);
          are = ap (λ (x : NamedList). bytes_in bs x.list) (sym q.2) ∙ same q.0 q.1;
          writable = writable q.0 q.1;
        }

    found_base : (s.ranges ≡ [] → bytes ≢ []) → (u : Unit) → Contains (units s.units) u → (e : Entry) → Contains u.entries e →
        IsFound s covers u e kept → GetsBase ranges_kind s.units u names bytes
    found_base some u uc e ec f =
        new_base kind.Ranges HasHigh s.units s.ranges bs (map (named_by number) kept) bytes names made
        (origin s free covers kept seen number) up spelled
        some none u uc e ec (inr (named_by number f.r, contains_map number kept f.r f.there, f.kept_as.own))

    base_of : (s.ranges ≡ [] → bytes ≢ []) → (u : Unit) → Contains (units s.units) u → NeedsTable ranges_kind HasHigh u →
        GetsBase ranges_kind s.units u names bytes
    base_of some u uc (NeedsTable.uses_index i c) =
        let e = used_entry 0x23 u i c in
        let g = greatest_is (indexes 0x23 u) i c in
        new_base kind.Ranges HasHigh s.units s.ranges bs (map (named_by number) kept) bytes names made
        (origin s free covers kept seen number) up spelled
        some none u uc e.0 e.1 (inl (ap is_some g.1))
    base_of some u uc (NeedsTable.names_list e k a ec is name form) =
        found_base some u uc e ec
        (listed u uc e ec a (ap (λ (n : ℕ). attr n e) (sym (eqb-true k 0x55 name)) ∙ is) (ap (λ (f : ℕ). f == 0x17 || f == 0x23) form))
    base_of some u uc (NeedsTable.has_entry e ec h) = found_base some u uc e ec (by_high u uc e ec h)

    pub ranges_get_offsets : RangesGetOffsets s.units s.ranges names bytes
    ranges_get_offsets = record {
      listed = record {
        offsets = λ u uc e ec k a is name form. offset_of u uc e ec k a is (eqb-true k 0x55 name) form;
        bases = base_of;
        kept = kept_base kind.Ranges HasHigh s.units s.ranges bs (map (named_by number) kept) bytes names made
            (origin s free covers kept seen number) up;
      };
      ends = λ u uc e ec h. ends u uc e ec h;
    }
      where
        offset_of : (u : Unit) (uc : Contains (units s.units) u) (e : Entry) (ec : Contains u.entries e) (k : ℕ) (a : Attr) →
            attr k e ≡ Some a → k ≡ 0x55 → a.form ≡ 0x17 → GetsOffset ranges_kind names bytes e.place k
        offset_of u uc e ec k a is name form =
            let named : attr 0x55 e ≡ Some a = ap (λ (n : ℕ). attr n e) (sym name) ∙ is in
            subst (λ (n : ℕ). GetsOffset ranges_kind names bytes e.place n) (sym name)
            (by_offset u uc e ec (listed u uc e ec a named (ap (λ (f : ℕ). f == 0x17 || f == 0x23) form))
            (index_is u uc e ec a named None (ap (λ (f : ℕ). if f == 0x23 then Some a.value else None) form)))
