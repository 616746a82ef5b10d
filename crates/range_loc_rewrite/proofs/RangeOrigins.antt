-- Entries whose ranges are kept are of units that need a table.
use Rattle.std.proofs.Common.{◌≡◌, ◌∙◌, ◌==◌, ◌||◌, ℕ, Bool, true, false, List, Option, Some, None, refl, sym, ap, subst, map}
use Rattle.std.specs.Prelude.{Contains, is_some}
use Rattle.std.proofs.lemmas.Bool.{eq-eqb, eqb-true}
use Rattle.rb_bytes.specs.FirstFault.{IsFree}
use Rattle.dw_unit.specs.declared.entry.Attr.{Attr}
use Rattle.dw_unit.specs.CompUnits.{Entry, Unit, units, attr}
use Rattle.dw_unit.specs.Faults.{HasDwarfFault}
use Rattle.dw_unit.proofs.SoundEntries.{all_sound}
use Rattle.cover_lists.specs.declared.cover_tree.Cover.{Cover}
use Rattle.cover_lists.specs.declared.groups.RangedEntry.{RangedEntry}
use Rattle.dw_lists.specs.declared.named_list.NamedList.{NamedList}
use Rattle.dw_lists.specs.Faults.{ListSections, range_places}
use Rattle.dw_lists.specs.Lists.{ranges_kind}
use Rattle.dw_lists.specs.Ranges.{ranges_of}
use Rattle.dw_lists.proofs.OwnRanges.{listed_ranges}
use Rattle.list_units.specs.Gathering.{seen_kept}
use Rattle.list_units.specs.RangeReading.{all_seen}
use Rattle.list_writer.specs.WrittenRanges.{named_by}
use Rattle.range_loc_rewrite.specs.NewOffsets.{HasHigh, NeedsTable}
use Rattle.range_loc_rewrite.proofs.KeptLookups.{index_attr, kept_from, no_bounds, sound_at}
use Rattle.range_loc_rewrite.proofs.KeptPairs.{AllPaired, all_paired}
use Rattle.range_loc_rewrite.proofs.NamedRanges.{map_contains}
use Rattle.range_loc_rewrite.proofs.RangesStay.{found_name, found_there, tests_of}
use Rattle.range_loc_rewrite.proofs.UnitsFree.{units_free}
use Rattle.range_loc_rewrite.proofs.UsedIndexes.{HasOrigin, used_index}

module _ (s : ListSections) (free : IsFree (HasDwarfFault (range_places s))) (covers : List Cover) (kept : List RangedEntry)
    (seen : (a : ℕ) → seen_kept covers kept a ≡ all_seen s a) (number : RangedEntry → ℕ) where
  pairs : AllPaired s covers (units s.units) kept
  pairs = all_paired s covers (units s.units) kept seen

  -- The origin of a kept entry.
  entry_origin : (r : RangedEntry) → Contains kept r → HasOrigin ranges_kind HasHigh (units s.units) (named_by number r)
  entry_origin r there =
      let y = kept_from s covers (units s.units) kept r pairs there in
      record {
        u = y.u;
        unit = y.unit;
        e = y.e;
        entry = y.there;
        own = y.kept_as.own;
        named = λ i is.
            let x = index_attr (attr 0x55 y.e) i (sym y.kept_as.index ∙ is) in
            record {
              name = 0x55;
              a = x.a;
              is = x.is;
              there = found_there 0x55 y.e.attrs x.a x.is;
              naming = refl;
              form = eqb-true x.a.form 0x23 x.form;
              value = x.value;
            };
        needs = by_high_address y.u y.e y.unit y.there y.kept_as.some (attr 0x12 y.e) refl;
      }
    where
      by_form : (u : Unit) (e : Entry) → Contains u.entries e → (a : Attr) → attr 0x55 e ≡ Some a → (b c : Bool) → (a.form == 0x17) ≡ b →
          (a.form == 0x23) ≡ c → (b || c) ≡ true → NeedsTable ranges_kind HasHigh u
      by_form u e ec a is true c f g h = NeedsTable.names_list e 0x55 a ec is refl (eqb-true a.form 0x17 f)
      by_form u e ec a is false true f g h =
          NeedsTable.uses_index a.value (used_index 0x23 u e a ec (found_there 0x55 e.attrs a is) (eqb-true a.form 0x23 g))
      by_form u e ec a is false false f g h = absurd (cc)

      by_list : (u : Unit) (e : Entry) → Contains (units s.units) u → Contains u.entries e → is_some (ranges_of s u e) ≡ true →
          attr 0x12 e ≡ None → (o : Option Attr) → attr 0x55 e ≡ o → NeedsTable ranges_kind HasHigh u
      by_list u e uc ec some none None is =
          absurd (let no : false ≡ true = sym (ap is_some (no_bounds s u e none ∙ ap (listed_ranges s u) is)) ∙ some in cc)
      by_list u e uc ec some none (Some a) is =
          by_form u e ec a is (a.form == 0x17) (a.form == 0x23) refl refl
          ((tests_of s.units.addr u e 0x55 a (sound_at s.units.addr (units s.units) u e (all_sound s.units (units_free s free)) uc ec)
          is).ranges (eq-eqb a.name 0x55 (found_name 0x55 e.attrs a is)))

      by_high_address : (u : Unit) (e : Entry) → Contains (units s.units) u → Contains u.entries e → is_some (ranges_of s u e) ≡ true →
          (o : Option Attr) → attr 0x12 e ≡ o → NeedsTable ranges_kind HasHigh u
      by_high_address u e uc ec some (Some h) is = NeedsTable.has_entry e ec (record { a = h; is = is })
      by_high_address u e uc ec some None is = by_list u e uc ec some is (attr 0x55 e) refl

  pub origin : (n : NamedList) → Contains (map (named_by number) kept) n → HasOrigin ranges_kind HasHigh (units s.units) n
  origin n c =
      let q = map_contains number kept n c in subst (HasOrigin ranges_kind HasHigh (units s.units)) q.2 (entry_origin q.0 q.1)
