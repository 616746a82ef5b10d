-- Attributes that refer to location lists are of units that need a table.
use Rattle.std.proofs.Common.{◌≡◌, ◌∙◌, ◌==◌, ◌&&◌, ◌||◌, ℕ, Bool, true, false, List, Option, Some, None, refl, sym}
use Rattle.std.specs.Prelude.{Contains, if◌then◌else◌}
use Rattle.std.proofs.lemmas.Bool.{eqb-true}
use Rattle.dw_unit.specs.declared.entry.Attr.{Attr}
use Rattle.dw_unit.specs.CompUnits.{Entry, Unit, units, attr}
use Rattle.cover_lists.specs.declared.kept_list.KeptList.{KeptList}
use Rattle.cover_lists.specs.Located.{Located}
use Rattle.dw_lists.specs.declared.named_list.NamedList.{NamedList}
use Rattle.dw_lists.specs.Faults.{ListSections}
use Rattle.dw_lists.specs.Lists.{has_list, list_of, locations_kind}
use Rattle.list_units.specs.Listing.{AreNamesOf, IsNameOf, all_items}
use Rattle.list_units.proofs.Zips.{zip_left}
use Rattle.range_loc_rewrite.specs.NewOffsets.{NeedsTable}
use Rattle.range_loc_rewrite.proofs.ItemsThere.{IsPlaceName}
use Rattle.range_loc_rewrite.proofs.PlacesStay.{indexed, is_item}
use Rattle.range_loc_rewrite.proofs.RangesStay.{found_there}
use Rattle.range_loc_rewrite.proofs.UsedIndexes.{HasOrigin, used_index}

module _ (s : ListSections) (lists : List KeptList) (named : List NamedList) (items : AreNamesOf lists named (all_items s)) where
  name_by : (u : Unit) (e : Entry) → Contains u.entries e → (k : ℕ) (a : Attr) → attr k e ≡ Some a → IsPlaceName k → (b c : Bool) →
      (a.form == 0x17) ≡ b → (a.form == 0x22) ≡ c → (b || c) ≡ true → NeedsTable locations_kind (λ _. ⊥) u
  name_by u e ec k a is name true c f g h = NeedsTable.names_list e k a ec is name (eqb-true a.form 0x17 f)
  name_by u e ec k a is name false true f g h =
      NeedsTable.uses_index a.value (used_index 0x22 u e a ec (found_there k e.attrs a is) (eqb-true a.form 0x22 g))
  name_by u e ec k a is name false false f g h = absurd (cc)

  -- The origin of a kept attribute.
  pub origin : (r : NamedList) → Contains named r → HasOrigin locations_kind (λ _. ⊥) (units s.units) r
  origin r there =
      let x = zip_left (IsNameOf lists) named (all_items s) r items there in
      let y = is_item s x.0 x.1 in
      record {
        u = y.u;
        unit = y.unit;
        e = y.e;
        entry = y.entry;
        own = x.2.own ∙ y.own;
        named = λ i is.
            let n = indexed y.a i (sym (x.2.index ∙ y.index) ∙ is) in
            record {
              name = y.name;
              a = y.a;
              is = y.is;
              there = found_there y.name y.e.attrs y.a y.is;
              naming = y.naming;
              form = eqb-true y.a.form 0x22 n.form;
              value = n.value;
            };
        needs = by_list y.u y.e y.entry y.name y.a y.is y.naming (has_list locations_kind y.a) refl
            (list_of locations_kind s.locations s.units.addr y.u y.a) x.0.list y.list;
      }
    where
      by_list : (u : Unit) (e : Entry) → Contains u.entries e → (k : ℕ) (a : Attr) → attr k e ≡ Some a →
          IsPlaceName k → (b : Bool) → has_list locations_kind a ≡ b → (o : Option (List Located)) (ls : List Located) →
          (if b then o else None) ≡ Some ls → NeedsTable locations_kind (λ _. ⊥) u
      by_list u e ec k a is name false f o ls g = absurd (cc)
      by_list u e ec k a is name true f o ls g =
          name_by u e ec k a is name (a.form == 0x17) (a.form == 0x22) refl refl
          (right (a.name == 0x02 || a.name == 0x40) (a.form == 0x17 || a.form == 0x22) f)
        where
          right : (x y : Bool) → (x && y) ≡ true → y ≡ true
          right true y e = e
          right false y e = absurd (cc)
