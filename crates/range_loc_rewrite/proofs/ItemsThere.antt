-- Each attribute that refers to a location list is listed, in sections without a fault.
use Rattle.std.proofs.Common.{◌≡◌, ◌∙◌, ◌==◌, ◌||◌, ℕ, Bool, true, List, Option, Some, None, refl, sym, ap, subst, arith}
use Rattle.std.specs.Prelude.{flat_map, Contains, option_and_then, if◌then◌else◌, is_some}
use Rattle.dw_unit.specs.declared.entry.Attr.{Attr}
use Rattle.dw_unit.specs.CompUnits.{Entry, Unit, units, attr}
use Rattle.dw_lists.specs.Faults.{ListSections}
use Rattle.dw_lists.specs.Lists.{locations_kind, has_list, list_at, list_of}
use Rattle.dw_lists.specs.UnitLists.{own_place}
use Rattle.cover_lists.specs.Located.{Located}
use Rattle.list_units.specs.Listing.{ListItem, list_index, item_of, attr_items, entry_items, unit_items, all_items}
use Rattle.list_writer.proofs.PutEntries.{by_either, contains_still, contains_behind, flat_has}
use Rattle.range_loc_rewrite.proofs.RangesStay.{found_there}
use Rattle.range_loc_rewrite.proofs.SoundLists.{IsThere, AreThere}

-- One of the two names.
abbrev pub IsPlaceName : ℕ → Type 0
IsPlaceName k = (k == 0x02 || k == 0x40) ≡ true

pub by_name : (P : ℕ → Type 0) (k : ℕ) → IsPlaceName k → P 0x02 → P 0x40 → P k
by_name P k is x y = by_either P k (k == 0x02) (k == 0x40) refl refl is x y

-- The items of an entry have those of each name.
abbrev HasItems : ListSections → Unit → Entry → ℕ → Type 0
HasItems s u e k = (a : Attr) → attr k e ≡ Some a → (x : ListItem) → Contains (attr_items s u e.place k (Some a)) x →
    Contains (entry_items s u e) x

entry_has : (s : ListSections) (u : Unit) (e : Entry) (k : ℕ) → IsPlaceName k → HasItems s u e k
entry_has s u e k name =
    by_name (HasItems s u e) k name
    (λ a is x c. contains_still (attr_items s u e.place 0x02 (attr 0x02 e)) (attr_items s u e.place 0x40 (attr 0x40 e)) x
    (subst (λ (o : Option Attr). Contains (attr_items s u e.place 0x02 o) x) (sym is) c))
    (λ a is x c. contains_behind (attr_items s u e.place 0x02 (attr 0x02 e)) (attr_items s u e.place 0x40 (attr 0x40 e)) x
    (subst (λ (o : Option Attr). Contains (attr_items s u e.place 0x40 o) x) (sym is) c))

pub record HasItem (s : ListSections) (u : Unit) (d : Entry) (k : ℕ) (a : Attr) : Type 0 where
  pub list : List Located
  pub said : list_of locations_kind s.locations s.units.addr u a ≡ Some list
  pub there : Contains (all_items s) (record { place = d.place; attr = k; own = own_place u; index = list_index a; list = list })

module _ (s : ListSections) (fine : (u : Unit) → Contains (units s.units) u →
    AreThere locations_kind s.locations s.units.addr u (flat_map (λ (e : Entry). e.attrs) u.entries))
    (u : Unit) (uc : Contains (units s.units) u) (d : Entry) (dc : Contains u.entries d)
    (k : ℕ) (name : IsPlaceName k) (a : Attr) (is : attr k d ≡ Some a) (lists_it : has_list locations_kind a ≡ true) where
  read : IsThere locations_kind s.locations s.units.addr u a
  read = fine u uc a (flat_has (λ (e : Entry). e.attrs) u.entries d a dc (found_there k d.attrs a is)) lists_it

  by_list : (o : Option (List Located)) → list_at locations_kind s.locations s.units.addr u read.at ≡ o → is_some o ≡ true →
      HasItem s u d k a
  by_list None f g = absurd (cc)
  by_list (Some ls) f g =
      let said : list_of locations_kind s.locations s.units.addr u a ≡ Some ls =
      ap (option_and_then (list_at locations_kind s.locations s.units.addr u)) read.offset ∙ f in
      let item : ListItem = record { place = d.place; attr = k; own = own_place u; index = list_index a; list = ls } in
      record {
        list = ls;
        said = said;
        there =
            flat_has (unit_items s) (units s.units) u item uc
            (flat_has (entry_items s u) u.entries d item dc
            (entry_has s u d k name a is item
            (subst (λ (o : Option (List Located)). Contains (item_of d.place k (own_place u) (list_index a) o) item)
            (sym (ap (λ (b : Bool). if b then list_of locations_kind s.locations s.units.addr u a else None) lists_it ∙ said))
            (0, omega arith, refl))));
      }

  pub has_item : HasItem s u d k a
  has_item = by_list (list_at locations_kind s.locations s.units.addr u read.at) refl read.read
