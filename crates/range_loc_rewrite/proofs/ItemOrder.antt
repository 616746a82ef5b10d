-- Attributes that refer to location lists are in the order of their entries, and there are none without a section.
use Rattle.std.proofs.Common.{◌≡◌, ◌∙◌, ◌+◌, ◌*◌, ◌≤◌, ◌==◌, ◌++◌, ◌∷◌, [], ℕ, List, Option, Some, None, refl, sym, ap, subst, arith, map}
use Rattle.std.specs.Prelude.{flat_map, Contains, option_and_then, if◌then◌else◌}
use Rattle.std.specs.List.{AllZip}
use Rattle.dw_unit.specs.declared.entry.Attr.{Attr}
use Rattle.dw_unit.specs.CompUnits.{Entry, Unit, units, attr}
use Rattle.answer_runs.proofs.Ascending.{Ascends}
use Rattle.cover_lists.specs.declared.kept_list.KeptList.{KeptList}
use Rattle.dw_lists.specs.declared.list_kind.ListKind.TheVariants.{Locations}
use Rattle.dw_lists.specs.declared.named_list.NamedList.{NamedList}
use Rattle.dw_lists.specs.Faults.{ListSections}
use Rattle.list_units.specs.Listing.{ListItem, list_index, list_named, item_of, attr_items, entry_items, unit_items, all_items, IsNameOf}
use Rattle.dw_lists.specs.Lists.{locations_kind, only_within, offset_of_index}
use Rattle.cover_lists.specs.Located.{Located}
use Rattle.dw_lists.specs.UnitLists.{own_place}
use Rattle.list_writer.specs.WrittenTables.{key, IsNaming, AreInOrder, OwnsRise}
use Rattle.range_loc_rewrite.proofs.KeptLookups.{place_of, all_of, entries_end, ascends_behind, end_least, own_below, own_least}
use Rattle.range_loc_rewrite.proofs.KeptOrder.{nowhere}
use Rattle.list_units.proofs.ListingFacts.{lacks_offset}

-- By their keys

abbrev KeysRise : ℕ → List ListItem → Type 0
KeysRise lo [] = Prim.Unit {0}
KeysRise lo (x ∷ xs) = (lo ≤ key x.place x.attr) × IsNaming Locations x.attr × KeysRise (key x.place x.attr + 1) xs

keys_less : (less lo : ℕ) (xs : List ListItem) → less ≤ lo → KeysRise lo xs → KeysRise less xs
keys_less less lo [] h rise = tt
keys_less less lo (x ∷ xs) h rise = (omega (arith, h, rise.0), rise.1, rise.2)

assoc : (x y z : List ListItem) → ((x ++ y) ++ z) ≡ x ++ (y ++ z)
assoc [] y z = refl
assoc (q ∷ x) y z = ap (λ (l : List ListItem). q ∷ l) (assoc x y z)

module _ (s : ListSections) where
  attr_rise : (u : Unit) (place name : ℕ) → IsNaming Locations name → (o : Option Attr) (lo : ℕ) (rest : List ListItem) →
      lo ≤ key place name →
      KeysRise (key place name + 1) rest → KeysRise lo (attr_items s u place name o ++ rest)
  attr_rise u place name naming None lo rest h rise = keys_less lo (key place name + 1) rest (omega (arith, h)) rise
  attr_rise u place name naming (Some a) lo rest h rise = by (list_named s u a)
    where
      by : (o : Option (List Located)) → KeysRise lo (item_of place name (own_place u) (list_index a) o ++ rest)
      by None = keys_less lo (key place name + 1) rest (omega (arith, h)) rise
      by (Some ls) = (h, naming, rise)

  entry_rise : (u : Unit) (e : Entry) (lo : ℕ) (rest : List ListItem) → lo ≤ 128 * e.place → KeysRise (128 * (e.place + 1)) rest →
      KeysRise lo (entry_items s u e ++ rest)
  entry_rise u e lo rest h rise =
      subst (KeysRise lo) (sym (assoc (attr_items s u e.place 0x02 (attr 0x02 e)) (attr_items s u e.place 0x40 (attr 0x40 e)) rest))
      (attr_rise u e.place 0x02 refl (attr 0x02 e) lo (attr_items s u e.place 0x40 (attr 0x40 e) ++ rest) (omega (arith, h))
      (attr_rise u e.place 0x40 refl (attr 0x40 e) (key e.place 0x02 + 1) rest (omega arith)
      (keys_less (key e.place 0x40 + 1) (128 * (e.place + 1)) rest (omega arith) rise)))

  entries_rise : (u : Unit) (es ds : List Entry) (lo : ℕ) (rest : List ListItem) → Ascends lo (map place_of (es ++ ds)) →
      ((lo : ℕ) → Ascends lo (map place_of ds) → KeysRise (128 * lo) rest) → KeysRise (128 * lo) (flat_map (entry_items s u) es ++ rest)
  entries_rise u [] ds lo rest up more = more lo up
  entries_rise u (e ∷ es) ds lo rest up more =
      subst (KeysRise (128 * lo)) (sym (assoc (entry_items s u e) (flat_map (entry_items s u) es) rest))
      (entry_rise u e (128 * lo) (flat_map (entry_items s u) es ++ rest) (let h = up.0 in omega (arith, h))
      (entries_rise u es ds (e.place + 1) rest up.1 more))

  units_rise : (us : List Unit) (lo : ℕ) → Ascends lo (map place_of (all_of us)) → KeysRise (128 * lo) (flat_map (unit_items s) us)
  units_rise [] lo up = tt
  units_rise (u ∷ us) lo up = entries_rise u u.entries (all_of us) lo (flat_map (unit_items s) us) up (λ lo up. units_rise us lo up)

-- By the own entries of their units

abbrev OwnRise : ℕ → List ListItem → Type 0
OwnRise lo [] = Prim.Unit {0}
OwnRise lo (x ∷ xs) = (lo ≤ x.own) × OwnRise x.own xs

own_less : (less lo : ℕ) (xs : List ListItem) → less ≤ lo → OwnRise lo xs → OwnRise less xs
own_less less lo [] h rise = tt
own_less less lo (x ∷ xs) h rise = (omega (arith, h, rise.0), rise.1)

module _ (s : ListSections) where
  attr_own : (u : Unit) (place name : ℕ) (o : Option Attr) (rest : List ListItem) → OwnRise (own_place u) rest →
      OwnRise (own_place u) (attr_items s u place name o ++ rest)
  attr_own u place name None rest rise = rise
  attr_own u place name (Some a) rest rise = by (list_named s u a)
    where
      by : (o : Option (List Located)) → OwnRise (own_place u) (item_of place name (own_place u) (list_index a) o ++ rest)
      by None = rise
      by (Some ls) = (omega arith, rise)

  entries_own : (u : Unit) (es : List Entry) (rest : List ListItem) → OwnRise (own_place u) rest →
      OwnRise (own_place u) (flat_map (entry_items s u) es ++ rest)
  entries_own u [] rest rise = rise
  entries_own u (e ∷ es) rest rise =
      let first : List ListItem = attr_items s u e.place 0x02 (attr 0x02 e) in
      let second : List ListItem = attr_items s u e.place 0x40 (attr 0x40 e) in
      subst (OwnRise (own_place u)) (sym (assoc (first ++ second) (flat_map (entry_items s u) es) rest
      ∙ assoc first second (flat_map (entry_items s u) es ++ rest)))
      (attr_own u e.place 0x02 (attr 0x02 e) (second ++ (flat_map (entry_items s u) es ++ rest))
      (attr_own u e.place 0x40 (attr 0x40 e) (flat_map (entry_items s u) es ++ rest) (entries_own u es rest rise)))

  units_own : (us : List Unit) (lo : ℕ) → Ascends lo (map place_of (all_of us)) → OwnRise lo (flat_map (unit_items s) us)
  units_own [] lo up = tt
  units_own (u ∷ us) lo up = by u.entries refl (units_own us (entries_end lo u.entries) (ascends_behind lo u.entries (all_of us) up))
    where
      by : (es : List Entry) → u.entries ≡ es → OwnRise (entries_end lo u.entries) (flat_map (unit_items s) us) →
          OwnRise lo (unit_items s u ++ flat_map (unit_items s) us)
      by [] is rest =
          subst (λ (es : List Entry). OwnRise lo (flat_map (entry_items s u) es ++ flat_map (unit_items s) us)) (sym is)
          (own_less lo (entries_end lo u.entries) (flat_map (unit_items s) us) (end_least lo u.entries (all_of us) up) rest)
      by (e ∷ es) is rest =
          let there : Contains u.entries e = subst (λ (l : List Entry). Contains l e) (sym is) (0, omega arith, refl) in
          let low = own_least lo u.entries (all_of us) e u.place u.abbrev_offset up there in
          let below = own_below lo u.entries (all_of us) e u.place u.abbrev_offset up there in
          own_less lo (own_place u) (unit_items s u ++ flat_map (unit_items s) us) low
          (entries_own u u.entries (flat_map (unit_items s) us) (own_less (own_place u) (entries_end lo u.entries)
          (flat_map (unit_items s) us) (omega (arith, below)) rest))

-- Their kept attributes

module _ (lists : List KeptList) where
  named_rise : (lo : ℕ) (named : List NamedList) (items : List ListItem) → AllZip (IsNameOf lists) named items → KeysRise lo items →
      AreInOrder Locations lo named
  named_rise lo [] items z rise = tt
  named_rise lo (n ∷ named) [] z rise = absurd z
  named_rise lo (n ∷ named) (x ∷ items) z rise =
      let same : key n.place n.attr ≡ key x.place x.attr = (λ i. key (z.0.place i) (z.0.attr i)) in (
        subst (λ (k : ℕ). lo ≤ k) (sym same) rise.0,
        subst (IsNaming Locations) (sym z.0.attr) rise.1,
        subst (λ (k : ℕ). AreInOrder Locations (k + 1) named) (sym same) (named_rise (key x.place x.attr + 1) named items z.1 rise.2),
      )

  named_own : (lo : ℕ) (named : List NamedList) (items : List ListItem) → AllZip (IsNameOf lists) named items → OwnRise lo items →
      OwnsRise lo named
  named_own lo [] items z rise = tt
  named_own lo (n ∷ named) [] z rise = absurd z
  named_own lo (n ∷ named) (x ∷ items) z rise = (
    subst (λ (k : ℕ). lo ≤ k) (sym z.0.own) rise.0,
    subst (λ (k : ℕ). OwnsRise k named) (sym z.0.own)
        (named_own x.own named items z.1 rise.1),
  )

  pub names_in_order : (s : ListSections) (named : List NamedList) → AllZip (IsNameOf lists) named (all_items s) →
      Ascends 0 (map place_of (all_of (units s.units))) →
      AreInOrder Locations 0 named
  names_in_order s named z up = named_rise 0 named (all_items s) z (units_rise s (units s.units) 0 up)

  pub names_own : (s : ListSections) (named : List NamedList) → AllZip (IsNameOf lists) named (all_items s) →
      Ascends 0 (map place_of (all_of (units s.units))) →
      OwnsRise 0 named
  names_own s named z up = named_own 0 named (all_items s) z (units_own s (units s.units) 0 up)

-- Without a section there are none

module _ (s : ListSections) (empty : s.locations ≡ []) where
  no_list : (u : Unit) (a : Attr) → list_named s u a ≡ None
  no_list u a =
      lacks_offset s u a
      (ap (λ (section : List ℕ). option_and_then (only_within section)
      (if a.form == 0x22 then offset_of_index locations_kind s.locations u a.value else Some a.value)) empty
      ∙ nowhere (if a.form == 0x22 then offset_of_index locations_kind s.locations u a.value else Some a.value))

  no_attr : (u : Unit) (place name : ℕ) (o : Option Attr) → attr_items s u place name o ≡ []
  no_attr u place name None = refl
  no_attr u place name (Some a) = ap (item_of place name (own_place u) (list_index a)) (no_list u a)

  no_entries : (u : Unit) (es : List Entry) → flat_map (entry_items s u) es ≡ []
  no_entries u [] = refl
  no_entries u (e ∷ es) = (λ i. (no_attr u e.place 0x02 (attr 0x02 e) i ++ no_attr u e.place 0x40 (attr 0x40 e) i) ++ no_entries u es i)

  no_units : (us : List Unit) → flat_map (unit_items s) us ≡ []
  no_units [] = refl
  no_units (u ∷ us) = (λ i. no_entries u u.entries i ++ no_units us i)

  pub no_names : (lists : List KeptList) (named : List NamedList) → AllZip (IsNameOf lists) named (all_items s) → named ≡ []
  no_names lists named z = by named (subst (AllZip (IsNameOf lists) named) (no_units (units s.units)) z)
    where
      by : (ns : List NamedList) → AllZip (IsNameOf lists) ns [] → ns ≡ []
      by [] z = refl
      by (n ∷ ns) z = absurd z
