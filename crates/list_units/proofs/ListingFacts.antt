-- Attributes that refer to location lists, one after another.
use Rattle.std.proofs.Common.{◌≡◌, ◌∙◌, ◌++◌, ◌∷◌, [], ℕ, Bool, true, false, List, Option, Some, None, refl, sym, ap, subst, arith}
use Rattle.std.proofs.Common.{map, append-nil, append_assoc}
use Rattle.std.specs.Prelude.{◌==◌, ◌&&◌, ◌||◌, if◌then◌else◌, flat_map, option_and_then}
use Rattle.std.specs.List.{AllZip}
use Rattle.std.proofs.lemmas.Bool.{eqb-true}
use Rattle.table_core.specs.declared.form.TheConstants.{DW_FORM_sec_offset, DW_FORM_loclistx}
use Rattle.table_core.specs.AttributeForms.{is_block}
use Rattle.dw_unit.specs.declared.entry.Attr.{Attr}
use Rattle.dw_unit.specs.CompUnits.{Entry, Unit, attr}
use Rattle.dw_unit.specs.Faults.{is_located}
use Rattle.dw_unit.specs.ListedEntries.{listed}
use Rattle.dw_unit.specs.ListedUnits.{plain, plain_unit}
use Rattle.cover_lists.specs.declared.kept_list.KeptList.{KeptList}
use Rattle.cover_lists.specs.KeptLists.{AreMore, IsNumberOf}
use Rattle.cover_lists.specs.Located.{Located}
use Rattle.dw_lists.specs.declared.named_list.NamedList.{NamedList}
use Rattle.dw_lists.specs.Faults.{ListSections}
use Rattle.dw_lists.specs.KnownLists.{location_list}
use Rattle.dw_lists.specs.Lists.{locations_kind, has_list, list_of, list_offset}
use Rattle.dw_lists.specs.UnitLists.{own_place}
use Rattle.list_units.specs.Listing.{ListItem, list_index, list_named, item_of, attr_items, entry_items, unit_items, IsNameOf, AreNamesOf}
use Rattle.list_units.specs.Listing.{HasMore, name_of, list_found, index_found}
use Rattle.list_units.proofs.LocationFacts.{number_same}
use Rattle.list_units.proofs.PlainUnits.{whole}
use Rattle.list_units.proofs.Zips.{zip_each, zip_push}

-- The list of an attribute

pub unnumbered : (lists : List KeptList) (o : Option (List Located)) → o ≡ None → IsNumberOf lists None o
unnumbered lists o e = subst (IsNumberOf lists None) (sym e) (record { some = refl; within = λ n f. absurd (cc); says = λ a. refl })

names_none : (s : ListSections) (u : Unit) (a : Attr) → has_list locations_kind a ≡ false → list_named s u a ≡ None
names_none s u a e = ap (λ (b : Bool). if b then list_of locations_kind s.locations s.units.addr u a else None) e

none_if : {X : Type 0} (b : Bool) (o : Option X) → o ≡ None → (if b then o else None) ≡ None
none_if true o e = e
none_if false o e = refl

pub lacks_offset : (s : ListSections) (u : Unit) (a : Attr) → list_offset locations_kind s.locations u a ≡ None → list_named s u a ≡ None
lacks_offset s u a e =
    none_if (has_list locations_kind a) (list_of locations_kind s.locations s.units.addr u a) (ap (option_and_then (location_list s u)) e)

-- An expression in an attribute is in no list.
block_listed : (form : ℕ) → is_block form ≡ true → (form == DW_FORM_sec_offset || form == DW_FORM_loclistx) ≡ false
block_listed form block = step (form == DW_FORM_sec_offset) (form == DW_FORM_loclistx) refl refl
  where
    step : (a b : Bool) → (form == DW_FORM_sec_offset) ≡ a → (form == DW_FORM_loclistx) ≡ b → (a || b) ≡ false
    step true b e f =
        let wrong : false ≡ true = subst (λ (n : ℕ). is_block n ≡ true) (eqb-true form DW_FORM_sec_offset e) block in absurd (cc)
    step false true e f =
        let wrong : false ≡ true = subst (λ (n : ℕ). is_block n ≡ true) (eqb-true form DW_FORM_loclistx f) block in absurd (cc)
    step false false e f = refl

pub names_block : (s : ListSections) (u : Unit) (a : Attr) → is_located a.name ≡ true → is_block a.form ≡ true → list_named s u a ≡ None
names_block s u a located block = names_none s u a (λ i. located i && block_listed a.form block i)

pub names_one : (s : ListSections) (u : Unit) (a : Attr) (at : ℕ) → has_list locations_kind a ≡ true →
    list_offset locations_kind s.locations u a ≡ Some at →
    list_named s u a ≡ location_list s u at
names_one s u a at e f = (λ i. if e i then option_and_then (location_list s u) (f i) else None)

-- Names

name_still : (olds news : List KeptList) (n : NamedList) (x : ListItem) → AreMore olds news → IsNameOf olds n x → IsNameOf news n x
name_still olds news n x more is = record {
  place = is.place;
  attr = is.attr;
  own = is.own;
  index = is.index;
  within = omega (arith, more.count, is.within);
  says = λ a. number_same olds news n.list a more is.within ∙ is.says a;
}

module _ (lists : List KeptList) (place attr own : ℕ) (index : Option ℕ) (named : List NamedList) (before : List ListItem)
    (z : AllZip (IsNameOf lists) named before) where
  put_by : (n : Option ℕ) (o : Option (List Located)) → IsNumberOf lists n o →
      AllZip (IsNameOf lists) (named ++ name_of place attr own index n) (before ++ item_of place attr own index o)
  put_by None None is =
      subst (λ (ns : List NamedList). AllZip (IsNameOf lists) ns (before ++ [])) (sym (append-nil named))
      (subst (AllZip (IsNameOf lists) named) (sym (append-nil before)) z)
  put_by None (Some ls) is = let e : false ≡ true = is.some in absurd (cc)
  put_by (Some n) None is = let e : true ≡ false = is.some in absurd (cc)
  put_by (Some n) (Some ls) is =
      zip_push (IsNameOf lists) named before (record { place = place; attr = attr; own = own; index = index; list = n })
      (record { place = place; attr = attr; own = own; index = index; list = ls }) z
      (record { place = refl; attr = refl; own = refl; index = refl; within = is.within n refl; says = is.says })

-- One more attribute, and one more list of kept attributes

pub named_one : (s : ListSections) (u : Unit) (e : Entry) (name : ℕ) (olds lists : List KeptList) (before named : List NamedList)
    (number : Option ℕ) →
    AreMore olds lists → IsNumberOf lists number (list_found s u name e) →
    named ≡ before ++ name_of e.place name (own_place u) (index_found name e) number →
    HasMore olds lists before named (attr_items s u e.place name (attr name e))
named_one s u e name olds lists before named number more is made = λ others z.
    subst (λ (ns : List NamedList). AllZip (IsNameOf lists) ns (others ++ attr_items s u e.place name (attr name e))) (sym made)
    (subst (λ (xs : List ListItem). AllZip (IsNameOf lists) (before ++ name_of e.place name (own_place u) (index_found name e) number)
    (others ++ xs))
    (sym (items_are (attr name e)))
    (put_by lists e.place name (own_place u) (index_found name e) before others
    (zip_each (IsNameOf olds) (IsNameOf lists) before others z (λ n x. name_still olds lists n x more)) number (list_found s u name e) is))
  where
    items_are : (o : Option Attr) → attr_items s u e.place name o
        ≡ item_of e.place name (own_place u) (option_and_then list_index o) (option_and_then (list_named s u) o)
    items_are None = refl
    items_are (Some a) = refl

pub names_joined : (olds now next lists : List KeptList) (before mid named : List NamedList) (xs ys : List ListItem) → AreMore olds now →
    HasMore now next before mid xs → HasMore next lists mid named ys → HasMore olds lists before named (xs ++ ys)
names_joined olds now next lists before mid named xs ys more a b = λ others z.
    subst (AreNamesOf lists named) (append_assoc others xs ys)
    (b (others ++ xs) (a others (zip_each (IsNameOf olds) (IsNameOf now) before others z (λ n x. name_still olds now n x more))))

-- The kept attributes of a unit, by its listed entries

items_rest : (s : ListSections) (place offset : ℕ) (e : Entry) (ds xs : List Entry) →
    flat_map (entry_items s (plain_unit (map listed (e ∷ ds)))) (map plain (map listed xs)) ≡ flat_map
    (entry_items s (whole s place offset (e ∷ ds))) xs
items_rest s place offset e ds [] = refl
items_rest s place offset e ds (x ∷ xs) = ap (λ (l : List ListItem). entry_items s (whole s place offset (e ∷ ds)) x ++ l)
    (items_rest s place offset e ds xs)

pub items_listed : (s : ListSections) (place offset : ℕ) (es : List Entry) →
    unit_items s (plain_unit (map listed es)) ≡ unit_items s (whole s place offset es)
items_listed s place offset [] = refl
items_listed s place offset (e ∷ ds) = items_rest s place offset e ds (e ∷ ds)
