-- The list indexes that units use, and what is kept of them.
use Rattle.std.proofs.Common.{◌≡◌, ◌∙◌, ◌+◌, ◌<◌, ◌≤◌, ◌==◌, ◌++◌, ◌∷◌, [], ℕ, true, List, Option, Some, None, All, refl, sym, ap}
use Rattle.std.proofs.Common.{subst, arith}
use Rattle.std.proofs.Common.{filter, map, ⊎_elim}
use Rattle.std.specs.Prelude.{Contains, flat_map, fold, is_some, max, option_and_then, option_map}
use Rattle.std.proofs.lemmas.Bool.{eq-eqb}
use Rattle.std.proofs.lemmas.List.Elements.{All-cons, All-nil}
use Rattle.rb_bytes.proofs.Members.{Contains-nil, Contains-cons_cases, Contains-there}
use Rattle.rb_bytes.proofs.Searches.{Contains-filter}
use Rattle.answer_runs.specs.Choices.{first_of}
use Rattle.answer_runs.proofs.Ascending.{Ascends}
use Rattle.dw_unit.specs.declared.entry.Attr.{Attr}
use Rattle.dw_unit.specs.CompUnits.{Entry, Unit, attr, own_entry}
use Rattle.dw_lists.specs.declared.indexed_unit.IndexedUnit.{IndexedUnit}
use Rattle.dw_lists.specs.declared.list_kind.ListKind.{ListKind}
use Rattle.dw_lists.specs.declared.named_list.NamedList.{NamedList}
use Rattle.dw_lists.specs.IndexedUnits.{indexed_by, indexed_of}
use Rattle.dw_lists.specs.ListReading.{kind_of}
use Rattle.dw_lists.specs.Lists.{Kind}
use Rattle.dw_lists.specs.UnitLists.{own_place}
use Rattle.dw_lists.specs.Weights.{greatest, indexes, indexes_in}
use Rattle.list_writer.specs.WrittenTables.{AreInOrder, AreLeft, IsOwned, OwnsRise, UnitsRise, indexed_in}
use Rattle.list_writer.proofs.PutEntries.{flat_from, flat_has}
use Rattle.list_writer.proofs.UnitSteps.{units_less}
use Rattle.range_loc_rewrite.specs.NewOffsets.{NeedsTable}
use Rattle.range_loc_rewrite.proofs.KeptLookups.{all_of, ascends_behind, end_least, entries_end, own_at, own_below, own_least, place_of}

contains_map : {X Y : Type 0} (f : X → Y) (xs : List X) (x : X) → Contains xs x → Contains (map f xs) (f x)
contains_map f [] x c = absurd (Contains-nil x c)
contains_map f (y ∷ xs) x c = ⊎_elim
    (λ (same : y ≡ x). (0, omega arith, ap f same))
    (λ (there : Contains xs x). Contains-there (f y) (map f xs) (f x) (contains_map f xs x there))
    (Contains-cons_cases y xs x c)

-- Indexes

-- An attribute of the form uses its value.
pub used_index : (form : ℕ) (u : Unit) (e : Entry) (a : Attr) → Contains u.entries e → Contains e.attrs a → a.form ≡ form →
    Contains (indexes form u) a.value
used_index form u e a ec ac f =
    contains_map (λ (b : Attr). b.value) (filter (λ (b : Attr). b.form == form) (flat_map (λ (d : Entry). d.attrs) u.entries)) a
    (Contains-filter (λ (b : Attr). b.form == form) (flat_map (λ (d : Entry). d.attrs) u.entries) a
    (flat_has (λ (d : Entry). d.attrs) u.entries e a ec ac) (eq-eqb a.form form f))

record IsMost (a : ℕ) (is : List ℕ) (n : ℕ) : Type 0 where
  pub first : a ≤ n
  pub rest : (i : ℕ) → Contains is i → i ≤ n

fold_most : (a : ℕ) (is : List ℕ) → IsMost a is (fold max a is)
fold_most a [] = record { first = omega arith; rest = λ i c. absurd (Contains-nil i c) }
fold_most a (j ∷ is) =
    let more = fold_most (max a j) is in
    let h = more.first in
    record {
      first = omega (arith, h);
      rest = λ i c. ⊎_elim
          (λ (same : j ≡ i). omega (arith, h, same))
          (λ (there : Contains is i). more.rest i there)
          (Contains-cons_cases j is i c);
    }

-- No index is above the greatest.
pub greatest_is : (is : List ℕ) (i : ℕ) → Contains is i → (g : ℕ) × (greatest is ≡ Some g) × (i ≤ g)
greatest_is [] i c = absurd (Contains-nil i c)
greatest_is (j ∷ is) i c =
    let most = fold_most j is in (
      fold max j is,
      refl,
      ⊎_elim (λ (same : j ≡ i). subst (λ (n : ℕ). n ≤ fold max j is) same most.first) (λ (there : Contains is i). most.rest i there)
          (Contains-cons_cases j is i c),
    )

pub all_below : (is : List ℕ) (count : ℕ) → ((g : ℕ) → greatest is ≡ Some g → g < count) → All (λ i. i < count) is
all_below [] count above = All-nil (λ i. i < count)
all_below (j ∷ is) count above =
    let most = fold_most j is in
    let low = above (fold max j is) refl in
    let first = most.first in
    All-cons (λ i. i < count) j is (omega (arith, low, first)) (rest is (λ i c. let h = most.rest i c in omega (arith, h, low)))
  where
    rest : (ks : List ℕ) → ((i : ℕ) → Contains ks i → i < count) → All (λ i. i < count) ks
    rest [] low = All-nil (λ i. i < count)
    rest (k ∷ ks) low = All-cons (λ i. i < count) k ks (low k (0, omega arith, refl)) (rest ks (λ i c. low i (Contains-there k ks i c)))

-- A unit that uses an index has an entry.
pub used_entry : (form : ℕ) (u : Unit) (i : ℕ) → Contains (indexes form u) i → (e : Entry) × Contains u.entries e
used_entry form u i c = by u.entries refl
  where
    by : (es : List Entry) → u.entries ≡ es → (e : Entry) × Contains u.entries e
    by [] is =
        absurd (Contains-nil i (subst (λ (es : List Entry). Contains (indexes_in form (flat_map (λ (e : Entry). e.attrs) es)) i) is c))
    by (e ∷ es) is = (e, subst (λ (l : List Entry). Contains l e) (sym is) (0, omega arith, refl))

pub some_used : (is : List ℕ) → is_some (greatest is) ≡ true → (i : ℕ) × Contains is i
some_used [] e = absurd (cc)
some_used (i ∷ is) e = (i, (0, omega arith, refl))

-- The kept fields of a unit

abbrev pub indexed_at : Kind → Unit → Entry → IndexedUnit
indexed_at k u d = record {
  own = d.place;
  base = option_map (λ (a : Attr). a.value) (attr k.base_name d);
  greatest = greatest (indexes k.index_form u);
}

pub some_own : (u : Unit) (e : Entry) → Contains u.entries e → (d : Entry) × (own_entry u ≡ Some d)
some_own u e c = by u.entries refl c
  where
    by : (es : List Entry) → u.entries ≡ es → Contains es e → (d : Entry) × (own_entry u ≡ Some d)
    by [] is c = absurd (Contains-nil e c)
    by (d ∷ es) is c = (d, ap first_of is)

kept_is : (k : Kind) (u : Unit) (d : Entry) → own_entry u ≡ Some d → indexed_of k u ≡ indexed_at k u d ∷ []
kept_is k u d is =
    ap (indexed_by k u) is
    ∙ ap (λ (b : Option ℕ). record { own = d.place; base = b; greatest = greatest (indexes k.index_form u) } ∷ [])
    (ap (λ (o : Option Entry). option_map (λ (a : Attr). a.value) (option_and_then (attr k.base_name) o)) is)

pub has_unit : (k : Kind) (us : List Unit) (u : Unit) (d : Entry) → Contains us u → own_entry u ≡ Some d →
    Contains (flat_map (indexed_of k) us) (indexed_at k u d)
has_unit k us u d c is =
    flat_has (indexed_of k) us u (indexed_at k u d) c
    (subst (λ (l : List IndexedUnit). Contains l (indexed_at k u d)) (sym (kept_is k u d is)) (0, omega arith, refl))

pub record IsUnitOf (k : Kind) (us : List Unit) (x : IndexedUnit) : Type 0 where
  pub u : Unit
  pub unit : Contains us u
  pub d : Entry
  pub is : own_entry u ≡ Some d
  pub kept : indexed_at k u d ≡ x

pub from_unit : (k : Kind) (us : List Unit) (x : IndexedUnit) → Contains (flat_map (indexed_of k) us) x → IsUnitOf k us x
from_unit k us x c =
    let p = flat_from (indexed_of k) us x c in
    by p.0 p.1 (own_entry p.0) refl p.2
  where
    by : (u : Unit) → Contains us u → (o : Option Entry) → own_entry u ≡ o → Contains (indexed_of k u) x → IsUnitOf k us x
    by u uc None f c = absurd (Contains-nil x (subst (λ (o : Option Entry). Contains (indexed_by k u o) x) f c))
    by u uc (Some d) f c = record {
      u = u;
      unit = uc;
      d = d;
      is = f;
      kept = ⊎_elim (λ (same : indexed_at k u d ≡ x). same) (λ (there : Contains [] x). absurd (Contains-nil x there))
          (Contains-cons_cases (indexed_at k u d) [] x (subst (λ (l : List IndexedUnit). Contains l x) (kept_is k u d f) c));
    }

-- In the order of their own entries.
pub units_rise : (k : Kind) (us : List Unit) (lo : ℕ) → Ascends lo (map place_of (all_of us)) → UnitsRise lo (flat_map (indexed_of k) us)
units_rise k [] lo up = tt
units_rise k (u ∷ us) lo up =
    by u.entries refl (units_rise k us (entries_end lo u.entries) (ascends_behind lo u.entries (all_of us) up))
  where
    rest : List IndexedUnit
    rest = flat_map (indexed_of k) us

    by : (es : List Entry) → u.entries ≡ es → UnitsRise (entries_end lo u.entries) rest → UnitsRise lo (indexed_of k u ++ rest)
    by [] is more =
        subst (λ (o : Option Entry). UnitsRise lo (indexed_by k u o ++ rest)) (sym (ap first_of is))
        (units_less lo (entries_end lo u.entries) rest (end_least lo u.entries (all_of us) up) more)
    by (e ∷ es) is more =
        let there : Contains u.entries e = subst (λ (l : List Entry). Contains l e) (sym is) (0, omega arith, refl) in
        let own : own_place u ≡ e.place = own_at u e (ap first_of is) in
        let low = own_least lo u.entries (all_of us) e u.place u.abbrev_offset up there in
        let below = own_below lo u.entries (all_of us) e u.place u.abbrev_offset up there in
        subst (λ (l : List IndexedUnit). UnitsRise lo (l ++ rest)) (sym (kept_is k u e (ap first_of is)))
        (omega (arith, low, own), units_less (e.place + 1) (entries_end lo u.entries) rest (omega (arith, below, own)) more)

-- Attributes that refer to lists

-- An attribute that refers to a list by an index.
pub record IsNamedBy (k : Kind) (e : Entry) (i : ℕ) : Type 0 where
  pub name : ℕ
  pub a : Attr
  pub is : attr name e ≡ Some a
  pub there : Contains e.attrs a
  pub naming : k.names_list name ≡ true
  pub form : a.form ≡ k.index_form
  pub value : a.value ≡ i

-- A kept attribute is of an entry of a unit that needs a table.
pub record HasOrigin (k : Kind) (gets_list : Entry → Type 0) (us : List Unit) (r : NamedList) : Type 0 where
  pub u : Unit
  pub unit : Contains us u
  pub e : Entry
  pub entry : Contains u.entries e
  pub own : r.own ≡ own_place u
  pub named : (i : ℕ) → r.index ≡ Some i → IsNamedBy k e i
  pub needs : NeedsTable k gets_list u

pub is_owned : (k : Kind) (gets_list : Entry → Type 0) (us : List Unit) (r : NamedList) → HasOrigin k gets_list us r →
    IsOwned (flat_map (indexed_of k) us) r
is_owned k gets_list us r o =
    let d = some_own o.u o.e o.entry in
    record {
      x = indexed_at k o.u d.0;
      there = has_unit k us o.u d.0 o.unit d.1;
      own = sym (o.own ∙ own_at o.u d.0 d.1);
      index = λ i is.
          let n = o.named i is in
          greatest_is (indexes k.index_form o.u) i
          (subst (Contains (indexes k.index_form o.u)) n.value (used_index k.index_form o.u o.e n.a o.entry n.there n.form));
    }

-- For all attributes and units, or without any.
pub left_in : (k : ListKind) (gets_list : Entry → Type 0) (us : List Unit) (section : List ℕ) (named : List NamedList) →
    AreInOrder k 0 named → OwnsRise 0 named → Ascends 0 (map place_of (all_of us)) →
    ((r : NamedList) → Contains named r → HasOrigin (kind_of k) gets_list us r) →
    AreLeft k 0 0 named (indexed_in section named (flat_map (indexed_of (kind_of k)) us))
left_in k gets_list us section named order owns up origin = by section named left
  where
    all : List IndexedUnit
    all = flat_map (indexed_of (kind_of k)) us

    left : AreLeft k 0 0 named all
    left = record {
      order = order;
      owns = owns;
      rise = units_rise (kind_of k) us 0 up;
      owned = λ r c. is_owned (kind_of k) gets_list us r (origin r c);
    }

    by : (section : List ℕ) (ns : List NamedList) → AreLeft k 0 0 ns all → AreLeft k 0 0 ns (indexed_in section ns all)
    by [] [] left = record { order = left.order; owns = left.owns; rise = tt; owned = λ r c. absurd (Contains-nil r c) }
    by [] (r ∷ rs) left = left
    by (b ∷ bs) ns left = left
