-- Location lists that were read, and the attributes that refer to them.
use Rattle.std.proofs.Common.{◌≡◌, ◌∙◌, ◌==◌, ◌<◌, ◌≤◌, ◌++◌, ◌∷◌, [], ℕ, Bool, true, false, List, Option, Some, None, BTreeMap, refl, sym}
use Rattle.std.proofs.Common.{ap, subst, arith, length, filter, append-nil, append_assoc, cond, nat_cmp}
use Rattle.std.specs.Prelude.{All, if◌then◌else◌, flat_map, option_and_then}
use Rattle.std.specs.BTreeMap.{get, is_at}
use Rattle.std.specs.Global.{Vec}
use Rattle.std.specs.Option.{option_map_or}
use Rattle.std.specs.List.{find}
use Rattle.std.proofs.lemmas.List.Elements.{All-nil, All-cons, All-head, All-tail, All-append, All-weaker, filter-append}
use Rattle.std.proofs.lemmas.List.Concat.{flat_map-append}
use Rattle.dw_unit.specs.declared.entry.Attr.{Attr}
use Rattle.dw_unit.specs.CompUnits.{Entry, Unit, attr}
use Rattle.table_core.specs.AttributeForms.{is_block}
use Rattle.cover_lists.specs.declared.cover_tree.Cover.{Cover}
use Rattle.cover_lists.specs.declared.groups.Groups.{Groups}
use Rattle.cover_lists.specs.declared.kept_list.KeptList.{KeptList}
use Rattle.list_units.specs.declared.located_attr.LocatedAttr.{LocatedAttr}
use Rattle.list_units.specs.declared.located_attr.Locations.{Locations}
use Rattle.list_units.specs.declared.located_attr.Source.{Source}
use Rattle.list_units.specs.declared.located_attr.Source.TheVariants.{Direct, Listed}
use Rattle.dw_lists.specs.Faults.{ListSections}
use Rattle.cover_lists.specs.Groups.{group_holds, Grow}
use Rattle.cover_lists.specs.KeptLists.{AreMore, IsNumberOf, AreNumbersOf, list_says, number_says}
use Rattle.dw_lists.specs.KnownLists.{location_list}
use Rattle.dw_lists.specs.Lists.{locations_kind, list_offset, list_at}
use Rattle.cover_lists.specs.Located.{Located, in_force}
use Rattle.dw_lists.specs.Locations.{block_of, expressions_of, PlaceSaid, attr_says}
use Rattle.list_units.specs.UnitLocations.{source_says, IsListed, IsSourceOf, IsNamedSource, AreRead, located_says, all_located, located_of}
use Rattle.list_units.specs.UnitLocations.{IsHeld, IsNear, attr_said, AreLocated}
use Rattle.dw_lists.proofs.RangeLists.{known_with}

-- More lists are kept

pub more_none : (xs : List KeptList) → AreMore xs xs
more_none xs = record { count = omega arith; same = λ n h. refl }

pub more_more : (olds mids news : List KeptList) → AreMore olds mids → AreMore mids news → AreMore olds news
more_more olds mids news x y = record {
  count = omega (arith, x.count, y.count);
  same = λ n h. y.same n (omega (arith, x.count)) ∙ x.same n h;
}

pub number_same : (olds news : List KeptList) (n p : ℕ) → AreMore olds news → n < length olds → number_says news n p ≡ number_says olds n p
number_same olds news n p more h = ap (λ (o : Option KeptList). option_map_or (λ l. list_says l p) o []) (more.same n h)

pub number_still : (olds news : List KeptList) (o : Option ℕ) (said : Option (List Located)) → AreMore olds news → IsNumberOf olds o said →
    IsNumberOf news o said
number_still olds news None said more is = record { some = is.some; within = λ n e. absurd (cc); says = is.says }
number_still olds news (Some m) said more is = record {
  some = is.some;
  within = λ n e. omega (arith, more.count, is.within n e);
  says = λ p. number_same olds news m p more (is.within m refl) ∙ is.says p;
}

pub numbers_still : (says : ℕ → Option (List Located)) (olds news : List KeptList) (known : BTreeMap ℕ (Option ℕ)) → AreMore olds news →
    AreNumbersOf says olds known → AreNumbersOf says news known
numbers_still says olds news known more are = λ at o e. number_still olds news o (says at) more (are at o e)

module _ (s : ListSections) (u : Unit) where
  pub read_none : (xs : List KeptList) (known : BTreeMap ℕ (Option ℕ)) → AreNumbersOf (location_list s u) xs known → AreRead s u xs xs known
  read_none xs known are = record { more = more_none xs; known_are = are }

  pub read_more : (olds mids news : List KeptList) (was known : BTreeMap ℕ (Option ℕ)) → AreRead s u olds mids was →
      AreRead s u mids news known →
      AreRead s u olds news known
  read_more olds mids news was known x y = record { more = more_more olds mids news x.more y.more; known_are = y.known_are }

  -- One more list is known.
  pub read_list : (olds news : List KeptList) (was known : BTreeMap ℕ (Option ℕ)) (at : ℕ) (o : Option ℕ) →
      AreNumbersOf (location_list s u) olds was →
      AreMore olds news → IsNumberOf news o (location_list s u at) →
      ((q : ℕ) → get nat_cmp known q ≡ cond (is_at (nat_cmp at) q) (Some o) (get nat_cmp was q)) → AreRead s u olds news known
  read_list olds news was known at o are more is made = record {
    more = more;
    known_are = known_with (λ (q : ℕ) (p : Option ℕ). IsNumberOf news p (location_list s u q)) was known at o
        (numbers_still (location_list s u) olds news was more are) is made;
  }

  -- The sources of expressions

  same_source : (x y : Source) → Some x ≡ Some y → x ≡ y
  same_source x y e = cc

  pub direct_source : (lists : List KeptList) (a : Attr) (v : Vec ℕ) → is_block a.form ≡ true → v.items ≡ block_of s.units.info a →
      IsSourceOf s u lists a (Some (Direct v))
  direct_source lists a v block is = record {
    listed = λ y e. subst (λ (z : Source). IsListed (length lists) z) (same_source (Direct v) y e) tt;
    says = λ p. ap (λ (v : List ℕ). v ∷ []) is ∙ sym (expressions p);
  }
    where
      expressions : (p : ℕ) → expressions_of s u a p ≡ block_of s.units.info a ∷ []
      expressions p = ap (λ (b : Bool). if b then block_of s.units.info a ∷ [] else option_map_or (λ ls. in_force ls p)
          (option_and_then (list_at locations_kind s.locations s.units.addr u) (list_offset locations_kind s.locations u a)) []) block

  pub listed_expressions : (a : Attr) (o : Option ℕ) (p : ℕ) → is_block a.form ≡ false → list_offset locations_kind s.locations u a ≡ o →
      expressions_of s u a p ≡ option_map_or (λ ls. in_force ls p) (option_and_then (location_list s u) o) []
  listed_expressions a o p block offset =
      ap (λ (b : Bool). if b then block_of s.units.info a ∷ [] else option_map_or (λ ls. in_force ls p)
      (option_and_then (list_at locations_kind s.locations s.units.addr u) (list_offset locations_kind s.locations u a)) []) block
      ∙ ap (λ (o : Option ℕ). option_map_or (λ ls. in_force ls p) (option_and_then (location_list s u) o) []) offset

  pub no_source : (lists : List KeptList) (a : Attr) → is_block a.form ≡ false → list_offset locations_kind s.locations u a ≡ None →
      IsSourceOf s u lists a None
  no_source lists a block offset = record { listed = λ x e. absurd (cc); says = λ p. sym (listed_expressions a None p block offset) }

  pub number_source : (lists : List KeptList) (a : Attr) (at n : ℕ) → is_block a.form ≡ false →
      list_offset locations_kind s.locations u a ≡ Some at → IsNumberOf lists (Some n) (location_list s u at) →
      IsSourceOf s u lists a (Some (Listed n))
  number_source lists a at n block offset is = record {
    listed = λ x e. subst (λ (z : Source). IsListed (length lists) z) (same_source (Listed n) x e) (is.within n refl);
    says = λ p. is.says p ∙ sym (listed_expressions a (Some at) p block offset);
  }

  pub unread_source : (lists : List KeptList) (a : Attr) (at : ℕ) → is_block a.form ≡ false →
      list_offset locations_kind s.locations u a ≡ Some at → IsNumberOf lists None (location_list s u at) → IsSourceOf s u lists a None
  unread_source lists a at block offset is = record {
    listed = λ x e. absurd (cc);
    says = λ p. is.says p ∙ sym (listed_expressions a (Some at) p block offset);
  }

pub attr_named : (name : ℕ) (e : Entry) (attrs : List Attr) (o : Option Attr) → e.attrs ≡ attrs →
    o ≡ find (λ (a : Attr). a.name == name) attrs → attr name e ≡ o
attr_named name e attrs o same found = ap (λ (l : List Attr). find (λ (a : Attr). a.name == name) l) same ∙ sym found

pub named_some : (s : ListSections) (u : Unit) (lists : List KeptList) (o : Option Attr) (a : Attr) (x : Option Source) → o ≡ Some a →
    IsSourceOf s u lists a x → IsNamedSource s u lists o x
named_some s u lists o a x e is = record {
  listed = is.listed;
  says = λ p. is.says p ∙ sym (ap (λ (o : Option Attr). option_map_or (λ v. expressions_of s u v p) o []) e);
}

pub named_none : (s : ListSections) (u : Unit) (lists : List KeptList) (o : Option Attr) → o ≡ None → IsNamedSource s u lists o None
named_none s u lists o e = record {
  listed = λ x e. absurd (cc);
  says = λ p. sym (ap (λ (o : Option Attr). option_map_or (λ v. expressions_of s u v p) o []) e);
}

-- attributes that are kept

source_same : (olds news : List KeptList) (p : ℕ) (x : Source) → AreMore olds news → IsListed (length olds) x →
    source_says news p x ≡ source_says olds p x
source_same olds news p (Direct x) more listed = refl
source_same olds news p (Listed n) more listed = number_same olds news n p more listed

listed_still : (m n : ℕ) (x : Source) → m ≤ n → IsListed m x → IsListed n x
listed_still m n (Direct x) le listed = tt
listed_still m n (Listed k) le listed = omega arith

all_same : (covers : List Cover) (groups p : ℕ) (olds news : List KeptList) (ls : List LocatedAttr) → AreMore olds news →
    All (IsHeld groups (length olds)) ls → all_located covers news ls p ≡ all_located covers olds ls p
all_same covers groups p olds news [] more held = refl
all_same covers groups p olds news (l ∷ ls) more held =
    step (group_holds covers l.group p)
    (ap (attr_says l.place l.attr) (source_same olds news p l.source more (All-head (IsHeld groups (length olds)) l ls held).1))
    (all_same covers groups p olds news ls more (All-tail (IsHeld groups (length olds)) l ls held))
  where
    kept : List LocatedAttr
    kept = filter (λ (l : LocatedAttr). group_holds covers l.group p) ls

    step : (b : Bool) → located_says news p l ≡ located_says olds p l →
        flat_map (located_says news p) kept ≡ flat_map (located_says olds p) kept →
        flat_map (located_says news p) (if b then l ∷ kept else kept) ≡ flat_map (located_says olds p) (if b then l ∷ kept else kept)
    step true here rest = (λ i. here i ++ rest i)
    step false here rest = rest

-- With more groups.
pub grown_same : (old new : Groups) (lists : List KeptList) (ls : List LocatedAttr) (n p : ℕ) → Grow old new → All (IsHeld old.count n) ls →
    all_located new.covers.items lists ls p ≡ all_located old.covers.items lists ls p
grown_same old new lists [] n p grow held = refl
grown_same old new lists (l ∷ ls) n p grow held =
    ap (λ (b : Bool). flat_map (located_says lists p) (if b then l ∷ kept new else kept new))
    (grow.same l.group p (All-head (IsHeld old.count n) l ls held).0)
    ∙ step (group_holds old.covers.items l.group p) (grown_same old new lists ls n p grow (All-tail (IsHeld old.count n) l ls held))
  where
    kept : Groups → List LocatedAttr
    kept g = filter (λ (l : LocatedAttr). group_holds g.covers.items l.group p) ls

    step : (b : Bool) → flat_map (located_says lists p) (kept new) ≡ flat_map (located_says lists p) (kept old) →
        flat_map (located_says lists p) (if b then l ∷ kept new else kept new)
        ≡ flat_map (located_says lists p) (if b then l ∷ kept old else kept old)
    step true rest = ap (λ (x : List PlaceSaid). located_says lists p l ++ x) rest
    step false rest = rest

pub located-append : (covers : List Cover) (lists : List KeptList) (ls ms : List LocatedAttr) (p : ℕ) →
    all_located covers lists (ls ++ ms) p ≡ all_located covers lists ls p ++ all_located covers lists ms p
located-append covers lists ls ms p =
    ap (flat_map (located_says lists p)) (filter-append (λ (l : LocatedAttr). group_holds covers l.group p) ls ms)
    ∙ flat_map-append (located_says lists p) (filter (λ (l : LocatedAttr). group_holds covers l.group p) ls)
    (filter (λ (l : LocatedAttr). group_holds covers l.group p) ms)

module _ (s : ListSections) (u : Unit) (e : Entry) (name : ℕ) where
  one_says : (covers : List Cover) (lists : List KeptList) (nearest : Option ℕ) (x : Option Source) (p : ℕ) →
      option_map_or (source_says lists p) x [] ≡ option_map_or (λ v. expressions_of s u v p) (attr name e) [] →
      all_located covers lists (located_of e.place name nearest x) p ≡ attr_said s u covers nearest e name p
  one_says covers lists None x p says = refl
  one_says covers lists (Some g) None p says = step (group_holds covers g p) says
    where
      step : (b : Bool) → [] ≡ option_map_or (λ v. expressions_of s u v p) (attr name e) [] →
          [] ≡ attr_says e.place name (if b then option_map_or (λ v. expressions_of s u v p) (attr name e) [] else [])
      step true says = ap (attr_says e.place name) says
      step false says = refl
  one_says covers lists (Some g) (Some x) p says = step (group_holds covers g p) says
    where
      step : (b : Bool) → source_says lists p x ≡ option_map_or (λ v. expressions_of s u v p) (attr name e) [] →
          flat_map (located_says lists p) (if b then record { place = e.place; attr = name; group = g; source = x } ∷ [] else [])
          ≡ attr_says e.place name (if b then option_map_or (λ v. expressions_of s u v p) (attr name e) [] else [])
      step true says = append-nil (attr_says e.place name (source_says lists p x)) ∙ ap (attr_says e.place name) says
      step false says = refl

  one_held : (groups lists : ℕ) (nearest : Option ℕ) (x : Option Source) → IsNear groups nearest →
      ((y : Source) → x ≡ Some y → IsListed lists y) → All (IsHeld groups lists) (located_of e.place name nearest x)
  one_held groups lists None x near listed = All-nil (IsHeld groups lists)
  one_held groups lists (Some g) None near listed = All-nil (IsHeld groups lists)
  one_held groups lists (Some g) (Some x) near listed =
      All-cons (IsHeld groups lists) (record { place = e.place; attr = name; group = g; source = x }) [] (near g refl, listed x refl)
      (All-nil (IsHeld groups lists))

  -- The attribute with a name was added.
  pub located_one : (nearest : Option ℕ) (old new : Locations) (known : BTreeMap ℕ (Option ℕ)) (x : Option Source) →
      AreRead s u old.lists.items new.lists.items known → IsNamedSource s u new.lists.items (attr name e) x →
      new.located.items ≡ old.located.items ++ located_of e.place name nearest x →
      AreLocated s u nearest old new known (λ covers p. attr_said s u covers nearest e name p)
  located_one nearest old new known x read is made = record {
    read = read;
    held = λ groups near held. subst (λ (ls : List LocatedAttr). All (IsHeld groups (length new.lists.items)) ls) (sym made)
        (All-append (IsHeld groups (length new.lists.items)) old.located.items (located_of e.place name nearest x)
        (All-weaker (IsHeld groups (length old.lists.items)) (IsHeld groups (length new.lists.items))
        (λ l h. (h.0, listed_still (length old.lists.items) (length new.lists.items) l.source read.more.count h.1)) old.located.items held)
        (one_held groups (length new.lists.items) nearest x near is.listed));
    says = λ groups covers p near held.
        ap (λ (ls : List LocatedAttr). all_located covers new.lists.items ls p) made
        ∙ located-append covers new.lists.items old.located.items (located_of e.place name nearest x) p
        ∙ (λ i. all_same covers groups p old.lists.items new.lists.items old.located.items read.more held i
        ++ one_says covers new.lists.items nearest x p (is.says p) i);
  }

-- No attribute was added.
pub located_none : (s : ListSections) (u : Unit) (nearest : Option ℕ) (old new : Locations) (known : BTreeMap ℕ (Option ℕ)) →
    AreRead s u old.lists.items new.lists.items known → new.located.items ≡ old.located.items →
    AreLocated s u nearest old new known (λ covers p. [])
located_none s u nearest old new known read made = record {
  read = read;
  held = λ groups near held. subst (λ (ls : List LocatedAttr). All (IsHeld groups (length new.lists.items)) ls) (sym made)
      (All-weaker (IsHeld groups (length old.lists.items)) (IsHeld groups (length new.lists.items))
      (λ l h. (h.0, listed_still (length old.lists.items) (length new.lists.items) l.source read.more.count h.1)) old.located.items held);
  says = λ groups covers p near held.
      ap (λ (ls : List LocatedAttr). all_located covers new.lists.items ls p) made
      ∙ all_same covers groups p old.lists.items new.lists.items old.located.items read.more held
      ∙ sym (append-nil (all_located covers old.lists.items old.located.items p));
}

pub located_more : (s : ListSections) (u : Unit) (nearest : Option ℕ) (old mid new : Locations) (was known : BTreeMap ℕ (Option ℕ))
    (x y : List Cover → ℕ → List PlaceSaid) → AreLocated s u nearest old mid was x → AreLocated s u nearest mid new known y →
    AreLocated s u nearest old new known (λ covers p. x covers p ++ y covers p)
located_more s u nearest old mid new was known x y a b = record {
  read = read_more s u old.lists.items mid.lists.items new.lists.items was known a.read b.read;
  held = λ groups near held. b.held groups near (a.held groups near held);
  says = λ groups covers p near held.
      b.says groups covers p near (a.held groups near held)
      ∙ ap (λ (l : List PlaceSaid). l ++ y covers p) (a.says groups covers p near held)
      ∙ append_assoc (all_located covers old.lists.items old.located.items p) (x covers p) (y covers p);
}
