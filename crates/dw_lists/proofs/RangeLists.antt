-- Lists of a unit, read and kept.
use Rattle.std.proofs.Common.{◌≡◌, ◌≢◌, ◌∙◌, ◌+◌, ◌-◌, ◌++◌, ◌∷◌, [], ℕ, Bool, true, List, Option, Some, None, Result, Ok}
use Rattle.std.proofs.Common.{Err, BTreeMap, nat_cmp, refl, sym, ap, subst, arith, length, take, drop, cond, ⊎_elim}
use Rattle.std.specs.Prelude.{option_map}
use Rattle.std.specs.BTreeMap.{IsEmpty, get, is_at}
use Rattle.std.specs.Map.{lookup}
use Rattle.std.proofs.lemmas.Grind.{common_steps}
use Rattle.std.proofs.lemmas.Bool.{cases_eq}
use Rattle.std.proofs.lemmas.Option.{same_Some}
use Rattle.rb_bytes.proofs.Tests.{at_key}
use Rattle.dw_unit.specs.declared.attribute.TheConstants.{DW_AT_addr_base}
use Rattle.dw_unit.specs.declared.trouble.Trouble.{Trouble}
use Rattle.dw_unit.specs.CompUnits.{Unit, base}
use Rattle.cover_lists.specs.declared.groups.Groups.{Groups}
use Rattle.dw_lists.specs.declared.list_kind.ListKind.{ListKind}
use Rattle.dw_lists.specs.declared.list_kind.ListKind.TheVariants as kind
use Rattle.dw_lists.specs.declared.unit_lists.UnitLists.{UnitLists}
use Rattle.dw_lists.specs.Faults.{ListSections}
use Rattle.cover_lists.specs.EntryAddresses.{first_start}
use Rattle.cover_lists.specs.Groups.{AreNumbered, Grow, HasRanges, covers_in}
use Rattle.cover_lists.specs.Located.{ranges_in, Located}
use Rattle.dw_lists.specs.KnownLists.{IsGroupOf, AreKnown, range_list}
use Rattle.dw_lists.specs.ListEntries.{Item, items_within}
use Rattle.dw_lists.specs.ListReading.{kind_of, item_of, looked_up, said_from}
use Rattle.dw_lists.specs.Lists.{ranges_kind, list_end, list_at, items_at, items_said, base_address}
use Rattle.dw_lists.specs.UnitLists.{ReadsLists}
use Rattle.cover_lists.proofs.GroupFacts.{has_still, group_added, group_has}

item_is : (k : ListKind) → item_of k ≡ (kind_of k).item
item_is kind.Ranges = refl
item_is kind.Locations = refl

said_is : (addr : List ℕ) (u : Unit) (r : Result (List Item) Trouble) →
    said_from (looked_up addr (base DW_AT_addr_base u)) (base_address addr u) r ≡ items_said addr u r
said_is addr u (Ok items) = refl
said_is addr u (Err e) = refl

-- Reading the bytes up to the end of the list's table gives the list's contents.
pub list_is : (k : ListKind) (section addr bytes : List ℕ) (u : Unit) (l : UnitLists) (at : ℕ) → ReadsLists (kind_of k) addr u l →
    bytes ≡ take (list_end section at - at) (drop at section) →
    said_from (looked_up l.addresses.section.now l.addresses.base) l.base (items_within (item_of k) (length bytes) bytes)
    ≡ list_at (kind_of k) section addr u at
list_is k section addr bytes u l at r e =
    (λ i. said_from (looked_up (r.section i) (r.addresses i)) (r.address i) (items_within (item_is k i) (length (e i)) (e i)))
    ∙ said_is addr u (items_at (kind_of k) section at)

-- One more list is known

pub at_same : (k : ℕ) → is_at (nat_cmp k) k ≡ true
at_same k = grind (arith, common_steps)

pub still_group : (old new : Groups) (o : Option ℕ) (said : Option (List Located)) → Grow old new → IsGroupOf old o said →
    IsGroupOf new o said
still_group old new o said grow is = record { some = is.some; ranges = has_still old new o (option_map ranges_in said) grow is.ranges }

pub still_known : (says : ℕ → Option (List Located)) (old new : Groups) (known : BTreeMap ℕ (Option ℕ)) → Grow old new →
    AreKnown says old known →
    AreKnown says new known
still_known says old new known grow are = λ at o e. still_group old new o (says at) grow (are at o e)

-- For lists that are known, and any property of them.
pub known_with : (Is : ℕ → Option ℕ → Type 0) (known more : BTreeMap ℕ (Option ℕ)) (at : ℕ) (o : Option ℕ) →
    ((q : ℕ) (p : Option ℕ) → get nat_cmp known q ≡ Some p → Is q p) → Is at o →
    ((q : ℕ) → get nat_cmp more q ≡ cond (is_at (nat_cmp at) q) (Some o) (get nat_cmp known q)) →
    (q : ℕ) (p : Option ℕ) → get nat_cmp more q ≡ Some p → Is q p
known_with Is known more at o are is made = λ q p e. ⊎_elim
    (λ (same : at ≡ q).
    let here : get nat_cmp more q ≡ Some o =
    made q ∙ ap (λ (b : Bool). cond b (Some o) (get nat_cmp known q)) (ap (is_at (nat_cmp at)) (sym same) ∙ at_same at) in
    subst (λ (p : Option ℕ). Is q p) (same_Some o p (sym here ∙ e)) (subst (λ (q : ℕ). Is q o) same is))
    (λ (ne : at ≢ q).
    are q p (sym (made q ∙ ap (λ (b : Bool). cond b (Some o) (get nat_cmp known q)) (at_key at q ne)) ∙ e))
    (cases_eq at q)

pub known_more : (says : ℕ → Option (List Located)) (old new : Groups) (known more : BTreeMap ℕ (Option ℕ)) (at : ℕ) (o : Option ℕ) →
    Grow old new → AreKnown says old known → IsGroupOf new o (says at) →
    ((q : ℕ) → get nat_cmp more q ≡ cond (is_at (nat_cmp at) q) (Some o) (get nat_cmp known q)) → AreKnown says new more
known_more says old new known more at o grow are is made =
    known_with (λ (q : ℕ) (p : Option ℕ). IsGroupOf new p (says q)) known more at o (still_known says old new known grow are) is made

-- A group that is added for a list that can be read.
pub new_group : (s : ListSections) (u : Unit) (section : List ℕ) (at : ℕ) (old new : Groups) (n : ℕ) (ls : List Located) →
    section ≡ s.ranges →
    Some ls ≡ list_at ranges_kind section s.units.addr u at → AreNumbered old → n ≡ old.count → new.count ≡ old.count + 1 →
    new.covers.items ≡ old.covers.items ++ covers_in old.count ls →
    new.firsts.items ≡ old.firsts.items ++ first_start (ranges_in ls) ∷ [] → Grow old new × IsGroupOf new (Some n) (range_list s u at)
new_group s u section at old new n ls b said numbered number count covers firsts =
    let here : Some ls ≡ range_list s u at = said ∙ ap (λ (l : List ℕ). list_at ranges_kind l s.units.addr u at) b in (
      group_added old new ls numbered count covers firsts,
      subst (λ (o : Option (List Located)). IsGroupOf new (Some n) o) here (record {
        some = refl;
        ranges = subst (λ (m : ℕ). HasRanges new (Some m) (Some (ranges_in ls))) (sym number)
            (group_has old new ls numbered count covers firsts);
      }),
    )

-- Nothing is known yet

pub none_with : (Is : ℕ → Option ℕ → Type 0) (m : BTreeMap ℕ (Option ℕ)) → IsEmpty m → (at : ℕ) (o : Option ℕ) → get nat_cmp m at ≡ Some o →
    Is at o
none_with Is m empty = λ at o e. absurd (none_there (get nat_cmp m at) (get_none m at empty) o e)
  where
    none_there : (x : Option (Option ℕ)) → x ≡ None → (o : Option ℕ) → x ≡ Some o → ⊥
    none_there x e o f = let g : None ≡ Some o = sym e ∙ f in absurd (cc)

    get_none : (m : BTreeMap ℕ (Option ℕ)) (at : ℕ) → IsEmpty m → get nat_cmp m at ≡ None
    get_none m at empty = ap (λ (es : List (ℕ × Option ℕ)). lookup (is_at (nat_cmp at)) es) empty

pub none_known : (says : ℕ → Option (List Located)) (g : Groups) (m : BTreeMap ℕ (Option ℕ)) → IsEmpty m → AreKnown says g m
none_known says g m empty = none_with (λ (at : ℕ) (o : Option ℕ). IsGroupOf g o (says at)) m empty
