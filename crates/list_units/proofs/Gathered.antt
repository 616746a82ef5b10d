-- Ranges of entries, gathered one entry after another.
use Rattle.std.proofs.Common.{◌≡◌, ◌∙◌, ◌<◌, ◌++◌, ◌∷◌, [], ℕ, true, false, List, Option, Some, None, BTreeMap}
use Rattle.std.proofs.Common.{refl, sym, ap, subst, arith, map, append-nil, append_assoc}
use Rattle.std.specs.Prelude.{flat_map, option_and_then}
use Rattle.std.proofs.lemmas.List.Elements.{All-head, All-tail, All-append, All-weaker, All-nil, All-cons}
use Rattle.std.proofs.lemmas.List.{map-append}
use Rattle.std.proofs.lemmas.List.Concat.{flat_map-append}
use Rattle.answer_runs.specs.declared.range.Range.{Range}
use Rattle.dw_unit.specs.declared.entry.Attr.{Attr}
use Rattle.dw_unit.specs.CompUnits.{Entry, Unit}
use Rattle.dw_unit.specs.ListedEntries.{ListedEntry}
use Rattle.dw_unit.specs.ListedUnits.{plain, plain_unit}
use Rattle.cover_lists.specs.declared.cover_tree.Cover.{Cover}
use Rattle.cover_lists.specs.declared.groups.Groups.{Groups}
use Rattle.cover_lists.specs.declared.groups.RangedEntry.{RangedEntry}
use Rattle.dw_lists.specs.declared.unit_ranges.ListFaults.{ListFaults}
use Rattle.dw_lists.specs.Faults.{ListSections}
use Rattle.list_units.specs.Gathering.{SeenEntry, seen_as, seen_in, seen_kept, ranges_index, AreAdded, IsGathering, IsUnitGathered}
use Rattle.cover_lists.specs.Groups.{AreNumbered, AreWithin, Grow, HasRanges, group_holds, entry_of, first_in}
use Rattle.dw_lists.specs.KnownLists.{AreKnown, range_list}
use Rattle.dw_lists.specs.Lists.{ranges_kind}
use Rattle.dw_lists.specs.Ranges.{named_entry, ranges_of}
use Rattle.dw_lists.specs.UnitLists.{own_place}
use Rattle.cover_lists.proofs.GroupFacts.{grow_none, grow_more}
use Rattle.dw_lists.proofs.NotedLists.{lacks_all, bad_all}

-- The answers of entries don't change when groups are added.
seen_same : (old new : Groups) (rs : List RangedEntry) (a : ℕ) → Grow old new → AreWithin old.count rs →
    seen_kept new.covers.items rs a ≡ seen_kept old.covers.items rs a
seen_same old new [] a grow within = refl
seen_same old new (r ∷ rs) a grow within =
    let here : r.group < old.count = All-head (λ (r : RangedEntry). r.group < old.count) r rs within in
    let held = grow.same r.group a here in
    let more = seen_same old new rs a grow (All-tail (λ (r : RangedEntry). r.group < old.count) r rs within) in
    λ i. record { place = r.place; own = r.own; index = r.index; entry = r.entry; first = r.first; held = held i } ∷ more i

abbrev seen_entry : List Cover → ℕ → RangedEntry → SeenEntry
seen_entry cs a r = record {
  place = r.place;
  own = r.own;
  index = r.index;
  entry = r.entry;
  first = r.first;
  held = group_holds cs r.group a;
}

-- One more entry, with the ranges of a group or without ranges.
module _ (s : ListSections) (u : Unit) (e : Entry) (new : Groups) where
  abbrev entry : Option ℕ → List RangedEntry
  entry o =
      entry_of e.place (own_place u) (ranges_index e.attrs) (named_entry s.units.addr u e) (option_and_then (first_in new) o) o

  one_seen : (o : Option ℕ) (ranges : Option (List Range)) (a : ℕ) → HasRanges new o ranges →
      seen_kept new.covers.items (entry o) a ≡ seen_as s u e ranges a
  one_seen None None a has = refl
  one_seen None (Some ranges) a has = let f : false ≡ true = has.some in absurd (cc)
  one_seen (Some n) None a has = let f : true ≡ false = has.some in absurd (cc)
  one_seen (Some n) (Some ranges) a has =
      λ i. record {
        place = e.place;
        own = own_place u;
        index = ranges_index e.attrs;
        entry = named_entry s.units.addr u e;
        first = has.first i;
        held = has.holds a i;
      }
      ∷ []

  one_within : (o : Option ℕ) → HasRanges new o (ranges_of s u e) → AreWithin new.count (entry o)
  one_within None has = All-nil (λ (r : RangedEntry). r.group < new.count)
  one_within (Some n) has =
      All-cons (λ (r : RangedEntry). r.group < new.count)
      (record {
        place = e.place;
        group = n;
        own = own_place u;
        index = ranges_index e.attrs;
        entry = named_entry s.units.addr u e;
        first = first_in new n;
      }) [] (has.within n refl)
      (All-nil (λ (r : RangedEntry). r.group < new.count))

  pub entry_added : (old : Groups) (olds news : List RangedEntry) (o : Option ℕ) → Grow old new → AreWithin old.count olds →
      HasRanges new o (ranges_of s u e) → news ≡ olds ++ entry o → AreAdded old olds new news (seen_in s u (e ∷ []))
  entry_added old olds news o grow within has is = record {
    grow = grow;
    within = subst (AreWithin new.count) (sym is)
        (All-append (λ (r : RangedEntry). r.group < new.count) olds (entry o)
        (All-weaker (λ (r : RangedEntry). r.group < old.count) (λ (r : RangedEntry). r.group < new.count)
        (λ r h. omega (arith, h, grow.count)) olds within) (one_within o has));
    seen_are = λ a. ap (λ (rs : List RangedEntry). seen_kept new.covers.items rs a) is
        ∙ map-append (seen_entry new.covers.items a) olds (entry o)
        ∙ (λ i. seen_same old new olds a grow within i ++ one_seen o (ranges_of s u e) a has i)
        ∙ ap (λ (l : List SeenEntry). seen_kept old.covers.items olds a ++ l)
        (sym (append-nil (seen_as s u e (ranges_of s u e) a)));
  }

-- With all entries before.
pub gathered_more : (s : ListSections) (u : Unit) (old mid new : Groups) (olds mids news : List RangedEntry) (was known : BTreeMap ℕ
    (Option ℕ))
    (es ds : List Entry) (before attrs : List Attr) (f g : ListFaults) → IsGathering s u old olds mid mids was es before f →
    IsGathering s u mid mids new news known ds attrs g → IsGathering s u old olds new news known (es ++ ds) attrs g
gathered_more s u old mid new olds mids news was known es ds before attrs f g x y = record {
  added = record {
    grow = grow_more old mid new x.added.grow y.added.grow;
    within = y.added.within;
    seen_are = λ a. y.added.seen_are a ∙ ap (λ (l : List SeenEntry). l ++ seen_in s u ds a) (x.added.seen_are a)
        ∙ append_assoc (seen_kept old.covers.items olds a) (seen_in s u es a) (seen_in s u ds a)
        ∙ ap (λ (l : List SeenEntry). seen_kept old.covers.items olds a ++ l)
        (sym (flat_map-append
        (λ (e : Entry). seen_as s u e (ranges_of s u e) a) es ds));
  };
  known_are = y.known_are;
  noted = y.noted;
}

-- Nothing is gathered yet.
pub gathered_none : (s : ListSections) (u : Unit) (old : Groups) (olds : List RangedEntry) (known : BTreeMap ℕ (Option ℕ)) →
    AreNumbered old →
    AreWithin old.count olds → AreKnown (range_list s u) old known →
    IsGathering s u old olds old olds known [] [] (record { lacks_offset = false; bad = None })
gathered_none s u old olds known numbered within are = record {
  added = record { grow = grow_none old numbered; within = within; seen_are = λ a. sym (append-nil (seen_kept old.covers.items olds a)) };
  known_are = are;
  noted = record { lacks = refl; bad = refl };
}

pub plain_attrs : (es : List ListedEntry) → flat_map (λ (e : Entry). e.attrs) (map plain es) ≡ flat_map (λ (e : ListedEntry). e.attrs) es
plain_attrs [] = refl
plain_attrs (e ∷ es) = ap (λ (l : List Attr). e.attrs ++ l) (plain_attrs es)

-- All of a unit was gathered.
pub unit_gathered : (s : ListSections) (es : List ListedEntry) (old new : Groups) (olds news : List RangedEntry) (known : BTreeMap ℕ
    (Option ℕ))
    (f : ListFaults) → IsGathering s (plain_unit es) old olds new news known (map plain es) (flat_map (λ (e : ListedEntry). e.attrs) es) f →
    IsUnitGathered s (plain_unit es) old olds new news f
unit_gathered s es old new olds news known f g =
    record {
      added = g.added;
      lacks = lacks_all ranges_kind s.ranges s.units.addr (plain_unit es) (flat_map (λ (e : ListedEntry). e.attrs) es) f
          (plain_attrs es) g.noted;
      bad = bad_all ranges_kind s.ranges s.units.addr (plain_unit es) (flat_map (λ (e : ListedEntry). e.attrs) es) f
          (plain_attrs es) g.noted;
    }

-- One more entry.
pub gathered_next : (s : ListSections) (u : Unit) (old new : Groups) (olds news : List RangedEntry) (known : BTreeMap ℕ (Option ℕ)) (f :
    ListFaults)
    (ts next : List ListedEntry) (x : ListedEntry) → next ≡ ts ++ x ∷ [] →
    IsGathering s u old olds new news known (map plain ts ++ plain x ∷ []) (flat_map (λ (e : ListedEntry). e.attrs) ts ++ x.attrs) f →
    IsGathering s u old olds new news known (map plain next) (flat_map (λ (e : ListedEntry). e.attrs) next) f
gathered_next s u old new olds news known f ts next x is g =
    let es : map plain ts ++ plain x ∷ [] ≡ map plain next = sym (ap (map plain) is ∙ map-append plain ts (x ∷ [])) in
    let ats : flat_map (λ (e : ListedEntry). e.attrs) ts ++ x.attrs ≡ flat_map (λ (e : ListedEntry). e.attrs) next =
    sym (ap (flat_map (λ (e : ListedEntry). e.attrs)) is ∙ flat_map-append (λ (e : ListedEntry). e.attrs) ts (x ∷ [])
    ∙ ap (λ (l : List Attr). flat_map (λ (e : ListedEntry). e.attrs) ts ++ l) (append-nil x.attrs)) in
    subst (λ (l : List Attr). IsGathering s u old olds new news known (map plain next) l f) ats
    (subst (λ (l : List Entry). IsGathering s u old olds new news known l (flat_map (λ (e : ListedEntry). e.attrs) ts ++ x.attrs) f) es g)
