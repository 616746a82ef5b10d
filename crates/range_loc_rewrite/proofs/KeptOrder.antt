-- The offsets of units' own entries don't fall, in the order of the kept entries; and nothing is kept without a section and high addresses.
use Rattle.std.proofs.Common.{◌≡◌, ◌∙◌, ◌≤◌, ◌==◌, ◌++◌, ◌∷◌, [], ℕ, Bool, false, List, Option, Some, None, refl, sym, ap, subst, arith}
use Rattle.std.proofs.Common.{map, All}
use Rattle.std.specs.Prelude.{flat_map, Contains, option_map, option_and_then, if◌then◌else◌, nat_lt}
use Rattle.std.proofs.lemmas.Bool.Decides.{nat_tests}
use Rattle.std.proofs.lemmas.List.Elements.{All-head, All-tail}
use Rattle.rb_bytes.proofs.Members.{Contains-there}
use Rattle.dw_unit.specs.declared.entry.Attr.{Attr}
use Rattle.dw_unit.specs.CompUnits.{Entry, Unit, attr, units}
use Rattle.answer_runs.proofs.Ascending.{Ascends}
use Rattle.cover_lists.specs.declared.cover_tree.Cover.{Cover}
use Rattle.cover_lists.specs.declared.groups.RangedEntry.{RangedEntry}
use Rattle.dw_lists.specs.declared.named_list.NamedList.{NamedList}
use Rattle.dw_lists.specs.Faults.{ListSections}
use Rattle.list_units.specs.Gathering.{seen_as, seen_in, seen_kept}
use Rattle.cover_lists.specs.Located.{ranges_in}
use Rattle.dw_lists.specs.KnownLists.{range_list}
use Rattle.dw_lists.specs.Lists.{ranges_kind, only_within, offset_of_index}
use Rattle.dw_lists.specs.ListTables.{AreWithoutHighAddresses}
use Rattle.list_units.specs.RangeReading.{all_seen}
use Rattle.dw_lists.specs.Ranges.{ranges_of}
use Rattle.dw_lists.specs.UnitLists.{own_place}
use Rattle.list_writer.specs.WrittenRanges.{named_by}
use Rattle.list_writer.specs.WrittenTables.{OwnsRise}
use Rattle.range_loc_rewrite.proofs.KeptLookups.{place_of, all_of, entries_end, ascends_behind, end_least, own_below, own_least, entry_of}
use Rattle.range_loc_rewrite.proofs.KeptLookups.{no_bounds}
use Rattle.range_loc_rewrite.proofs.KeptPairs.{AllPaired, no_more}
use Rattle.dw_lists.proofs.OwnRanges.{listed_ranges}

owns_less : (less lo : ℕ) (rs : List NamedList) → less ≤ lo → OwnsRise lo rs → OwnsRise less rs
owns_less less lo [] h rise = tt
owns_less less lo (r ∷ rs) h rise = (omega (arith, h, rise.0), rise.1)

owns_front : (number : RangedEntry → ℕ) (own : ℕ) (front back : List RangedEntry) → ((r : RangedEntry) → Contains front r → r.own ≡ own) →
    OwnsRise own (map (named_by number) back) → OwnsRise own (map (named_by number) (front ++ back))
owns_front number own [] back owned rise = rise
owns_front number own (r ∷ front) back owned rise =
    let is : r.own ≡ own = owned r (0, omega arith, refl) in (
      omega (arith, is),
      subst (λ (n : ℕ). OwnsRise n (map (named_by number) (front ++ back))) (sym is)
          (owns_front number own front back (λ x c. owned x (Contains-there r front x c)) rise),
    )

pub owns_rise : (number : RangedEntry → ℕ) (s : ListSections) (covers : List Cover) (us : List Unit) (kept : List RangedEntry)
    (lo : ℕ) → AllPaired s covers us kept →
    Ascends lo (map place_of (all_of us)) → OwnsRise lo (map (named_by number) kept)
owns_rise number s covers [] [] lo p up = tt
owns_rise number s covers [] (r ∷ kept) lo p up = elim p [ ]
owns_rise number s covers (u ∷ us) kept lo (AllPaired.unit_more _ _ [] back p more) up =
    owns_less lo (entries_end lo u.entries) (map (named_by number) back) (end_least lo u.entries (all_of us) up)
    (owns_rise number s covers us back (entries_end lo u.entries) more (ascends_behind lo u.entries (all_of us) up))
owns_rise number s covers (u ∷ us) kept lo (AllPaired.unit_more _ _ (r ∷ front) back p more) up =
    let first = entry_of s covers u u.entries (r ∷ front) r p (0, omega arith, refl) in
    let low = own_least lo u.entries (all_of us) first.0 u.place u.abbrev_offset up first.1 in
    let below = own_below lo u.entries (all_of us) first.0 u.place u.abbrev_offset up first.1 in
    let rest = owns_rise number s covers us back (entries_end lo u.entries) more (ascends_behind lo u.entries (all_of us) up) in
    owns_less lo (own_place u) (map (named_by number) ((r ∷ front) ++ back)) low
    (owns_front number (own_place u) (r ∷ front) back (λ x c. (entry_of s covers u u.entries (r ∷ front) x p c).2.own)
    (owns_less (own_place u) (entries_end lo u.entries) (map (named_by number) back) (omega (arith, below)) rest))

-- Without a section no list is there.

pub nowhere : (o : Option ℕ) → option_and_then (only_within []) o ≡ None
nowhere None = refl
nowhere (Some n) = let t : nat_lt n 0 ≡ false = grind (arith, nat_tests) in ap (λ (b : Bool). if b then Some n else None) t

module _ (s : ListSections) (empty : s.ranges ≡ []) where
  no_list : (u : Unit) (o : Option Attr) → listed_ranges s u o ≡ None
  no_list u None = refl
  no_list u (Some a) =
      ap (λ (x : Option ℕ). option_map ranges_in (option_and_then (range_list s u) x))
      (ap (λ (section : List ℕ). option_and_then (only_within section)
      (if a.form == 0x23 then offset_of_index ranges_kind s.ranges u a.value else Some a.value)) empty
      ∙ nowhere (if a.form == 0x23 then offset_of_index ranges_kind s.ranges u a.value else Some a.value))

  none_seen : (u : Unit) (es ds : List Entry) (a : ℕ) → All (λ (e : Entry). attr 0x12 e ≡ None) (es ++ ds) →
      (seen_in s u es a ≡ []) × All (λ (e : Entry). attr 0x12 e ≡ None) ds
  none_seen u [] ds a high = (refl, high)
  none_seen u (e ∷ es) ds a high =
      let more = none_seen u es ds a (All-tail (λ (e : Entry). attr 0x12 e ≡ None) e (es ++ ds) high) in
      let none : ranges_of s u e ≡ None =
      no_bounds s u e (All-head (λ (e : Entry). attr 0x12 e ≡ None) e (es ++ ds) high) ∙ no_list u (attr 0x55 e) in (
        (λ i. seen_as s u e (none i) a ++ more.0 i),
        more.1,
      )

  all_none : (us : List Unit) (a : ℕ) → All (λ (e : Entry). attr 0x12 e ≡ None) (all_of us) →
      flat_map (λ (u : Unit). seen_in s u u.entries a) us ≡ []
  all_none [] a high = refl
  all_none (u ∷ us) a high =
      let p = none_seen u u.entries (all_of us) a high in
      (λ i. p.0 i ++ flat_map (λ (u : Unit). seen_in s u u.entries a) us) ∙ all_none us a p.1

  pub none_kept : (covers : List Cover) (kept : List RangedEntry) → ((a : ℕ) → seen_kept covers kept a ≡ all_seen s a) →
      AreWithoutHighAddresses s.units → kept ≡ []
  none_kept covers kept seen high = no_more s covers kept (seen 0 ∙ all_none (units s.units) 0 high)
