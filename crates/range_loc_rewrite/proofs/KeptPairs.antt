-- The entry of each kept one; and entries of one unit with the same index have the same ranges.
use Rattle.std.proofs.Common.{◌≡◌, ◌∙◌, ◌++◌, ◌∷◌, [], ℕ, List, Option, Some, None, true, refl, sym, ap, subst}
use Rattle.std.specs.Prelude.{flat_map, is_some, option_and_then}
use Rattle.std.specs.List.{list_any}
use Rattle.answer_runs.specs.declared.range.Range.{Range}
use Rattle.answer_runs.specs.AddressRanges.{holds_address}
use Rattle.dw_unit.specs.CompUnits.{Entry, Unit}
use Rattle.cover_lists.specs.declared.cover_tree.Cover.{Cover}
use Rattle.cover_lists.specs.declared.groups.RangedEntry.{RangedEntry}
use Rattle.dw_lists.specs.Faults.{ListSections}
use Rattle.list_units.specs.Gathering.{SeenEntry, seen_as, seen_in, seen_kept, ranges_index}
use Rattle.cover_lists.specs.Groups.{group_holds}
use Rattle.cover_lists.specs.EntryAddresses.{first_start}
use Rattle.dw_lists.specs.Ranges.{named_entry, ranges_of}
use Rattle.cover_lists.specs.Located.{hold}
use Rattle.dw_lists.specs.UnitLists.{own_place}

-- An entry is kept as `r`.
pub record IsKeptAs (s : ListSections) (covers : List Cover) (u : Unit) (e : Entry) (r : RangedEntry) : Type 0 where
  pub place : r.place ≡ e.place
  pub own : r.own ≡ own_place u
  pub index : r.index ≡ ranges_index e.attrs
  pub entry : r.entry ≡ named_entry s.units.addr u e
  pub first : r.first ≡ option_and_then first_start (ranges_of s u e)
  pub some : is_some (ranges_of s u e) ≡ true
  pub held : (a : ℕ) → group_holds covers r.group a ≡ hold (ranges_of s u e) a

same_head : {X : Type 0} (x y : X) (xs ys : List X) → x ∷ xs ≡ y ∷ ys → x ≡ y
same_head x y xs ys e = cc

same_rest : {X : Type 0} (x y : X) (xs ys : List X) → x ∷ xs ≡ y ∷ ys → xs ≡ ys
same_rest x y xs ys e = cc

no_head : {X : Type 0} (y : X) (ys : List X) → [] ≡ y ∷ ys → ⊥
no_head y ys e = cc

-- Each entry with ranges is kept once, and the others aren't.
pub data Paired (s : ListSections) (covers : List Cover) (u : Unit) : List Entry → List RangedEntry → Type 0 where
  none : Paired s covers u [] []
  skip : (e : Entry) (es : List Entry) (rs : List RangedEntry) → ranges_of s u e ≡ None → Paired s covers u es rs →
      Paired s covers u (e ∷ es) rs
  keep : (e : Entry) (es : List Entry) (r : RangedEntry) (rs : List RangedEntry) → IsKeptAs s covers u e r → Paired s covers u es rs →
      Paired s covers u (e ∷ es) (r ∷ rs)

module _ (s : ListSections) (covers : List Cover) where
  record IsSplit (u : Unit) (es : List Entry) (kept : List RangedEntry) (more : ℕ → List SeenEntry) : Type 0 where
    pub front : List RangedEntry
    pub back : List RangedEntry
    pub are : kept ≡ front ++ back
    pub paired : Paired s covers u es front
    pub rest : (a : ℕ) → seen_kept covers back a ≡ more a

  module _ (u : Unit) where
    split_unit : (es : List Entry) (kept : List RangedEntry) (more : ℕ → List SeenEntry) →
        ((a : ℕ) → seen_kept covers kept a ≡ seen_in s u es a ++ more a) → IsSplit u es kept more
    split_unit [] kept more same = record { front = []; back = kept; are = refl; paired = none; rest = same }
    split_unit (e ∷ es) kept more same = by_ranges (ranges_of s u e) refl (λ ks h. split_unit es ks more h)
      where
        here : Option (List Range) → ℕ → List SeenEntry
        here o a = seen_as s u e o a

        assoc : (x y z : List SeenEntry) → ((x ++ y) ++ z) ≡ x ++ (y ++ z)
        assoc [] y z = refl
        assoc (q ∷ x) y z = ap (λ (l : List SeenEntry). q ∷ l) (assoc x y z)

        by_ranges : (o : Option (List Range)) → ranges_of s u e ≡ o →
            ((ks : List RangedEntry) → ((a : ℕ) → seen_kept covers ks a ≡ seen_in s u es a ++ more a) → IsSplit u es ks more) →
            IsSplit u (e ∷ es) kept more
        by_ranges None is ih =
            let p = ih kept (λ a. same a ∙ ap (λ (o : Option (List Range)). (here o a ++ seen_in s u es a) ++ more a) is) in
            record { front = p.front; back = p.back; are = p.are; paired = skip e es p.front is p.paired; rest = p.rest }
        by_ranges (Some ranges) is ih = by_kept kept refl
          where
            seen : (a : ℕ) → seen_kept covers kept a ≡ record {
              place = e.place;
              own = own_place u;
              index = ranges_index e.attrs;
              entry = named_entry s.units.addr u e;
              first = first_start ranges;
              held = list_any (holds_address a) ranges;
            }
                ∷ (seen_in s u es a ++ more a)
            seen a = same a ∙ ap (λ (o : Option (List Range)). (here o a ++ seen_in s u es a) ++ more a) is

            by_kept : (ks : List RangedEntry) → kept ≡ ks → IsSplit u (e ∷ es) kept more
            by_kept [] f = absurd (no_head _ _ (sym (ap (λ (l : List RangedEntry). seen_kept covers l 0) f) ∙ seen 0))
            by_kept (k ∷ ks) f =
                let at : (a : ℕ) → seen_kept covers (k ∷ ks) a ≡ _ = λ a. sym (ap (λ (l : List RangedEntry). seen_kept covers l a) f)
                ∙ seen a in
                let p = ih ks (λ a. same_rest _ _ _ _ (at a)) in
                let first : (a : ℕ) → _ = λ a. same_head _ _ _ _ (at a) in
                record {
                  front = k ∷ p.front;
                  back = p.back;
                  are = f ∙ ap (λ (l : List RangedEntry). k ∷ l) p.are;
                  paired = keep e es k p.front (record {
                    place = ap (λ (x : SeenEntry). x.place) (first 0);
                    own = ap (λ (x : SeenEntry). x.own) (first 0);
                    index = ap (λ (x : SeenEntry). x.index) (first 0);
                    entry = ap (λ (x : SeenEntry). x.entry) (first 0);
                    first = ap (λ (x : SeenEntry). x.first) (first 0) ∙ sym (ap (option_and_then first_start) is);
                    some = ap is_some is;
                    held = λ a. ap (λ (x : SeenEntry). x.held) (first a) ∙ sym (ap (λ (o : Option (List Range)). hold o a) is);
                  }) p.paired;
                  rest = p.rest;
                }

  -- Unit by unit.
  pub data AllPaired : List Unit → List RangedEntry → Type 0 where
    no_unit : AllPaired [] []
    unit_more : (u : Unit) (us : List Unit) (front back : List RangedEntry) → Paired s covers u u.entries front → AllPaired us back →
        AllPaired (u ∷ us) (front ++ back)

  pub no_more : (kept : List RangedEntry) → seen_kept covers kept 0 ≡ [] → kept ≡ []
  no_more [] e = refl
  no_more (k ∷ ks) e = absurd (no_head _ _ (sym e))

  pub all_paired : (us : List Unit) (kept : List RangedEntry) → ((a : ℕ) →
      seen_kept covers kept a ≡ flat_map (λ (u : Unit). seen_in s u u.entries a) us) → AllPaired us kept
  all_paired [] kept same = subst (AllPaired []) (sym (no_more kept (same 0))) no_unit
  all_paired (u ∷ us) kept same =
      let p = split_unit u u.entries kept (λ a. flat_map (λ (u : Unit). seen_in s u u.entries a) us) same in
      subst (AllPaired (u ∷ us)) (sym p.are) (unit_more u us p.front p.back p.paired (all_paired us p.back p.rest))
