-- The weight of ranges, by the runs of the groups of entries.
use Rattle.std.proofs.Common.{◌≡◌, ◌∙◌, ◌+◌, ◌*◌, ◌<◌, ◌++◌, ◌∷◌, [], ℕ, Bool, true, false, List, Option, Some, None, refl, sym, ap}
use Rattle.std.proofs.Common.{subst, arith, length, map, ⊎_elim, ◌-◌, ◌^◌}
use Rattle.std.specs.Prelude.{if◌then◌else◌, flat_map, is_some, option_and_then, sum_by, Contains, min}
use Rattle.std.specs.Global.{Vec}
use Rattle.std.specs.List.{list_any}
use Rattle.std.specs.Option.{option_map_or}
use Rattle.std.proofs.lemmas.List.{map-append}
use Rattle.std.proofs.lemmas.List.Sums.{sum_by-cons}
use Rattle.std.proofs.lemmas.List.Elements.{All-head, All-tail}
use Rattle.rb_bytes.proofs.Members.{Contains-nil, Contains-cons_cases, Contains-there}
use Rattle.addr_map.specs.declared.span.Span.{Span}
use Rattle.addr_map.specs.Spans.{owner}
use Rattle.answer_runs.specs.declared.range.Range.{Range}
use Rattle.answer_runs.specs.declared.run.Run.{Run}
use Rattle.answer_runs.specs.AddressRanges.{holds_address}
use Rattle.answer_runs.specs.AnswerRuns.{run_at, carried, AreRunsOf}
use Rattle.answer_runs.specs.Weights.{IsWeightOf, run_weight}
use Rattle.dw_unit.specs.CompUnits.{Entry, Sections, Unit, units}
use Rattle.cover_lists.specs.declared.cover_tree.Cover.{Cover}
use Rattle.cover_lists.specs.declared.cover_index.CoverIndex.{CoverIndex}
use Rattle.cover_lists.specs.declared.groups.RangedEntry.{RangedEntry}
use Rattle.dw_lists.specs.declared.indexed_unit.IndexedUnit.{IndexedUnit}
use Rattle.dw_lists.specs.Faults.{ListSections}
use Rattle.list_units.specs.Gathering.{SeenEntry, seen_as, seen_in, seen_kept}
use Rattle.cover_lists.specs.GroupRuns.{runs_in, held_by, if_held}
use Rattle.cover_lists.specs.Groups.{AreWithin, group_holds}
use Rattle.range_loc_rewrite.specs.KeptRanges.{AreKept}
use Rattle.dw_lists.specs.IndexedUnits.{indexed_units, table_weight}
use Rattle.dw_lists.specs.Lists.{Kind, ranges_kind}
use Rattle.list_units.specs.RangeReading.{all_seen}
use Rattle.dw_lists.specs.Ranges.{Ranged, ranged_from, ranged_in, ranged, ranges_of}
use Rattle.cover_lists.specs.Located.{hold}
use Rattle.dw_lists.specs.Weights.{IsRangesWeight, covered_by, index_weight, index_weights}
use Rattle.dw_lists.proofs.IndexWeights.{all_weights}
use Rattle.cover_lists.specs.ListWeights.{IsSumOf}

-- The entries whose ranges contain an address

abbrev held_of : Option (List Range) → ℕ → List Bool
held_of None a = []
held_of (Some ranges) a = list_any (holds_address a) ranges ∷ []

abbrev own_held : ℕ → Ranged → List Bool
own_held a r = held_of r.own a

module _ (s : ListSections) (a : ℕ) where
  one_held : (u : Unit) (e : Entry) (ranges : Option (List Range)) →
      map (λ (x : SeenEntry). x.held) (seen_as s u e ranges a) ≡ held_of ranges a
  one_held u e None = refl
  one_held u e (Some ranges) = refl

  unit_held : (u : Unit) (before es : List Entry) → map (λ (x : SeenEntry). x.held) (seen_in s u es a) ≡ flat_map (own_held a)
      (ranged_from (ranges_of s u) before es)
  unit_held u before [] = refl
  unit_held u before (e ∷ es) =
      map-append (λ (x : SeenEntry). x.held) (seen_as s u e (ranges_of s u e) a) (seen_in s u es a)
      ∙ (λ i. one_held u e (ranges_of s u e) i ++ unit_held u (e ∷ before) es i)

  flat_append : (xs ys : List Ranged) → flat_map (own_held a) (xs ++ ys) ≡ flat_map (own_held a) xs ++ flat_map (own_held a) ys
  flat_append [] ys = refl
  flat_append (x ∷ xs) ys = ap (λ (l : List Bool). own_held a x ++ l) (flat_append xs ys)
      ∙ sym (assoc (own_held a x) (flat_map (own_held a) xs) (flat_map (own_held a) ys))
    where
      assoc : (x y z : List Bool) → ((x ++ y) ++ z) ≡ x ++ (y ++ z)
      assoc [] y z = refl
      assoc (q ∷ x) y z = ap (λ (l : List Bool). q ∷ l) (assoc x y z)

  all_held : (us : List Unit) → map (λ (x : SeenEntry). x.held) (flat_map (λ (u : Unit). seen_in s u u.entries a) us) ≡ flat_map
      (own_held a) (flat_map (ranged_in s) us)
  all_held [] = refl
  all_held (u ∷ us) =
      map-append (λ (x : SeenEntry). x.held) (seen_in s u u.entries a) (flat_map (λ (u : Unit). seen_in s u u.entries a) us)
      ∙ (λ i. unit_held u [] u.entries i ++ all_held us i) ∙ sym (flat_append (ranged_in s u) (flat_map (ranged_in s) us))

kept_held : (covers : List Cover) (kept : List RangedEntry) (a : ℕ) →
    map (λ (x : SeenEntry). x.held) (seen_kept covers kept a) ≡ map (λ (r : RangedEntry). group_holds covers r.group a) kept
kept_held covers [] a = refl
kept_held covers (r ∷ kept) a = ap (λ (l : List Bool). group_holds covers r.group a ∷ l) (kept_held covers kept a)

same_head : (x y : Bool) (xs ys : List Bool) → x ∷ xs ≡ y ∷ ys → x ≡ y
same_head x y xs ys e = cc

same_rest : (x y : Bool) (xs ys : List Bool) → x ∷ xs ≡ y ∷ ys → xs ≡ ys
same_rest x y xs ys e = cc

not_nil : (x : Bool) (xs : List Bool) → [] ≡ x ∷ xs → ⊥
not_nil x xs e = cc

zero_plus : (n : ℕ) → 0 + n ≡ n
zero_plus n = omega arith

-- The weight of each.
run_sum : (xs : List (Run Bool)) → run_weight * length xs ≡ sum_by (λ (r : Run Bool). run_weight + 0) xs
run_sum [] = refl
run_sum (x ∷ xs) =
    let more = sum_by-cons (λ (r : Run Bool). run_weight + 0) x xs in
    let e = run_sum xs in
    omega (arith, e, more)

carried_none : (spans : List Span) (r : Ranged) (o : Option ℕ) → r.own ≡ None → option_and_then (covered_by r) o ≡ None
carried_none spans r None e = refl
carried_none spans r (Some a) e = ap (λ (o : Option (List Range)). if hold o a then Some true else None) e

module _ (s : ListSections) (spans : List Span) (covers : List Cover) (lists : List (Vec (Run Bool))) where
  abbrev weight_of : RangedEntry → ℕ
  weight_of r = run_weight * length (runs_in lists r.group)

  module _ (kept : List RangedEntry)
      (each : (r : RangedEntry) → Contains kept r → AreRunsOf (carried (held_by covers r.group) spans) (runs_in lists r.group)) where
    abbrev Weighs : Ranged → ℕ → Type 0
    Weighs r n = IsWeightOf (λ (b : Bool). 0) (carried (covered_by r) spans) n

    none_weighs : (r : Ranged) → r.own ≡ None → Weighs r 0
    none_weighs r e = record {
      runs = [];
      are_runs = record { end = 0; within = omega arith; answered = λ p. sym (carried_none spans r (owner spans p) e); longest = tt };
      sum = refl;
    }

    carried_some : (r : RangedEntry) (x : Ranged) → ((a : ℕ) → group_holds covers r.group a ≡ hold x.own a) → (o : Option ℕ) →
        option_and_then (held_by covers r.group) o ≡ option_and_then (covered_by x) o
    carried_some r x same None = refl
    carried_some r x same (Some a) = ap if_held (same a)

    some_weighs : (r : RangedEntry) (x : Ranged) → Contains kept r → ((a : ℕ) → group_holds covers r.group a ≡ hold x.own a) →
        Weighs x (weight_of r)
    some_weighs r x there same =
        let g = each r there in
        record {
          runs = runs_in lists r.group;
          are_runs = record {
            end = g.end;
            within = g.within;
            answered = λ p. g.answered p ∙ carried_some r x same (owner spans p);
            longest = g.longest;
          };
          sum = run_sum (runs_in lists r.group);
        }

    sums : (xs : List Ranged) (ks : List RangedEntry) → ((r : RangedEntry) → Contains ks r → Contains kept r) →
        ((a : ℕ) → map (λ (r : RangedEntry). group_holds covers r.group a) ks ≡ flat_map (own_held a) xs) →
        IsSumOf Weighs xs (sum_by weight_of ks)
    sums [] [] all same = IsSumOf.none
    sums [] (k ∷ ks) all same = absurd (not_nil _ _ (sym (same 0)))
    sums (x ∷ xs) ks all same = by_own x.own refl (λ ks all same. sums xs ks all same)
      where
        by_own : (own : Option (List Range)) → x.own ≡ own →
            ((ks : List RangedEntry) → ((r : RangedEntry) → Contains ks r → Contains kept r) →
            ((a : ℕ) → map (λ (r : RangedEntry). group_holds covers r.group a) ks ≡ flat_map (own_held a) xs) →
            IsSumOf Weighs xs (sum_by weight_of ks)) →
            IsSumOf Weighs (x ∷ xs) (sum_by weight_of ks)
        by_own None e ih =
            subst (IsSumOf Weighs (x ∷ xs)) (zero_plus (sum_by weight_of ks)) (IsSumOf.more x xs 0 (sum_by weight_of ks) (none_weighs x e)
            (ih ks all (λ a. same a ∙ ap (λ (o : Option (List Range)). held_of o a ++ flat_map (own_held a) xs) e)))
        by_own (Some ranges) e ih = by_kept ks all (λ a. same a ∙ ap (λ (o : Option (List Range)). held_of o a ++ flat_map (own_held a) xs)
            e)
          where
            by_kept : (ks : List RangedEntry) → ((r : RangedEntry) → Contains ks r → Contains kept r) →
                ((a : ℕ) → map (λ (r : RangedEntry). group_holds covers r.group a) ks ≡ list_any (holds_address a) ranges
                ∷ flat_map (own_held a) xs) →
                IsSumOf Weighs (x ∷ xs) (sum_by weight_of ks)
            by_kept [] all same = absurd (not_nil _ _ (same 0))
            by_kept (k ∷ ks) all same =
                subst (IsSumOf Weighs (x ∷ xs)) (sym (sum_by-cons weight_of k ks)) (IsSumOf.more x xs (weight_of k) (sum_by weight_of ks)
                (some_weighs k x (all k (0, omega arith, refl)) (λ a. same_head _ _ _ _ (same a)
                ∙ sym (ap (λ (o : Option (List Range)). hold o a) e)))
                (ih ks (λ r c. all r (Contains-there k ks r c)) (λ a. same_rest _ _ _ _ (same a))))

    pub ranged_weight : ((a : ℕ) → seen_kept covers kept a ≡ all_seen s a) → IsSumOf Weighs (ranged s) (sum_by weight_of kept)
    ranged_weight seen =
        sums (ranged s) kept (λ r c. c)
        (λ a. sym (kept_held covers kept a) ∙ ap (map (λ (x : SeenEntry). x.held)) (seen a) ∙ all_held s a (units s.units))

-- A group contains an address, if there is a group.
abbrev pub holds_some : List Cover → ℕ → Option ℕ → Bool
holds_some covers g o = option_map_or (group_holds covers g) o false

group_says : (covers : List Cover) (g : ℕ) (o : Option ℕ) → option_and_then (held_by covers g) o ≡ if_held (holds_some covers g o)
group_says covers g None = refl
group_says covers g (Some a) = refl

pub some_if : (b : Bool) → is_some (if_held b) ≡ b
some_if true = refl
some_if false = refl

pub within_there : (n : ℕ) (xs : List RangedEntry) (r : RangedEntry) → AreWithin n xs → Contains xs r → r.group < n
within_there n [] r w c = absurd (Contains-nil r c)
within_there n (x ∷ xs) r w c = ⊎_elim
    (λ (is : x ≡ r). subst (λ (y : RangedEntry). y.group < n) is (All-head (λ (r : RangedEntry). r.group < n) x xs w))
    (λ (there : Contains xs r). within_there n xs r (All-tail (λ (r : RangedEntry). r.group < n) x xs w) there)
    (Contains-cons_cases x xs r c)

-- The kept entries, and the runs of their groups.
module _ (s : ListSections) (spans : List Span) (kept : List RangedEntry) (count : ℕ) (index : CoverIndex) (bounds : List ℕ)
    (indexed : List IndexedUnit)
    (are : AreKept s kept count index bounds indexed) (lists : List (Vec (Run Bool)))
    (each : (g : ℕ) → g < count → AreRunsOf (carried (held_by index.tree g) spans) (runs_in lists g)) where
  pub kept_says : (r : RangedEntry) → Contains kept r → (p : ℕ) →
      run_at (runs_in lists r.group) p ≡ if_held (holds_some index.tree r.group (owner spans p))
  kept_says r there p =
      (each r.group (within_there count kept r are.within there)).answered p ∙ group_says index.tree r.group (owner spans p)

  pub kept_weight : IsRangesWeight s spans (index_weights ranges_kind.index_form s + sum_by
      (λ r. run_weight * length (runs_in lists r.group)) kept)
  kept_weight = record {
    runs = sum_by (λ r. run_weight * length (runs_in lists r.group)) kept;
    of_runs = ranged_weight s spans index.tree lists kept (λ r there. each r.group (within_there count kept r are.within there)) are.seen;
    sum = refl;
  }

-- The weight of the kept indexes is that of the units' indexes.
pub indexes_weight : (k : Kind) (s : Sections) (indexed : List IndexedUnit) (weight : ℕ) → indexed ≡ indexed_units k s →
    weight ≡ min (sum_by table_weight indexed) (2 ^ 64 - 1) → weight ≡ min (sum_by (index_weight k.index_form) (units s)) (2 ^ 64 - 1)
indexes_weight k s indexed weight are is =
    is ∙ ap (λ (n : ℕ). min n (2 ^ 64 - 1)) (ap (sum_by table_weight) are ∙ all_weights k (units s))

pub weights_joined : (result sum index weight limit : ℕ) → result ≡ min (min sum limit + index) limit → index ≡ min weight limit →
    result ≡ min (weight + sum) limit
weights_joined result sum index weight limit e f = omega (arith, e, f)
