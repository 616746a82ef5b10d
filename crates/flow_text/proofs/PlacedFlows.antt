-- Replacing counts by flows keeps the order, and each pair has its flow, or its count if it has no flow.
use Rattle.std.proofs.Common.{◌≡◌, ◌∙◌, ◌+◌, ◌<◌, ◌⊎◌, ℕ, suc, Bool, true, false, List, [], ◌∷◌, ◌++◌, Option, Some, None, All, AllPairs}
use Rattle.std.proofs.Common.{append_assoc, drop, Contains, length, get_or, arith, ap, sym, subst, inl, inr, refl, ⊎_elim, cond, find}
use Rattle.std.proofs.Common.{if◌then◌else◌}
use Rattle.std.specs.Prelude.{◌==◌, filter, nat_lt}
use Rattle.std.specs.Option.{option_map_or}
use Rattle.std.proofs.Math.Seq.{drop-cons}
use Rattle.std.proofs.lemmas.Bool.{and_parts, cases_order, eqb-true, ltb-false, ltb-true}
use Rattle.std.proofs.lemmas.List.Elements.{All-append, All-contains, All-cons, All-filter, All-head, All-tail, Contains-append_cases}
use Rattle.std.proofs.lemmas.List.Elements.{filter_passes}
use Rattle.std.proofs.lemmas.List.Kept.{AllPairs-filter}
use Rattle.std.proofs.lemmas.List.Sums.{sum_by-append, sum_by-cons}
use Rattle.edge_profile.specs.PairCounts.{Counted, IsCountedBefore, count_among, is_pair}
use Rattle.edge_profile.specs.Pairs.{is_before}
use Rattle.edge_profile.proofs.AscendingPairs.{before_from_test, before_test, sum_none}
use Rattle.rb_bytes.proofs.ListLemmas.{only_one, pairs_append}
use Rattle.rb_bytes.proofs.Searches.{find-found}
use Rattle.flow_text.specs.MergedFlows.{some_flow, with_flows}
use Rattle.flow_text.specs.RepairedCounts.{count_with}

-- The order of pairs.

pub before_trans : (x y z : Counted) → IsCountedBefore x y → IsCountedBefore y z → IsCountedBefore x z
before_trans x y z (inl a) (inl b) = inl (omega arith)
before_trans x y z (inl a) (inr (e, b)) = inl (omega arith)
before_trans x y z (inr (e, a)) (inl b) = inl (omega arith)
before_trans x y z (inr (e, a)) (inr (f, b)) = inr (e ∙ f, omega arith)

not_both : (x y : Counted) → IsCountedBefore x y → IsCountedBefore y x → ⊥
not_both x y (inl a) (inl b) = omega arith
not_both x y (inl a) (inr (e, b)) = omega arith
not_both x y (inr (e, a)) (inl b) = omega arith
not_both x y (inr (e, a)) (inr (f, b)) = omega arith

pub not_after : (x y : Counted) → IsCountedBefore x y → is_before y x ≡ false
not_after x y less = by (is_before y x) refl
  where
    by : (b : Bool) → is_before y x ≡ b → b ≡ false
    by true is = absurd (not_both x y less (before_from_test y x is))
    by false is = refl

in_order : (x y : Counted) → IsCountedBefore x y ⊎ (IsCountedBefore y x ⊎ ((x.0 ≡ y.0) × (x.1 ≡ y.1)))
in_order x y = elim (cases_order x.0 y.0) [
  | inl same ↦ elim (cases_order x.1 y.1) [
    | inl alike ↦ inr (inr (same, alike))
    | inr apart ↦ elim apart [
      | inl less ↦ inl (inr (same, less))
      | inr more ↦ inr (inl (inr (sym same, more)))
    ]
  ]
  | inr apart ↦ elim apart [
    | inl less ↦ inl (inl less)
    | inr more ↦ inr (inl (inl more))
  ]
]

-- The items of the list.

pub all_with : (P : Counted → Type 0) (flows pairs : List Counted) → All (λ f. 0 < f.2 → P f) flows → All P pairs →
    All P (with_flows flows pairs)
all_with P [] pairs of_flows of_pairs = of_pairs
all_with P (f ∷ flows) pairs of_flows of_pairs =
    All-append P (filter (λ p. is_before p f) pairs ++ some_flow f) (with_flows flows (filter (λ p. is_before f p) pairs))
    (All-append P (filter (λ p. is_before p f) pairs) (some_flow f) (All-filter (λ p. is_before p f) P pairs of_pairs)
    (some (nat_lt 0 f.2) refl))
    (all_with P flows (filter (λ p. is_before f p) pairs) (All-tail (λ g. 0 < g.2 → P g) f flows of_flows)
    (All-filter (λ p. is_before f p) P pairs of_pairs))
  where
    some : (b : Bool) → nat_lt 0 f.2 ≡ b → All P (if b then f ∷ [] else [])
    some true is = All-cons P f [] (All-head (λ g. 0 < g.2 → P g) f flows of_flows (ltb-true 0 f.2 is))
        (λ i d within. absurd (omega arith))
    some false is = λ i d within. absurd (omega arith)

module _ (f : Counted) (pairs : List Counted) where
  front_before : All (λ p. IsCountedBefore p f) (filter (λ p. is_before p f) pairs)
  front_before i d within =
      before_from_test (get_or (filter (λ p. is_before p f) pairs) i d) f (filter_passes (λ p. is_before p f) pairs i d within)

  back_after : All (IsCountedBefore f) (filter (λ p. is_before f p) pairs)
  back_after i d within =
      before_from_test f (get_or (filter (λ p. is_before f p) pairs) i d) (filter_passes (λ p. is_before f p) pairs i d within)

  rest_after : (flows : List Counted) → AllPairs IsCountedBefore (f ∷ flows) →
      All (IsCountedBefore f) (with_flows flows (filter (λ p. is_before f p) pairs))
  rest_after flows up = all_with (IsCountedBefore f) flows (filter (λ p. is_before f p) pairs)
      (λ i d within some. up 0 (suc i) d (omega arith) (omega arith)) back_after

-- The order of the list.

tail_up : (f : Counted) (flows : List Counted) → AllPairs IsCountedBefore (f ∷ flows) → AllPairs IsCountedBefore flows
tail_up f flows up = λ i j d less within. up (suc i) (suc j) d (omega arith) (omega arith)

pub ordered_with : (flows pairs : List Counted) → AllPairs IsCountedBefore flows → AllPairs IsCountedBefore pairs →
    AllPairs IsCountedBefore (with_flows flows pairs)
ordered_with [] pairs up pairs_up = pairs_up
ordered_with (f ∷ flows) pairs up pairs_up =
    pairs_append IsCountedBefore (front ++ some_flow f) rest
    (pairs_append IsCountedBefore front (some_flow f) (AllPairs-filter IsCountedBefore (λ p. is_before p f) pairs pairs_up)
    (some_up (nat_lt 0 f.2))
    (λ x y x_in y_in. subst (λ (z : Counted). IsCountedBefore x z) (in_some (nat_lt 0 f.2) y y_in)
    (All-contains (λ p. IsCountedBefore p f) front x (front_before f pairs) x_in)))
    (ordered_with flows (filter (λ p. is_before f p) pairs) (tail_up f flows up)
    (AllPairs-filter IsCountedBefore (λ p. is_before f p) pairs pairs_up))
    (λ x y x_in y_in.
    let after = All-contains (IsCountedBefore f) rest y (rest_after f pairs flows up) y_in in
    ⊎_elim
    (λ early. before_trans x f y (All-contains (λ p. IsCountedBefore p f) front x (front_before f pairs) early) after)
    (λ here. subst (λ (z : Counted). IsCountedBefore z y) (in_some (nat_lt 0 f.2) x here) after)
    (Contains-append_cases front (some_flow f) x x_in))
  where
    front : List Counted
    front = filter (λ p. is_before p f) pairs

    rest : List Counted
    rest = with_flows flows (filter (λ p. is_before f p) pairs)

    in_some : (b : Bool) (x : Counted) → Contains (if b then f ∷ [] else []) x → f ≡ x
    in_some true x x_in = only_one f x x_in
    in_some false x (k, within, is) = absurd (omega arith)

    some_up : (b : Bool) → AllPairs IsCountedBefore (if b then f ∷ [] else [])
    some_up true = λ i j d less within. absurd (omega arith)
    some_up false = λ i j d less within. absurd (omega arith)

-- The counts of the list.

module _ (x y : ℕ) where
  abbrev term : Counted → ℕ
  term p = if is_pair x y p then p.2 else 0

  clash : (p q : Counted) → is_pair x y p ≡ true → is_pair x y q ≡ true → IsCountedBefore p q → ⊥
  clash p q is is' less =
      let a = and_parts (p.0 == x) (p.1 == y) is in
      let b = and_parts (q.0 == x) (q.1 == y) is' in
      let a0 = eqb-true p.0 x a.0 in
      let a1 = eqb-true p.1 y a.1 in
      let b0 = eqb-true q.0 x b.0 in
      let b1 = eqb-true q.1 y b.1 in
      ⊎_elim (λ (below : p.0 < q.0). omega arith) (λ (same, below). omega arith) less

  no_term : (p : Counted) → (is_pair x y p ≡ true → ⊥) → term p ≡ 0
  no_term p isnt = by (is_pair x y p) refl
    where
      by : (b : Bool) → is_pair x y p ≡ b → (if b then p.2 else 0) ≡ 0
      by true is = absurd (isnt is)
      by false is = refl

  none_before : (q : Counted) (ps : List Counted) → is_pair x y q ≡ true → All (λ p. IsCountedBefore p q) ps → count_among x y ps ≡ 0
  none_before q ps is before = sum_none term ps
      (λ j d within. no_term (get_or ps j d) (λ here. clash (get_or ps j d) q here is (before j d within)))

  none_after : (q : Counted) (ps : List Counted) → is_pair x y q ≡ true → All (IsCountedBefore q) ps → count_among x y ps ≡ 0
  none_after q ps is after = sum_none term ps
      (λ j d within. no_term (get_or ps j d) (λ here. clash q (get_or ps j d) is here (after j d within)))

  one_flow : (f : Counted) → is_pair x y f ≡ true → count_among x y (some_flow f) ≡ f.2
  one_flow f is = by (nat_lt 0 f.2) refl
    where
      by : (b : Bool) → nat_lt 0 f.2 ≡ b → count_among x y (if b then f ∷ [] else []) ≡ f.2
      by true some =
          let all = sum_by-cons term f [] in
          let here : term f ≡ f.2 = ap (λ (b : Bool). if b then f.2 else 0) is in
          omega arith
      by false none = let zero = ltb-false 0 f.2 none in omega arith

  no_flow : (f : Counted) → is_pair x y f ≡ false → count_among x y (some_flow f) ≡ 0
  no_flow f isnt = by (nat_lt 0 f.2)
    where
      by : (b : Bool) → count_among x y (if b then f ∷ [] else []) ≡ 0
      by true =
          let all = sum_by-cons term f [] in
          let here : term f ≡ 0 = ap (λ (b : Bool). if b then f.2 else 0) isnt in
          omega arith
      by false = refl

  -- the pairs before a pair and those after it have all counts except its own
  beside : (f : Counted) (ps : List Counted) → is_pair x y f ≡ false →
      count_among x y ps ≡ count_among x y (filter (λ p. is_before p f) ps) + count_among x y (filter (λ p. is_before f p) ps)
  beside f [] isnt = refl
  beside f (p ∷ ps) isnt =
      let all = sum_by-cons term p ps in
      let rest = beside f ps isnt in
      let front = kept (is_before p f) (filter (λ q. is_before q f) ps) in
      let back = kept (is_before f p) (filter (λ q. is_before f q) ps) in
      let here = parted in
      omega arith
    where
      kept : (b : Bool) (qs : List Counted) → count_among x y (cond b (p ∷ qs) qs) ≡ (if b then term p else 0) + count_among x y qs
      kept true qs = sum_by-cons term p qs
      kept false qs = omega arith

      both : (b c : Bool) → term p ≡ 0 → term p ≡ (if b then term p else 0) + (if c then term p else 0)
      both true true none = omega arith
      both true false none = omega arith
      both false true none = omega arith
      both false false none = omega arith

      one_of : (b c : Bool) → ((b ≡ true) × (c ≡ false)) ⊎ ((b ≡ false) × (c ≡ true)) →
          term p ≡ (if b then term p else 0) + (if c then term p else 0)
      one_of true false either = omega arith
      one_of false true either = omega arith
      one_of true true (inl (is, isnt)) = absurd (cc)
      one_of true true (inr (isnt, is)) = absurd (cc)
      one_of false false (inl (is, isnt)) = absurd (cc)
      one_of false false (inr (isnt, is)) = absurd (cc)

      other : is_pair x y p ≡ true → (p.0 ≡ f.0) × (p.1 ≡ f.1) → ⊥
      other is (from, to) =
          let same : is_pair x y f ≡ true = (λ i. is_pair x y (sym from i, sym to i, f.2)) ∙ is in
          absurd (cc)

      parted : term p ≡ (if is_before p f then term p else 0) + (if is_before f p then term p else 0)
      parted = by (is_pair x y p) refl
        where
          by : (b : Bool) → is_pair x y p ≡ b →
              term p ≡ (if is_before p f then term p else 0) + (if is_before f p then term p else 0)
          by false none = both (is_before p f) (is_before f p) (ap (λ (b : Bool). if b then p.2 else 0) none)
          by true is = one_of (is_before p f) (is_before f p) (elim (in_order p f) [
            | inl less ↦ inl (before_test p f less, not_after p f less)
            | inr apart ↦ elim apart [
              | inl more ↦ inr (not_after f p more, before_test f p more)
              | inr same ↦ absurd (other is same)
            ]
          ])

  pub counts_with : (flows pairs : List Counted) → AllPairs IsCountedBefore flows →
      count_among x y (with_flows flows pairs) ≡ count_with flows pairs x y
  counts_with [] pairs up = refl
  counts_with (f ∷ flows) pairs up = by (is_pair x y f) refl (counts_with flows (filter (λ p. is_before f p) pairs) (tail_up f flows up))
    where
      front : List Counted
      front = filter (λ p. is_before p f) pairs

      back : List Counted
      back = filter (λ p. is_before f p) pairs

      whole : count_among x y (with_flows (f ∷ flows) pairs)
          ≡ count_among x y front + count_among x y (some_flow f) + count_among x y (with_flows flows back)
      whole =
          let outer = sum_by-append term (front ++ some_flow f) (with_flows flows back) in
          let inner = sum_by-append term front (some_flow f) in
          omega arith

      later : (o : Option Counted) → find (is_pair x y) flows ≡ o → is_pair x y f ≡ false →
          count_among x y (with_flows flows back) ≡ option_map_or (λ p. p.2) o (count_among x y back) →
          count_among x y front + count_among x y (with_flows flows back) ≡ option_map_or (λ p. p.2) o (count_among x y pairs)
      later None none isnt rest = let all = beside f pairs isnt in omega arith
      later (Some g) some isnt rest =
          let found = find-found (is_pair x y) flows g some in
          let after = All-contains (IsCountedBefore f) flows g (λ i d within. up 0 (suc i) d (omega arith) (omega arith)) found.1 in
          let none = none_before g front found.0
          (λ i d within. before_trans (get_or front i d) f g (front_before f pairs i d within) after) in
          omega arith

      by : (b : Bool) → is_pair x y f ≡ b → count_among x y (with_flows flows back) ≡ count_with flows back x y →
          count_among x y (with_flows (f ∷ flows) pairs)
          ≡ option_map_or (λ p. p.2) (cond b (Some f) (find (is_pair x y) flows)) (count_among x y pairs)
      by true is so =
          let all = whole in
          let first = none_before f front is (front_before f pairs) in
          let here = one_flow f is in
          let last = none_after f (with_flows flows back) is (rest_after f pairs flows up) in
          omega arith
      by false isnt so =
          let all = whole in
          let here = no_flow f isnt in
          let rest = later (find (is_pair x y) flows) refl isnt so in
          omega arith

-- One flow after another.
pub flows_next : (flows pairs rest rest' out out' : List Counted) (i : ℕ) (d : Counted) → i < length flows →
    rest' ≡ filter (λ p. is_before (get_or flows i d) p) rest →
    out' ≡ out ++ filter (λ p. is_before p (get_or flows i d)) rest ++ some_flow (get_or flows i d) →
    out ++ with_flows (drop i flows) rest ≡ with_flows flows pairs →
    out' ++ with_flows (drop (i + 1) flows) rest' ≡ with_flows flows pairs
flows_next flows pairs rest rest' out out' i d within rest_is out_is so_far =
    let f : Counted = get_or flows i d in
    let front : List Counted = filter (λ p. is_before p f) rest in
    let left : List Counted = drop (i + 1) flows in
    let first : drop i flows ≡ f ∷ left =
    drop-cons flows i d within ∙ ap (λ n. f ∷ drop n flows) (let e : suc i ≡ i + 1 = omega arith in e) in
    (λ j. out_is j ++ with_flows left (rest_is j))
    ∙ append_assoc (out ++ front) (some_flow f) (with_flows left (filter (λ p. is_before f p) rest))
    ∙ append_assoc out front (some_flow f ++ with_flows left (filter (λ p. is_before f p) rest))
    ∙ sym (ap (λ ys. out ++ ys) (append_assoc front (some_flow f) (with_flows left (filter (λ p. is_before f p) rest))))
    ∙ sym (ap (λ fs. out ++ with_flows fs rest) first)
    ∙ so_far

pub rest_up : (rest rest' : List Counted) (f : Counted) → rest' ≡ filter (λ p. is_before f p) rest →
    AllPairs IsCountedBefore rest → AllPairs IsCountedBefore rest'
rest_up rest rest' f is up =
    subst (AllPairs IsCountedBefore) (sym is) (AllPairs-filter IsCountedBefore (λ p. is_before f p) rest up)
