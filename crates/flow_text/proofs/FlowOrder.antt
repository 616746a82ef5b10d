-- The pairs of edges are in order, and their ends are instructions.
use Rattle.std.proofs.Common.{◌≡◌, ◌∙◌, ◌<◌, ◌≤◌, ℕ, suc, List, [], ◌∷◌, Option, Some, None, All, AllPairs, Contains, length, get_or, arith}
use Rattle.std.proofs.Common.{ap, sym, subst, inl, inr, refl, ⊎_elim, map, ◌+◌, ◌++◌, take}
use Rattle.std.specs.List.{cons_option}
use Rattle.std.specs.Option.{option_to_list}
use Rattle.std.proofs.lemmas.Bool.{cases_lt}
use Rattle.std.proofs.lemmas.List.{get_or-map, length-map, take_more}
use Rattle.std.proofs.lemmas.List.Elements.{All-contains, All-head, All-tail, filter_map-append}
use Rattle.std.proofs.lemmas.List.Kept.{AllPairs-cons}
use Rattle.std.proofs.lemmas.Option.{same_Some}
use Rattle.rv_code.specs.declared.placed.Block.{Block}
use Rattle.rv_code.specs.declared.placed.Func.{Func}
use Rattle.rv_code.specs.layout.BlockOrders.{func_of_block}
use Rattle.rv_code.specs.layout.FunctionLists.{AreLaidOut}
use Rattle.rv_code.specs.layout.Lists.{IsPairBefore}
use Rattle.edge_profile.specs.PairCounts.{Counted, IsCountedBefore}
use Rattle.edge_text.specs.EdgeText.{HasCodeEnds}
use Rattle.rb_bytes.proofs.ListLemmas.{all_of}
use Rattle.rb_bytes.proofs.Members.{Contains-cons_cases, Contains-there}
use Rattle.flow_infer.specs.declared.flow.Link.{Link}
use Rattle.flow_infer.specs.Links.{IsLinkBefore, counted_ends}
use Rattle.flow_infer.proofs.RepairedLists.{funcs_rise}
use Rattle.flow_text.specs.LinkLists.{AreBlocksOf, AreLinksOf, IsBetween, IsPlaceIn}
use Rattle.flow_text.specs.RepairedCounts.{edge_flows, end_at, flow_between, start_at}
use Rattle.flow_text.proofs.BlockAddresses.{end_is_code, ends_rise, start_is_code, starts_rise}

-- an order of mapped items, as an order of the items
pub unmapped : {X Y : Type 0} (R : Y → Y → Type 0) (f : X → Y) (xs : List X) → AllPairs R (map f xs) →
    AllPairs (λ x y. R (f x) (f y)) xs
unmapped {Y = Y} R f xs up i j d less within =
    subst (λ (y : Y). R (f (get_or xs i d)) y) (get_or-map f xs j d (f d) within)
    (subst (λ (y : Y). R y (get_or (map f xs) j (f d))) (get_or-map f xs i d (f d) (omega arith))
    (up i j (f d) less (let long = length-map xs f in omega arith)))

module _ (funcs : List Func) (laid : AreLaidOut funcs) (blocks : List Block) (are : AreBlocksOf funcs blocks) where
  abbrev flow_of : Link → Option Counted
  flow_of l = flow_between funcs blocks l.from l.to l.flow

  -- a pair in the list is the pair of a link
  from_flows : (links : List Link) (p : Counted) → Contains (edge_flows funcs blocks links) p →
      (l : Link) × Contains links l × (flow_of l ≡ Some p)
  from_flows [] p (k, within, is) = absurd (omega arith)
  from_flows (l ∷ links) p is_in = by (flow_of l) refl is_in (from_flows links p)
    where
      there : (m : Link) × Contains links m × (flow_of m ≡ Some p) → (m : Link) × Contains (l ∷ links) m × (flow_of m ≡ Some p)
      there (m, m_in, is) = (m, Contains-there l links m m_in, is)

      by : (o : Option Counted) → flow_of l ≡ o → Contains (cons_option o (edge_flows funcs blocks links)) p →
          (Contains (edge_flows funcs blocks links) p → (m : Link) × Contains links m × (flow_of m ≡ Some p)) →
          (m : Link) × Contains (l ∷ links) m × (flow_of m ≡ Some p)
      by None is is_in from = there (from is_in)
      by (Some q) is is_in from = ⊎_elim
          (λ (here : q ≡ p). (l, (0, omega arith, refl), is ∙ ap (λ (r : Counted). Some r) here))
          (λ later. there (from later))
          (Contains-cons_cases q (edge_flows funcs blocks links) p is_in)

  -- blocks in order have their functions in order
  pub before : (j k : ℕ) → j < length blocks → func_of_block blocks j < func_of_block blocks k → j < k
  before j k within less = ⊎_elim
      (λ (early : j < k). early)
      (λ (late : k ≤ j). absurd (let up = funcs_rise blocks are.stretches.ordered k j late within in omega arith))
      (cases_lt j k)

  pub apart : (s t u v c d : ℕ) → s < length blocks → u < length blocks → v < length blocks →
      IsLinkBefore blocks (Some s, Some t, c) (Some u, Some v, d) →
      IsPairBefore (end_at funcs blocks s, start_at funcs blocks t) (end_at funcs blocks u, start_at funcs blocks v)
  apart s t u v c d s_in u_in v_in (inl less) = inl (ends_rise funcs laid blocks are s u (before s u s_in less) u_in)
  apart s t u v c d s_in u_in v_in (inr (same, inl less)) = inl (ends_rise funcs laid blocks are s u (omega arith) u_in)
  apart s t u v c d s_in u_in v_in (inr (same, inr (at, less))) =
      let one : s ≡ u = omega arith in
      inr (ap (end_at funcs blocks) one, starts_rise funcs laid blocks are t v (omega arith) v_in)

  pairs_apart : (a b c d : Option ℕ) (n m x y : ℕ) (p q : Counted) → IsPlaceIn blocks a → IsPlaceIn blocks c → IsPlaceIn blocks d →
      flow_between funcs blocks a b n ≡ Some p → flow_between funcs blocks c d m ≡ Some q →
      IsLinkBefore blocks (a, b, x) (c, d, y) → IsCountedBefore p q
  pairs_apart (Some s) (Some t) (Some u) (Some v) n m x y p q s_in u_in v_in is is' less =
      subst (λ (r : Counted). IsCountedBefore p r) (same_Some _ q is')
      (subst (λ (r : Counted). IsCountedBefore r (end_at funcs blocks u, start_at funcs blocks v, m)) (same_Some _ p is)
      (apart s t u v x y s_in u_in v_in less))
  pairs_apart None b c d n m x y p q a_in c_in d_in is is' less = absurd (cc)
  pairs_apart (Some s) None c d n m x y p q a_in c_in d_in is is' less = absurd (cc)
  pairs_apart (Some s) (Some t) None d n m x y p q a_in c_in d_in is is' less = absurd (cc)
  pairs_apart (Some s) (Some t) (Some u) None n m x y p q a_in c_in d_in is is' less = absurd (cc)

  links_apart : (l m : Link) (p q : Counted) → IsBetween blocks l → IsBetween blocks m → flow_of l ≡ Some p → flow_of m ≡ Some q →
      IsLinkBefore blocks (counted_ends l) (counted_ends m) → IsCountedBefore p q
  links_apart l m p q l_in m_in is is' less =
      pairs_apart l.from l.to m.from m.to l.flow m.flow l.count m.count p q l_in.from m_in.from m_in.to is is' less

  ordered : (links : List Link) → All (IsBetween blocks) links →
      AllPairs (λ l m. IsLinkBefore blocks (counted_ends l) (counted_ends m)) links →
      AllPairs IsCountedBefore (edge_flows funcs blocks links)
  ordered [] inside up = λ i j d less within. absurd (omega arith)
  ordered (l ∷ links) inside up = by (flow_of l) refl
      (ordered links (All-tail (IsBetween blocks) l links inside) (λ i j d less within. up (suc i) (suc j) d (omega arith) (omega arith)))
    where
      later : (p : Counted) → flow_of l ≡ Some p → (q : Counted) → Contains (edge_flows funcs blocks links) q → IsCountedBefore p q
      later p is q q_in =
          let (m, (k, within, m_is), is') = from_flows links q q_in in
          let less = up 0 (suc k) m (omega arith) (omega arith) in
          let m_in = subst (IsBetween blocks) m_is (All-tail (IsBetween blocks) l links inside k m within) in
          links_apart l m p q (All-head (IsBetween blocks) l links inside) m_in is is'
          (subst (λ (n : Link). IsLinkBefore blocks (counted_ends l) (counted_ends n)) m_is less)

      by : (o : Option Counted) → flow_of l ≡ o → AllPairs IsCountedBefore (edge_flows funcs blocks links) →
          AllPairs IsCountedBefore (cons_option o (edge_flows funcs blocks links))
      by None is rest = rest
      by (Some p) is rest = AllPairs-cons IsCountedBefore p (edge_flows funcs blocks links)
          (all_of (IsCountedBefore p) (edge_flows funcs blocks links) (later p is)) rest

  pub flows_ordered : (links : List Link) → AreLinksOf blocks links → AllPairs IsCountedBefore (edge_flows funcs blocks links)
  flows_ordered links of = ordered links of.inside (unmapped (IsLinkBefore blocks) counted_ends links of.ordered)

  pair_coded : (a b : Option ℕ) (n : ℕ) (p : Counted) → IsPlaceIn blocks a → IsPlaceIn blocks b →
      flow_between funcs blocks a b n ≡ Some p → HasCodeEnds funcs p
  pair_coded (Some s) (Some t) n p s_in t_in is = subst (HasCodeEnds funcs) (same_Some _ p is) (record {
    from = end_is_code funcs laid blocks are s s_in;
    to = start_is_code funcs laid blocks are t t_in;
  })
  pair_coded None b n p a_in b_in is = absurd (cc)
  pair_coded (Some s) None n p a_in b_in is = absurd (cc)

  pub flows_coded : (links : List Link) → AreLinksOf blocks links → All (HasCodeEnds funcs) (edge_flows funcs blocks links)
  flows_coded links of = all_of (HasCodeEnds funcs) (edge_flows funcs blocks links) (λ p p_in.
      let (l, l_in, is) = from_flows links p p_in in
      let inside = All-contains (IsBetween blocks) links l of.inside l_in in
      pair_coded l.from l.to l.flow p inside.from inside.to is)

-- One more link.
pub flows_more : (funcs : List Func) (blocks : List Block) (links : List Link) (i : ℕ) (d : Link) (o : Option Counted)
    (flows flows' : List Counted) → i < length links →
    o ≡ flow_between funcs blocks (get_or links i d).from (get_or links i d).to (get_or links i d).flow →
    flows' ≡ flows ++ option_to_list o →
    flows ≡ edge_flows funcs blocks (take i links) → flows' ≡ edge_flows funcs blocks (take (i + 1) links)
flows_more funcs blocks links i d o flows flows' within item more so_far =
    more
    ∙ (λ j. so_far j ++ option_to_list (item j))
    ∙ one (flow_between funcs blocks (get_or links i d).from (get_or links i d).to (get_or links i d).flow)
    ∙ sym (filter_map-append (λ (m : Link). flow_between funcs blocks m.from m.to m.flow) (take i links) (get_or links i d ∷ []))
    ∙ ap (edge_flows funcs blocks) (sym (take_more links i d within))
  where
    one : (o : Option Counted) →
        edge_flows funcs blocks (take i links) ++ option_to_list o ≡ edge_flows funcs blocks (take i links) ++ cons_option o []
    one None = refl
    one (Some p) = refl
