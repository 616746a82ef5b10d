-- The change of a repaired profile is below 2^128: the flow 0 balances, so the change is at most the sum of all counts of links, in which
-- the count of no pair is counted more than three times.
use Rattle.std.proofs.Common.{◌≡◌, ◌∙◌, ◌+◌, ◌*◌, ◌<◌, ◌≤◌, ◌^◌, ℕ, ℤ, suc, Bool, true, false, List, [], ◌∷◌, Option, Some, None}
use Rattle.std.proofs.Common.{AllPairs, Contains, length, get_or, arith, ap, sym, refl, ⊎_elim, cond, map, sum_by, if◌then◌else◌}
use Rattle.std.proofs.Common.{add-mul, one-mul, zero, zero-mul}
use Rattle.std.specs.Prelude.{◌==◌, ◌&&◌, count_by, not, slice_get}
use Rattle.std.specs.Option.{option_map_or}
use Rattle.std.proofs.lemmas.Bool.{and_parts, eqb-true}
use Rattle.std.proofs.lemmas.List.Elements.{All-contains, Contains-get_or}
use Rattle.std.proofs.lemmas.List.Sums.{sum_by-cons}
use Rattle.rb_bytes.proofs.ListLemmas.{in_map, slice_get_found}
use Rattle.rb_bytes.proofs.Members.{Contains-there}
use Rattle.rv_code.specs.declared.placed.Block.{Block}
use Rattle.rv_code.specs.declared.placed.Func.{Func}
use Rattle.rv_code.specs.layout.FunctionLists.{AreLaidOut}
use Rattle.rv_code.specs.layout.ProgramCode.{ProgramCode}
use Rattle.edge_profile.specs.PairCounts.{Counted, count_among, is_pair, total_count}
use Rattle.edge_profile.proofs.AscendingPairs.{sum_none}
use Rattle.flow_infer.specs.declared.flow.Flow.{Flow}
use Rattle.flow_infer.specs.declared.flow.Link.{Link}
use Rattle.flow_infer.specs.Flows.{AllHold, AreSameLinks, Balances, bare, change, distance, is_block}
use Rattle.rv_code.specs.layout.Blocks.{block_start}
use Rattle.flow_infer.specs.Links.{IsLinkBefore, block_end, counted_ends, is_home, link_count}
use Rattle.flow_infer.specs.Repairs.{IsRepaired}
use Rattle.flow_infer.proofs.LeastChange.{least_change}
use Rattle.flow_infer.proofs.Sums.{sum_alike, sum_mapped, sum_of_sums}
use Rattle.flow_text.specs.LinkLists.{AreBlocksOf, AreLinksOf, IsBetween, IsPlaceIn}
use Rattle.flow_text.specs.RepairedCounts.{end_at, start_at}
use Rattle.flow_text.proofs.BlockAddresses.{ends_rise, starts_rise}
use Rattle.flow_text.proofs.FlowOrder.{apart, before, unmapped}

-- The flow 0 balances.

no_flow : (links : List Link) (e : Link → Option ℕ) (k : ℕ) →
    sum_by (λ l. if is_block k (e l) then l.flow else 0) (map bare links) ≡ sum_by (λ l. if is_block k (e (bare l)) then 0 else 0) links
no_flow links e k = sum_mapped (λ l. if is_block k (e l) then l.flow else 0) bare links

nothing : (b : Bool) (n : ℕ) → n ≡ 0 → (if b then n else 0) ≡ 0
nothing true n none = none
nothing false n none = refl

still_balances : (links : List Link) → Balances (map bare links)
still_balances links k =
    no_flow links (λ l. l.to) k
    ∙ sum_none (λ l. if is_block k l.to then 0 else 0) links (λ j d within. nothing (is_block k (get_or links j d).to) 0 refl)
    ∙ sym (sum_none (λ l. if is_block k l.from then 0 else 0) links (λ j d within. nothing (is_block k (get_or links j d).from) 0 refl))
    ∙ sym (no_flow links (λ l. l.from) k)

still_same : (links : List Link) → AreSameLinks links (map bare links)
still_same [] = refl
still_same (l ∷ links) = ap (λ (ls : List Link). bare l ∷ ls) (still_same links)

change_upto : (links : List Link) (prices : List ℤ) → Balances links → AllHold prices links →
    change links ≤ sum_by (λ l. l.count) links
change_upto links prices balances hold =
    let least = least_change links prices balances hold (map bare links) (still_same links) (still_balances links) in
    let still = sum_mapped (λ l. distance l.flow l.count) bare links in
    let counts = sum_alike (λ l. distance 0 l.count) (λ l. l.count) (λ l. omega arith) links in
    omega (arith, least, still, counts)

-- Sums over pairs that items choose, if no pair is chosen twice.

abbrev sum_of : (Counted → Bool) → List Counted → ℕ
sum_of t ps = sum_by (λ p. if t p then p.2 else 0) ps

module _ {X : Type 0} (test : X → Counted → Bool) where
  abbrev chosen : List Counted → X → ℕ
  chosen ps x = sum_of (test x) ps

  times : (p : Counted) (xs : List X) → sum_by (λ x. if test x p then p.2 else 0) xs ≡ count_by (λ x. test x p) xs * p.2
  times p [] = sym (zero-mul p.2)
  times p (x ∷ xs) =
      let rest = times p xs in
      let all = sum_by-cons (λ y. if test y p then p.2 else 0) x xs in
      let many = sum_by-cons (λ y. cond (test y p) 1 0) x xs in
      let product = ap (λ (n : ℕ). n * p.2) many in
      let parts = add-mul (cond (test x p) 1 0) (count_by (λ y. test y p) xs) p.2 in
      let here = one (test x p) in
      omega arith
    where
      one : (b : Bool) → (if b then p.2 else 0) ≡ cond b 1 0 * p.2
      one true = sym (one-mul p.2)
      one false = sym (zero-mul p.2)

  pub chosen_upto : (xs : List X) → ((p : Counted) → count_by (λ x. test x p) xs ≤ 1) → (ps : List Counted) →
      sum_by (chosen ps) xs ≤ total_count ps
  chosen_upto xs once [] = let none = sum_none (λ (x : X). 0) xs (λ j d within. refl) in omega arith
  chosen_upto xs once (p ∷ ps) =
      let rest = chosen_upto xs once ps in
      let parted = sum_of_sums (λ x. if test x p then p.2 else 0) (chosen ps) (chosen (p ∷ ps))
      (λ x. sum_by-cons (λ q. if test x q then q.2 else 0) p ps) xs in
      let many = times p xs in
      let few = at_most (count_by (λ x. test x p) xs) (once p) in
      let all = sum_by-cons (λ q. q.2) p ps in
      omega arith
    where
      at_most : (n : ℕ) → n ≤ 1 → n * p.2 ≤ p.2
      at_most zero upto = let z = zero-mul p.2 in omega arith
      at_most (suc n) upto =
          let e : suc n ≡ 1 = omega arith in
          let one = ap (λ (k : ℕ). k * p.2) e ∙ one-mul p.2 in
          omega arith

abbrev one_if : Bool → ℕ
one_if b = cond b 1 0

at_most_one : {X : Type 0} (t : X → Bool) (R : X → X → Type 0) (xs : List X) → AllPairs R xs →
    ((x y : X) → Contains xs x → Contains xs y → R x y → t x ≡ true → t y ≡ true → ⊥) → count_by t xs ≤ 1
at_most_one t R [] up clash = omega arith
at_most_one {X} t R (x ∷ xs) up clash =
    let all = sum_by-cons (λ y. cond (t y) 1 0) x xs in
    let here = by (t x) refl (at_most_one t R xs (λ i j d less within. up (suc i) (suc j) d (omega arith) (omega arith))
    (λ y z y_in z_in. clash y z (Contains-there x xs y y_in) (Contains-there x xs z z_in))) in
    omega arith
  where
    none : t x ≡ true → (j : ℕ) (d : X) → j < length xs → (b : Bool) → t (get_or xs j d) ≡ b → one_if b ≡ 0
    none is j d within true is' = absurd (clash x (get_or xs j d) (0, omega arith, refl)
        (Contains-there x xs (get_or xs j d) (Contains-get_or xs j d within))
        (up 0 (suc j) d (omega arith) (omega arith)) is is')
    none is j d within false is' = refl

    by : (b : Bool) → t x ≡ b → count_by t xs ≤ 1 → one_if b + count_by t xs ≤ 1
    by true is upto =
        let rest = sum_none (λ y. cond (t y) 1 0) xs (λ j d within. none is j d within (t (get_or xs j d)) refl) in
        omega arith
    by false isnt upto = omega arith

-- The pairs that a link counts: of an edge, a way in or a way out.

module _ (funcs : List Func) (laid : AreLaidOut funcs) (blocks : List Block) (are : AreBlocksOf funcs blocks) where
  abbrev edge_test : Option ℕ → Option ℕ → Counted → Bool
  edge_test (Some s) (Some t) p = is_pair (end_at funcs blocks s) (start_at funcs blocks t) p
  edge_test (Some s) None p = false
  edge_test None to p = false

  abbrev away : ℕ → ℕ → Bool
  away k a = option_map_or (λ b. not (is_home funcs b a)) (slice_get blocks k) false

  abbrev in_test : Option ℕ → Option ℕ → Counted → Bool
  in_test None (Some t) p = p.1 == start_at funcs blocks t && away t p.0
  in_test None None p = false
  in_test (Some s) to p = false

  abbrev out_test : Option ℕ → Option ℕ → Counted → Bool
  out_test (Some s) None p = p.0 == end_at funcs blocks s && away s p.1
  out_test (Some s) (Some t) p = false
  out_test None to p = false

  none_chosen : (ps : List Counted) → sum_by (λ (p : Counted). if false then p.2 else 0) ps ≡ 0
  none_chosen ps = sum_none (λ (p : Counted). if false then p.2 else 0) ps (λ j d within. refl)

  count_is : (pairs : List Counted) (from to : Option ℕ) → IsPlaceIn blocks from → IsPlaceIn blocks to →
      link_count funcs blocks pairs from to
      ≡ (sum_of (edge_test from to) pairs + sum_of (in_test from to) pairs) + sum_of (out_test from to) pairs
  count_is pairs (Some s) (Some t) s_in t_in =
      let (b, at_b) = slice_get_found blocks s s_in in
      let (c, at_c) = slice_get_found blocks t t_in in
      let b0 : sum_of (in_test (Some s) (Some t)) pairs ≡ 0 = none_chosen pairs in
      let c0 : sum_of (out_test (Some s) (Some t)) pairs ≡ 0 = none_chosen pairs in
      let count : link_count funcs blocks pairs (Some s) (Some t)
      ≡ sum_of (edge_test (Some s) (Some t)) pairs =
      (λ i. option_map_or (λ d. option_map_or (λ e. count_among (block_end funcs d) (block_start funcs e) pairs) (at_c i) 0) (at_b i) 0)
      ∙ sym (λ i. count_among (option_map_or (block_end funcs) (at_b i) 0) (option_map_or (block_start funcs) (at_c i) 0) pairs) in
      omega arith
  count_is pairs (Some s) None s_in to_in =
      let (b, at_b) = slice_get_found blocks s s_in in
      let a0 : sum_of (edge_test (Some s) None) pairs ≡ 0 = none_chosen pairs in
      let b0 : sum_of (in_test (Some s) None) pairs ≡ 0 = none_chosen pairs in
      let count : link_count funcs blocks pairs (Some s) None ≡ sum_of (out_test (Some s) None) pairs =
      (λ i. option_map_or (λ d. sum_by (λ p. if p.0 == block_end funcs d && not (is_home funcs d p.1) then p.2 else 0) pairs) (at_b i) 0)
      ∙ sym (λ i. sum_by (λ p. if p.0 == option_map_or (block_end funcs) (at_b i) 0
      && option_map_or (λ d. not (is_home funcs d p.1)) (at_b i) false then p.2 else 0) pairs) in
      omega arith
  count_is pairs None (Some t) from_in t_in =
      let (c, at_c) = slice_get_found blocks t t_in in
      let a0 : sum_of (edge_test None (Some t)) pairs ≡ 0 = none_chosen pairs in
      let c0 : sum_of (out_test None (Some t)) pairs ≡ 0 = none_chosen pairs in
      let count : link_count funcs blocks pairs None (Some t) ≡ sum_of (in_test None (Some t)) pairs =
      (λ i. option_map_or (λ d. sum_by (λ p. if p.1 == block_start funcs d && not (is_home funcs d p.0) then p.2 else 0) pairs) (at_c i) 0)
      ∙ sym (λ i. sum_by (λ p. if p.1 == option_map_or (block_start funcs) (at_c i) 0
      && option_map_or (λ d. not (is_home funcs d p.0)) (at_c i) false then p.2 else 0) pairs) in
      omega arith
  count_is pairs None None from_in to_in =
      let a : sum_of (edge_test None None) pairs ≡ 0 = none_chosen pairs in
      let b : sum_of (in_test None None) pairs ≡ 0 = none_chosen pairs in
      let c : sum_of (out_test None None) pairs ≡ 0 = none_chosen pairs in
      omega (arith, a, b, c)

  -- No two links of one kind count the same pair.

  abbrev link_before : Link → Link → Type 0
  link_before l m = IsLinkBefore blocks (counted_ends l) (counted_ends m)

  edges_differ : (a b c d : Option ℕ) (x y : ℕ) (p : Counted) → IsPlaceIn blocks a → IsPlaceIn blocks c → IsPlaceIn blocks d →
      IsLinkBefore blocks (a, b, x) (c, d, y) → edge_test a b p ≡ true → edge_test c d p ≡ true → ⊥
  edges_differ (Some s) (Some t) (Some u) (Some v) x y p s_in u_in v_in less is is' =
      let a = and_parts (p.0 == end_at funcs blocks s) (p.1 == start_at funcs blocks t) is in
      let b = and_parts (p.0 == end_at funcs blocks u) (p.1 == start_at funcs blocks v) is' in
      let a0 = eqb-true p.0 (end_at funcs blocks s) a.0 in
      let a1 = eqb-true p.1 (start_at funcs blocks t) a.1 in
      let b0 = eqb-true p.0 (end_at funcs blocks u) b.0 in
      let b1 = eqb-true p.1 (start_at funcs blocks v) b.1 in
      ⊎_elim (λ (below : end_at funcs blocks s < end_at funcs blocks u). omega arith) (λ (same, below). omega arith)
      (apart funcs laid blocks are s t u v x y s_in u_in v_in less)
  edges_differ None b c d x y p a_in c_in d_in less is is' = absurd (cc)
  edges_differ (Some s) None c d x y p a_in c_in d_in less is is' = absurd (cc)
  edges_differ (Some s) (Some t) None d x y p a_in c_in d_in less is is' = absurd (cc)
  edges_differ (Some s) (Some t) (Some u) None x y p a_in c_in d_in less is is' = absurd (cc)

  ways_in_differ : (a b c d : Option ℕ) (x y : ℕ) (p : Counted) → IsPlaceIn blocks b → IsPlaceIn blocks d →
      IsLinkBefore blocks (a, b, x) (c, d, y) → in_test a b p ≡ true → in_test c d p ≡ true → ⊥
  ways_in_differ None (Some t) None (Some v) x y p t_in v_in less is is' =
      let a = and_parts (p.1 == start_at funcs blocks t) (away t p.0) is in
      let b = and_parts (p.1 == start_at funcs blocks v) (away v p.0) is' in
      let a1 = eqb-true p.1 (start_at funcs blocks t) a.0 in
      let b1 = eqb-true p.1 (start_at funcs blocks v) b.0 in
      let early : t < v = ⊎_elim (before funcs laid blocks are t v t_in)
      (λ (same, below). ⊎_elim (λ (less : 0 < 0). omega arith) (λ (at, less). omega arith) below) less in
      let up = starts_rise funcs laid blocks are t v early v_in in
      omega arith
  ways_in_differ (Some s) b c d x y p b_in d_in less is is' = absurd (cc)
  ways_in_differ None None c d x y p b_in d_in less is is' = absurd (cc)
  ways_in_differ None (Some t) (Some u) d x y p b_in d_in less is is' = absurd (cc)
  ways_in_differ None (Some t) None None x y p b_in d_in less is is' = absurd (cc)

  ways_out_differ : (a b c d : Option ℕ) (x y : ℕ) (p : Counted) → IsPlaceIn blocks a → IsPlaceIn blocks c →
      IsLinkBefore blocks (a, b, x) (c, d, y) → out_test a b p ≡ true → out_test c d p ≡ true → ⊥
  ways_out_differ (Some s) None (Some u) None x y p s_in u_in less is is' =
      let a = and_parts (p.0 == end_at funcs blocks s) (away s p.1) is in
      let b = and_parts (p.0 == end_at funcs blocks u) (away u p.1) is' in
      let a0 = eqb-true p.0 (end_at funcs blocks s) a.0 in
      let b0 = eqb-true p.0 (end_at funcs blocks u) b.0 in
      let early : s < u = ⊎_elim (before funcs laid blocks are s u s_in)
      (λ (same, below). ⊎_elim (λ (less : s + 1 < u + 1). omega arith) (λ (at, less). omega arith) below) less in
      let up = ends_rise funcs laid blocks are s u early u_in in
      omega arith
  ways_out_differ None b c d x y p a_in c_in less is is' = absurd (cc)
  ways_out_differ (Some s) (Some t) c d x y p a_in c_in less is is' = absurd (cc)
  ways_out_differ (Some s) None None d x y p a_in c_in less is is' = absurd (cc)
  ways_out_differ (Some s) None (Some u) (Some v) x y p a_in c_in less is is' = absurd (cc)

  module _ (links : List Link) (of : AreLinksOf blocks links) (pairs : List Counted)
      (counted : (l : Link) → Contains links l → l.count ≡ link_count funcs blocks pairs l.from l.to) where
    up : AllPairs link_before links
    up = unmapped (IsLinkBefore blocks) counted_ends links of.ordered

    inside : (l : Link) → Contains links l → IsBetween blocks l
    inside l l_in = All-contains (IsBetween blocks) links l of.inside l_in

    edges_once : (p : Counted) → count_by (λ l. edge_test l.from l.to p) links ≤ 1
    edges_once p = at_most_one (λ l. edge_test l.from l.to p) link_before links up
        (λ l m l_in m_in less. edges_differ l.from l.to m.from m.to l.count m.count p (inside l l_in).from (inside m m_in).from
        (inside m m_in).to less)

    ways_in_once : (p : Counted) → count_by (λ l. in_test l.from l.to p) links ≤ 1
    ways_in_once p = at_most_one (λ l. in_test l.from l.to p) link_before links up
        (λ l m l_in m_in less. ways_in_differ l.from l.to m.from m.to l.count m.count p (inside l l_in).to (inside m m_in).to less)

    ways_out_once : (p : Counted) → count_by (λ l. out_test l.from l.to p) links ≤ 1
    ways_out_once p = at_most_one (λ l. out_test l.from l.to p) link_before links up
        (λ l m l_in m_in less. ways_out_differ l.from l.to m.from m.to l.count m.count p (inside l l_in).from
        (inside m m_in).from less)

    counts_alike : (ls : List Link) → ((l : Link) → Contains ls l → Contains links l) → sum_by (λ l. l.count) ls
        ≡ sum_by (λ l. (sum_of (edge_test l.from l.to) pairs + sum_of (in_test l.from l.to) pairs)
        + sum_of (out_test l.from l.to) pairs) ls
    counts_alike [] among = refl
    counts_alike (l ∷ ls) among =
        let l_in = among l (0, omega arith, refl) in
        let between = inside l l_in in
        let here = counted l l_in ∙ count_is pairs l.from l.to between.from between.to in
        let rest = counts_alike ls (λ m m_in. among m (Contains-there l ls m m_in)) in
        let all = sum_by-cons (λ (m : Link). m.count) l ls in
        let all' = sum_by-cons (λ (m : Link). (sum_of (edge_test m.from m.to) pairs + sum_of (in_test m.from m.to) pairs)
        + sum_of (out_test m.from m.to) pairs) l ls in
        omega (arith, here, rest, all, all')

    counts_upto : sum_by (λ l. l.count) links ≤ 3 * total_count pairs
    counts_upto =
        let all = counts_alike links (λ l l_in. l_in) in
        let outer = sum_of_sums (λ l. sum_of (edge_test l.from l.to) pairs + sum_of (in_test l.from l.to) pairs)
        (λ l. sum_of (out_test l.from l.to) pairs)
        (λ l. (sum_of (edge_test l.from l.to) pairs + sum_of (in_test l.from l.to) pairs) + sum_of (out_test l.from l.to) pairs)
        (λ l. refl) links in
        let inner = sum_of_sums (λ l. sum_of (edge_test l.from l.to) pairs) (λ l. sum_of (in_test l.from l.to) pairs)
        (λ l. sum_of (edge_test l.from l.to) pairs + sum_of (in_test l.from l.to) pairs) (λ l. refl) links in
        let a = chosen_upto (λ l. edge_test l.from l.to) links edges_once pairs in
        let b = chosen_upto (λ l. in_test l.from l.to) links ways_in_once pairs in
        let c = chosen_upto (λ l. out_test l.from l.to) links ways_out_once pairs in
        omega (arith, all, outer, inner, a, b, c)

-- the change of a repaired profile whose counts have a small sum
pub change_fits : (code : ProgramCode) (blocks : List Block) (edges : List (ℕ × ℕ)) (pairs : List Counted) (flow : Flow) →
    AreLaidOut code.funcs → AreBlocksOf code.funcs blocks → AreLinksOf blocks flow.links.items →
    IsRepaired code blocks edges pairs flow → total_count pairs < 2 ^ 100 → change flow.links.items < 2 ^ 128
change_fits code blocks edges pairs flow laid are of repaired few =
    let low = change_upto flow.links.items flow.prices.items repaired.balances repaired.hold in
    let high = counts_upto code.funcs laid blocks are flow.links.items of pairs
    (λ l l_in. (repaired.links.only (counted_ends l) (in_map counted_ends flow.links.items l l_in)).1) in
    omega (arith, low, high, few)
