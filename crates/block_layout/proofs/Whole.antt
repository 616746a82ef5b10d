-- From edges and weights to the parts of all functions.
use Rattle.std.proofs.Common.{◌≡◌, ◌<◌, ◌≤◌, ◌∙◌, ℕ, zero, suc, true, false, List, Option, Some, None, length, get_or, map}
use Rattle.std.proofs.Common.{arith, refl, ap, sym, subst, ⊎_elim, All, Contains}
use Rattle.std.specs.Prelude.{◌==◌, ◌&&◌, IsSomeAnd, slice_get, slice_index, Any}
use Rattle.std.specs.Option.{option_map_or}
use Rattle.std.proofs.lemmas.Bool.{cases_lt, eq-eqb, eqb-true, lt-ltb, ltb-true, and_parts}
use Rattle.std.proofs.lemmas.List.{get_or-map, get_or_past, length-map}
use Rattle.std.proofs.lemmas.List.Elements.{Contains-get_or, All-contains}
use Rattle.std.proofs.lemmas.List.Folds.{Any-from_list_any, list_any_at}
use Rattle.std.proofs.lemmas.Option.{slice_get-get_or, slice_get_past, slice_get_within}
use Rattle.std.proofs.lemmas.Grind.{common_steps}
use Rattle.rv_code.specs.declared.placed.Func.{Func}
use Rattle.rv_code.specs.declared.placed.Block.{Block}
use Rattle.rv_code.specs.declared.layout.Chains.{Chains}
use Rattle.rv_code.specs.layout.Blocks.{func_of}
use Rattle.rv_code.specs.layout.FunctionMembers.{IsOfFunction}
use Rattle.rv_code.specs.layout.BlockOrders.{list_of}
use Rattle.edge_profile.specs.PairCounts.{Counted}
use Rattle.edge_profile.specs.Weights.{block_weight, is_hot_block, is_hot_function}
use Rattle.block_layout.specs.EdgeLists.{IsWithin, IsInner, AreCounted}
use Rattle.block_layout.specs.HotAndCold.{AreSplitTo}
use Rattle.block_layout.specs.FirstLinks.{IsLinked, ends_of_edge}
use Rattle.block_layout.specs.Links.{Links}
use Rattle.block_layout.specs.Parts.{IsOf, IsFirstBlock, IsHotPart, AreParts, weight_at}
use Rattle.block_layout.specs.Walks.{AreBetween, AreInner}
use Rattle.block_layout.specs.declared.edge_counts.Edge.{Edge}
use Rattle.block_layout.proofs.Firsts.{IsOf-get_or, get_or-IsOf}
use Rattle.block_layout.proofs.Starting.{nothing, IsOf-within}

-- Edges.

within_of : (blocks : List Block) (e : ℕ × ℕ) → IsInner blocks e → IsWithin (length blocks) e
within_of blocks e is = grind (arith, common_steps, slice_get_within)

pub all_within : (blocks : List Block) (edges : List (ℕ × ℕ)) → All (IsInner blocks) edges → All (IsWithin (length blocks)) edges
all_within blocks edges inner k d within = within_of blocks (get_or edges k d) (inner k d within)

module _ (count : ℕ × ℕ → ℕ) (blocks : List Block) (edges : List (ℕ × ℕ)) (taken : List Edge) (inner : All (IsInner blocks) edges)
    (counted : AreCounted count edges taken) where
  listed : (i : ℕ) → i < length taken → Contains edges (ends_of_edge taken i)
  listed i within = (counted.only (get_or taken i (record { from = 0; to = 0; count = 0 }))
      (Contains-get_or taken i (record { from = 0; to = 0; count = 0 }) within)).0

  pub taken_within : (i : ℕ) → i < length taken → ((ends_of_edge taken i).0 < length blocks)
      × ((ends_of_edge taken i).1 < length blocks)
  taken_within i within =
      All-contains (IsWithin (length blocks)) edges (ends_of_edge taken i) (all_within blocks edges inner) (listed i within)

  module _ (p : Links) (linked : IsLinked taken (length blocks) (IsFirstBlock blocks) (length taken) p) where
    by_edge : (s t : ℕ) → p.next s ≡ Some t → IsInner blocks (s, t)
    by_edge s t next =
        let by = (linked.only s t next).by in
        subst (IsInner blocks) by.2.1 (All-contains (IsInner blocks) edges (ends_of_edge taken by.0) inner (listed by.0 by.2.0))

    pub links_between : AreBetween (length blocks) p
    links_between = record { inside = λ s t next. within_of blocks (s, t) (by_edge s t next); back = linked.back }

    pub links_inner : AreInner blocks p
    links_inner s t f next is = at (slice_get blocks s) (slice_get blocks t) (by_edge s t next) is
      where
        at : (a b : Option Block) → IsSomeAnd a (λ x. IsSomeAnd b (λ y. x.func ≡ y.func)) → IsSomeAnd a (λ x. x.func ≡ f) →
            IsSomeAnd b (λ y. y.func ≡ f)
        at None b none own = absurd none
        at (Some x) None none own = absurd none
        at (Some x) (Some y) same own = sym same ∙ own

-- Blocks are in functions of the list.
pub of_functions : (funcs : List Func) (blocks : List Block) → All (IsOfFunction funcs) blocks → (k f : ℕ) →
    IsOf blocks f k → f < length funcs
of_functions funcs blocks stretches k f is =
    let within = IsOf-within blocks f k is in
    let b = get_or blocks k nothing in
    let own = get_or-IsOf blocks f k nothing within is in
    subst (λ (g : ℕ). g < length funcs) own (at b (func_of funcs b) refl (stretches k nothing within))
  where
    at : (b : Block) (o : Option Func) → func_of funcs b ≡ o →
        IsSomeAnd o (λ func. (b.first ≤ b.last) × (b.last < length func.insts.items)) → b.func < length funcs
    at b None is' none = absurd none
    at b (Some func) is' range = slice_get_within funcs b.func func is'

-- Weights.

pub weights_are : (pairs : List Counted) (funcs : List Func) (blocks : List Block) (weights : List ℕ)
    → weights ≡ map (block_weight pairs funcs) blocks → (k : ℕ) → slice_index weights k ≡ weight_at pairs funcs blocks k
weights_are pairs funcs blocks weights are k = ap (λ (ws : List ℕ). slice_index ws k) are ∙ ⊎_elim
    (λ (within : k < length blocks).
    get_or-map (block_weight pairs funcs) blocks k nothing 0 within
    ∙ sym (ap (λ (o : Option Block). option_map_or (block_weight pairs funcs) o 0) (slice_get-get_or blocks k nothing within)))
    (λ (past : length blocks ≤ k).
    let mapped : length (map (block_weight pairs funcs) blocks) ≡ length blocks = simp length-map in
    get_or_past (map (block_weight pairs funcs) blocks) k 0 (omega arith)
    ∙ sym (ap (λ (o : Option Block). option_map_or (block_weight pairs funcs) o 0) (slice_get_past blocks k past)))
    (cases_lt k (length blocks))

module _ (pairs : List Counted) (funcs : List Func) (blocks : List Block) where
  weight_in : (k : ℕ) (d : Block) → k < length blocks →
      weight_at pairs funcs blocks k ≡ block_weight pairs funcs (get_or blocks k d)
  weight_in k d within =
      ap (λ (o : Option Block). option_map_or (block_weight pairs funcs) o 0) (slice_get-get_or blocks k d within)

  pub parts_of : (p : Links) (parts : Chains) → AreSplitTo blocks (weight_at pairs funcs blocks) p (length funcs) parts
      → AreParts (is_hot_function pairs funcs blocks) (length funcs) blocks (weight_at pairs funcs blocks) p parts
  parts_of p parts are = record {
    hot_count = are.hot_count;
    cold_count = are.cold_count;
    hot = λ f within is. hot f within (Any-from_list_any (λ b. b.func == f && is_hot_block pairs funcs b) blocks is);
    not_hot = λ f within is. (are.each f within).no_part (λ k own. none f k own is (weight_at pairs funcs blocks k) refl);
    cold = λ f within. (are.each f within).cold_part;
  }
    where
      hot : (f : ℕ) → f < length funcs → Any (λ b. (b.func == f && is_hot_block pairs funcs b) ≡ true) blocks →
          IsHotPart blocks (weight_at pairs funcs blocks) p f (list_of parts.hot.items f)
      hot f within (k, b, inside, at, is) =
          let both = and_parts (b.func == f) (is_hot_block pairs funcs b) is in
          let own : b.func ≡ f = eqb-true b.func f both.0 in
          let heavy : 0 < block_weight pairs funcs b = ltb-true 0 (block_weight pairs funcs b) both.1 in
          let weight : weight_at pairs funcs blocks k ≡ block_weight pairs funcs b =
          weight_in k b inside ∙ ap (block_weight pairs funcs) at in
          (are.each f within).hot_part k (IsOf-get_or blocks f k b inside (ap (λ (c : Block). c.func) at ∙ own)) (omega arith)

      none : (f k : ℕ) → IsOf blocks f k → is_hot_function pairs funcs blocks f ≡ false → (w : ℕ) →
          weight_at pairs funcs blocks k ≡ w → weight_at pairs funcs blocks k ≡ 0
      none f k own is zero same = same
      none f k own is (suc w) same =
          let inside = IsOf-within blocks f k own in
          let b = get_or blocks k nothing in
          let mine : b.func ≡ f = get_or-IsOf blocks f k nothing inside own in
          let heavy : 0 < block_weight pairs funcs b = let weight = weight_in k nothing inside in omega arith in
          let test : (b.func == f && is_hot_block pairs funcs b) ≡ true =
          ap (λ t. t && is_hot_block pairs funcs b) (eq-eqb b.func f mine) ∙ lt-ltb 0 (block_weight pairs funcs b) heavy in
          let some = list_any_at (λ c. c.func == f && is_hot_block pairs funcs c) blocks k nothing inside test in
          absurd (cc)
