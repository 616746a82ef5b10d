-- At most one choice of the hot and the cold part of each function satisfies AreParts.
use Rattle.std.proofs.Common.{ℕ, zero, suc, ◌≡◌, ◌<◌, ◌⊎◌, ◌∙◌, Bool, true, false, List, [], ◌∷◌, ◌++◌, Option, Some, None}
use Rattle.std.proofs.Common.{Contains, AllPairs, length, flat_map, refl, sym, ap, subst, inl, inr, ⊎_elim, arith}
use Rattle.std.specs.Prelude.{IsSomeAnd, Vec}
use Rattle.std.specs.declared.alloc.Global.{Global}
use Rattle.std.proofs.lemmas.Bool.{cases_lt}
use Rattle.std.proofs.lemmas.List.{get_or_default, same_lists, length-map}
use Rattle.std.proofs.lemmas.Grind.{common_steps}
use Rattle.rv_code.specs.declared.placed.Block.{Block}
use Rattle.rv_code.specs.declared.layout.Chains.{Chains}
use Rattle.rv_code.specs.layout.BlockOrders.{list_of}
use Rattle.rb_bytes.proofs.Members.{Contains-cons_cases, Contains-there}
use Rattle.edge_profile.specs.Weights.{is_hot_function}
use Rattle.block_layout.specs.EdgeCounts.{edge_count}
use Rattle.block_layout.specs.Links.{Links, IsChain}
use Rattle.block_layout.specs.Parts.{IsOf, IsFirstBlock, Chain, greatest, IsChainBefore, IsHotPart, AreParts, weight_at}
use Rattle.block_layout.specs.Laws.{PartsLaw, items_of}
use Rattle.block_layout.proofs.ChainLists.{same_chain}
use Rattle.block_layout.proofs.UniqueLinks.{one_answer}

-- Two lists with the same members in the same asymmetric order.
module _ {X : Type 0} (R : X → X → Type 0) (one_way : (x y : X) → R x y → R y x → ⊥) where
  abbrev HasAllOf : List X → List X → Type 0
  HasAllOf ys xs = (z : X) → Contains xs z → Contains ys z

  tail_ordered : (x : X) (xs : List X) → AllPairs R (x ∷ xs) → AllPairs R xs
  tail_ordered x xs up = λ i j d less within. up (suc i) (suc j) d (omega (arith, less)) (omega (arith, within))

  head_before : (x : X) (xs : List X) → AllPairs R (x ∷ xs) → (y : X) → Contains xs y → R x y
  head_before x xs up y (k, within, is) = subst (R x) is (up zero (suc k) y (omega arith) (omega (arith, within)))

  in_tail : (x : X) (xs ys : List X) → AllPairs R (x ∷ xs) → HasAllOf (x ∷ ys) (x ∷ xs) → HasAllOf ys xs
  in_tail x xs ys up all z z_in = ⊎_elim
      (λ (first : x ≡ z).
      let own : R x x = subst (R x) (sym first) (head_before x xs up z z_in) in
      absurd (one_way x x own own))
      (λ (later : Contains ys z). later)
      (Contains-cons_cases x ys z (all z (Contains-there x xs z z_in)))

  same_heads : (x y : X) (xs ys : List X) → AllPairs R (x ∷ xs) → AllPairs R (y ∷ ys) → (y ≡ x) ⊎ Contains ys x →
      (x ≡ y) ⊎ Contains xs y → x ≡ y
  same_heads x y xs ys up up' (inl first) other = sym first
  same_heads x y xs ys up up' (inr later) (inl first) = first
  same_heads x y xs ys up up' (inr later) (inr later') =
      absurd (one_way x y (head_before x xs up y later') (head_before y ys up' x later))

  same_list : (xs ys : List X) → AllPairs R xs → AllPairs R ys → HasAllOf ys xs → HasAllOf xs ys → xs ≡ ys
  same_list [] [] up up' all all' = refl
  same_list [] (y ∷ ys) up up' all all' = let (k, within, is) = all' y (zero, omega arith, refl) in absurd (omega (arith, within))
  same_list (x ∷ xs) [] up up' all all' = let (k, within, is) = all x (zero, omega arith, refl) in absurd (omega (arith, within))
  same_list (x ∷ xs) (y ∷ ys) up up' all all' =
      let heads : x ≡ y = same_heads x y xs ys up up'
      (Contains-cons_cases y ys x (all x (zero, omega arith, refl)))
      (Contains-cons_cases x xs y (all' y (zero, omega arith, refl))) in
      let rest : HasAllOf ys xs = in_tail x xs ys up (subst (λ z. HasAllOf (z ∷ ys) (x ∷ xs)) (sym heads) all) in
      let rest' : HasAllOf xs ys = in_tail y ys xs up' (subst (λ z. HasAllOf (z ∷ xs) (y ∷ ys)) heads all') in
      ap (λ z. z ∷ xs) heads ∙ ap (λ zs. y ∷ zs) (same_list xs ys (tail_ordered x xs up) (tail_ordered y ys up') rest rest')

-- The first block of a function.
none_before : (blocks : List Block) (f k n : ℕ) (o : Option Block) → k < n → IsOf blocks f k → IsSomeAnd o (λ b. b.func ≡ f) →
    IsSomeAnd o (λ b. (j : ℕ) → j < n → IsOf blocks b.func j → ⊥) → ⊥
none_before blocks f k n None less of is first = is
none_before blocks f k n (Some b) less of is first = first k less (subst (λ g. IsOf blocks g k) (sym is) of)

one_first : (blocks : List Block) (f k n : ℕ) → IsOf blocks f k → IsFirstBlock blocks k → IsOf blocks f n →
    IsFirstBlock blocks n → k ≡ n
one_first blocks f k n of first of' first' = grind (arith, common_steps, ⊎_elim, none_before, cases_lt)

-- Hot chains.
one_way_at : (a b m n : ℕ) → (b < a) ⊎ ((a ≡ b) × (m < n)) → (a < b) ⊎ ((b ≡ a) × (n < m)) → ⊥
one_way_at a b m n (inl more) (inl less) = omega arith
one_way_at a b m n (inl more) (inr (same, less)) = omega arith
one_way_at a b m n (inr (same, less)) (inl less') = omega arith
one_way_at a b m n (inr (same, less)) (inr (same', less')) = omega arith

chain_one_way : (weight : ℕ → ℕ) (c d : Chain) → IsChainBefore weight c d → IsChainBefore weight d c → ⊥
chain_one_way weight c d = one_way_at (greatest weight c.1) (greatest weight d.1) c.0 d.0

same_hot_part : (blocks : List Block) (weight : ℕ → ℕ) (links : Links) (f : ℕ) (a b : List ℕ) →
    IsHotPart blocks weight links f a → IsHotPart blocks weight links f b → a ≡ b
same_hot_part blocks weight links f a b one other =
    let begin : one.first.0 ≡ other.first.0 =
    one_first blocks f _ _ one.first_of one.first_block other.first_of other.first_block in
    let first : one.first.1 ≡ other.first.1 =
    same_chain (subst (λ h. IsChain links h one.first.1) begin one.first_is) other.first_is in
    let others : one.others ≡ other.others = same_list (IsChainBefore weight) (chain_one_way weight) one.others other.others
    one.others_are.ordered other.others_are.ordered
    (λ c c_in. other.others_are.each c (one.others_are.only c c_in))
    (λ c c_in. one.others_are.each c (other.others_are.only c c_in)) in
    one.part_is
    ∙ ap (λ c. c ++ flat_map (λ c. c.1) one.others) first
    ∙ ap (λ cs. other.first.1 ++ flat_map (λ c. c.1) cs) others
    ∙ sym other.part_is

-- The parts of all functions.
same_items : (count : ℕ) (one other : List (Vec ℕ Global)) → length one ≡ count → length other ≡ count →
    ((f : ℕ) → f < count → list_of one f ≡ list_of other f) → items_of one ≡ items_of other
same_items count one other one_long other_long same =
    let long : length (items_of one) ≡ count = length-map one (λ list. list.items) ∙ one_long in
    let long' : length (items_of other) ≡ count = length-map other (λ list. list.items) ∙ other_long in
    same_lists (items_of one) (items_of other) (long ∙ sym long') (λ k d within.
    get_or_default (items_of one) k d [] within
    ∙ same k (omega arith)
    ∙ get_or_default (items_of other) k [] d (omega arith))

module _ (hot_functions : ℕ → Bool) (count : ℕ) (blocks : List Block) (weight : ℕ → ℕ) (links : Links) (p q : Chains)
    (are : AreParts hot_functions count blocks weight links p) (are' : AreParts hot_functions count blocks weight links q) where
  same_hot : (f : ℕ) → f < count → list_of p.hot.items f ≡ list_of q.hot.items f
  same_hot f within = by (hot_functions f) refl
    where
      by : (hot : Bool) → hot_functions f ≡ hot → list_of p.hot.items f ≡ list_of q.hot.items f
      by true is = same_hot_part blocks weight links f _ _ (are.hot f within is) (are'.hot f within is)
      by false is = are.not_hot f within is ∙ sym (are'.not_hot f within is)

  same_cold : (f : ℕ) → f < count → list_of p.cold.items f ≡ list_of q.cold.items f
  same_cold f within =
      let one = are.cold f within in
      let other = are'.cold f within in
      let hot = same_hot f within in
      same_list (λ a b. a < b) (λ a b less more. omega (arith, less, more)) (list_of p.cold.items f) (list_of q.cold.items f)
      one.ordered other.ordered
      (λ k k_in. other.each k ((one.only k k_in).0, λ in_hot. (one.only k k_in).1 (subst (λ xs. Contains xs k) (sym hot) in_hot)))
      (λ k k_in. one.each k ((other.only k k_in).0, λ in_hot. (other.only k k_in).1 (subst (λ xs. Contains xs k) hot in_hot)))

  same_parts : (items_of p.hot.items ≡ items_of q.hot.items) × (items_of p.cold.items ≡ items_of q.cold.items)
  same_parts = (
    same_items count p.hot.items q.hot.items are.hot_count are'.hot_count same_hot,
    same_items count p.cold.items q.cold.items are.cold_count are'.cold_count same_cold,
  )

pub parts_law : PartsLaw
parts_law counts pairs funcs blocks edges p q are are' =
    let links : are.links ≡ are'.links =
    one_answer edges (edge_count counts funcs blocks) (IsFirstBlock blocks) are.links are'.links are.links_are are'.links_are in
    same_parts (is_hot_function pairs funcs blocks) (length funcs) blocks (weight_at pairs funcs blocks) are'.links p q
    (subst
    (λ l. AreParts (is_hot_function pairs funcs blocks) (length funcs) blocks (weight_at pairs funcs blocks) l p)
    links are.parts_are)
    are'.parts_are
