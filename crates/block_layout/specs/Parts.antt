-- The hot and the cold part of each function, from chains of blocks and their weights.
use Rattle.std.specs.Prelude.{◌≡◌, ◌⊎◌, ◌<◌, ℕ, Bool, true, false, List, [], ◌++◌, Contains, IsSomeAnd, flat_map, fold}
use Rattle.std.specs.Prelude.{length, max, slice_get}
use Rattle.std.specs.Option.{option_map_or}
use Rattle.rv_code.specs.declared.placed.Func.{Func}
use Rattle.rv_code.specs.declared.placed.Block.{Block}
use Rattle.rv_code.specs.declared.layout.Chains.{Chains}
use Rattle.rv_code.specs.layout.BlockOrders.{hot_of, cold_of}
use Rattle.rv_code.specs.layout.Lists.{ListsAll, ListsNumbers}
use Rattle.edge_profile.specs.PairCounts.{Counted}
use Rattle.edge_profile.specs.Weights.{block_weight, is_hot_function}
use Rattle.block_layout.specs.EdgeCounts.{edge_count}
use Rattle.block_layout.specs.Links.{Links, IsChain, AreLinks}

-- the block with index k is in the function with index f
abbrev pub IsOf : List Block → ℕ → ℕ → Type 0
IsOf blocks f k = IsSomeAnd (slice_get blocks k) (λ b. b.func ≡ f)

-- a block is the first of its function: no earlier block is in this function
abbrev pub IsFirstBlock : List Block → ℕ → Type 0
IsFirstBlock blocks k = IsSomeAnd (slice_get blocks k) (λ b. (j : ℕ) → j < k → IsOf blocks b.func j → ⊥)

-- the greatest weight of blocks
abbrev pub greatest : (ℕ → ℕ) → List ℕ → ℕ
greatest weight chain = fold (λ most k. max most (weight k)) 0 chain

-- a chain: its first block, and all of its blocks
abbrev pub Chain : Type 0
Chain = ℕ × List ℕ

-- a chain comes before another: by greater greatest weight, and then by lower address
abbrev pub IsChainBefore : (ℕ → ℕ) → Chain → Chain → Type 0
IsChainBefore weight c d =
    (greatest weight d.1 < greatest weight c.1) ⊎ ((greatest weight c.1 ≡ greatest weight d.1) × (c.0 < d.0))

-- a chain of a function that doesn't begin with the function's first block, and has a hot block
pub record IsHotChain (blocks : List Block) (weight : ℕ → ℕ) (links : Links) (f : ℕ) (c : Chain) : Type 0 where
  pub chain : IsChain links c.0 c.1
  pub of : IsOf blocks f c.0
  pub not_first : IsFirstBlock blocks c.0 → ⊥
  pub hot : 0 < greatest weight c.1

-- The hot part of a hot function: the chain of its first block, and then its other chains with a hot block.
pub record IsHotPart (blocks : List Block) (weight : ℕ → ℕ) (links : Links) (f : ℕ) (part : List ℕ) : Type 0 where
  pub first : Chain
  pub others : List Chain
  pub part_is : part ≡ first.1 ++ flat_map (λ c. c.1) others
  pub first_is : IsChain links first.0 first.1
  pub first_of : IsOf blocks f first.0
  pub first_block : IsFirstBlock blocks first.0
  pub others_are : ListsAll (IsHotChain blocks weight links f) (IsChainBefore weight) others

-- The parts of each function. A function that isn't hot has no hot part. The cold part has all other blocks, in order
-- of their addresses.
pub record AreParts (hot_functions : ℕ → Bool) (count : ℕ) (blocks : List Block) (weight : ℕ → ℕ) (links : Links)
    (parts : Chains) : Type 0 where
  pub hot_count : length parts.hot.items ≡ count
  pub cold_count : length parts.cold.items ≡ count
  pub hot : (f : ℕ) → f < count → hot_functions f ≡ true → IsHotPart blocks weight links f (hot_of parts f)
  pub not_hot : (f : ℕ) → f < count → hot_functions f ≡ false → hot_of parts f ≡ []
  pub cold : (f : ℕ) → f < count →
      ListsNumbers (λ k. IsOf blocks f k × (Contains (hot_of parts f) k → ⊥)) (cold_of parts f)

-- the weight of the block with index k
abbrev pub weight_at : List Counted → List Func → List Block → ℕ → ℕ
weight_at pairs funcs blocks k = option_map_or (block_weight pairs funcs) (slice_get blocks k) 0

-- The hot and cold parts of the functions, by the counts of a profile's pairs.
pub record AreChains (counts : ℕ → ℕ → ℕ) (pairs : List Counted) (funcs : List Func) (blocks : List Block)
    (edges : List (ℕ × ℕ))
    (parts : Chains) : Type 0 where
  pub links : Links
  pub links_are : AreLinks edges (edge_count counts funcs blocks) (IsFirstBlock blocks) links
  pub parts_are : AreParts (is_hot_function pairs funcs blocks) (length funcs) blocks
      (weight_at pairs funcs blocks) links parts
