-- The parts of one function.
use Rattle.std.specs.Prelude.{◌≡◌, ◌⊎◌, ◌<◌, ◌≤◌, ℕ, List, [], ◌++◌, Contains, IsPermutation, length}
use Rattle.rv_code.specs.declared.placed.Block.{Block}
use Rattle.rv_code.specs.declared.layout.Chains.{Chains}
use Rattle.rv_code.specs.layout.Lists.{ListsNumbers}
use Rattle.rv_code.specs.layout.BlockOrders.{blocks_of_function, hot_of, cold_of}
use Rattle.block_layout.specs.Links.{Links}
use Rattle.block_layout.specs.Parts.{IsOf, IsHotPart}
use Rattle.block_layout.specs.Walks.{IsHotList}

-- the hot part of the blocks from `start` to before `end`: empty, unless one of them has a positive weight
pub record IsHotOrEmpty (p : Links) (weight : ℕ → ℕ) (start end : ℕ) (part : List ℕ) : Type 0 where
  pub hot : (k : ℕ) → start ≤ k → k < end → 0 < weight k → IsHotList p weight start end part
  pub none : ((k : ℕ) → start ≤ k → k < end → weight k ≡ 0) → part ≡ []
  pub either : IsHotList p weight start end part ⊎ (part ≡ [])

-- the hot and the cold part of the function with index f
pub record AreSplit (blocks : List Block) (weight : ℕ → ℕ) (p : Links) (f : ℕ) (hot cold : List ℕ) : Type 0 where
  pub hot_part : (k : ℕ) → IsOf blocks f k → 0 < weight k → IsHotPart blocks weight p f hot
  pub no_part : ((k : ℕ) → IsOf blocks f k → weight k ≡ 0) → hot ≡ []
  pub cold_part : ListsNumbers (λ k. IsOf blocks f k × (Contains hot k → ⊥)) cold
  pub all : IsPermutation (blocks_of_function blocks f) (hot ++ cold)

-- the parts of the first `count` functions
pub record AreSplitTo (blocks : List Block) (weight : ℕ → ℕ) (p : Links) (count : ℕ) (parts : Chains) : Type 0 where
  pub hot_count : length parts.hot.items ≡ count
  pub cold_count : length parts.cold.items ≡ count
  pub each : (f : ℕ) → f < count → AreSplit blocks weight p f (hot_of parts f) (cold_of parts f)

-- the blocks before the index `start` are of functions before f, and the others are of f or later functions
pub record IsFirstOf (blocks : List Block) (f start : ℕ) : Type 0 where
  pub within : start ≤ length blocks
  pub below : (k g : ℕ) → k < start → IsOf blocks g k → g < f
  pub above : (k g : ℕ) → start ≤ k → IsOf blocks g k → f ≤ g
