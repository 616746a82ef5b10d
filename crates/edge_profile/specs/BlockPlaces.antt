-- Blocks that don't overlap, and which of them contains an instruction.
use Rattle.std.specs.Prelude.{◌≡◌, ◌⊎◌, ◌<◌, ◌≤◌, ◌+◌, ◌==◌, ◌&&◌, ◌||◌, ℕ, Bool, false, List, Option, Some, None, All}
use Rattle.std.specs.Prelude.{AllPairs, length, nat_lt, nat_le, slice_index, slice_index_or, slice_set}
use Rattle.rv_code.specs.declared.placed.Func.{Func}
use Rattle.rv_code.specs.declared.placed.Block.{Block}
use Rattle.edge_profile.specs.Weights.{insts_of_block, starts_at}

-- a block ends before another begins
abbrev pub IsApart : Block → Block → Type 0
IsApart b c = (b.func < c.func) ⊎ ((b.func ≡ c.func) × (b.last < c.first))

-- blocks in order, which don't overlap
pub record AreBlocksApart (blocks : List Block) : Type 0 where
  pub some : All (λ b. b.first ≤ b.last) blocks
  pub ordered : AllPairs IsApart blocks

-- a block begins at or before the instruction with index i of the function with index f
abbrev pub begins_by : ℕ → ℕ → Block → Bool
begins_by f i b = nat_lt b.func f || (b.func == f && nat_le b.first i)

-- a block of the function with index f ends at or after its instruction with index i
abbrev pub ends_from : ℕ → ℕ → Block → Bool
ends_from f i b = b.func == f && nat_le i b.last

-- a block contains the instruction with index i of the function with index f
abbrev pub has_inst : ℕ → ℕ → Block → Bool
has_inst f i b = b.func == f && nat_le b.first i && nat_le i b.last

-- the option holds the index k
abbrev pub is_place : ℕ → Option ℕ → Bool
is_place k None = false
is_place k (Some j) = k == j

-- the block at this index contains the instruction at address a, and no other block does; None if no block does
pub record IsHolder (funcs : List Func) (blocks : List Block) (a : ℕ) (place : Option ℕ) : Type 0 where
  pub has : (k : ℕ) (d : Block) → k < length blocks →
      starts_at (insts_of_block funcs (slice_index_or blocks k d)) a ≡ is_place k place

-- numbers, the one at an index raised by n
abbrev pub raised_at : List ℕ → Option ℕ → ℕ → List ℕ
raised_at numbers None n = numbers
raised_at numbers (Some k) n = slice_set numbers k (slice_index numbers k + n)
