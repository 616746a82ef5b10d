-- How often blocks ran, by the counts of a profile's pairs.
use Rattle.std.specs.Prelude.{ℕ, ◌+◌, ◌-◌, ◌==◌, ◌&&◌, ◌||◌, Bool, List, [], nat_lt, if◌then◌else◌, sum_by, take, drop}
use Rattle.std.specs.List.{list_any}
use Rattle.std.specs.Option.{option_map_or}
use Rattle.rv_code.specs.declared.placed.Placed.{Placed}
use Rattle.rv_code.specs.declared.placed.Func.{Func}
use Rattle.rv_code.specs.declared.placed.Block.{Block}
use Rattle.rv_code.specs.layout.Blocks.{func_of}
use Rattle.edge_profile.specs.PairCounts.{Counted}

-- the instructions of a block
abbrev pub insts_of_block : List Func → Block → List Placed
insts_of_block funcs b =
    option_map_or (λ func. take (b.last + 1 - b.first) (drop b.first func.insts.items)) (func_of funcs b) []

-- one of these instructions starts at an address
abbrev pub starts_at : List Placed → ℕ → Bool
starts_at insts a = list_any (λ p. p.addr == a) insts

-- an end of a pair is at one of these instructions
abbrev pub touches : List Placed → Counted → Bool
touches insts p = starts_at insts p.0 || starts_at insts p.1

-- the sum of the counts of all pairs with an end at one of these instructions; each pair is counted once
abbrev pub weight : List Counted → List Placed → ℕ
weight pairs insts = sum_by (λ p. if touches insts p then p.2 else 0) pairs

abbrev pub block_weight : List Counted → List Func → Block → ℕ
block_weight pairs funcs b = weight pairs (insts_of_block funcs b)

-- a block with a positive weight
abbrev pub is_hot_block : List Counted → List Func → Block → Bool
is_hot_block pairs funcs b = nat_lt 0 (block_weight pairs funcs b)

-- a function with a hot block
abbrev pub is_hot_function : List Counted → List Func → List Block → ℕ → Bool
is_hot_function pairs funcs blocks f = list_any (λ b. b.func == f && is_hot_block pairs funcs b) blocks
