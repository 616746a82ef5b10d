-- Orders of blocks, which contain all blocks. A block is given by its index in a list of blocks.
use Rattle.std.specs.Prelude.{ℕ, ◌<◌, ◌==◌, List, [], ◌++◌, Vec, length, map, filter, slice_get, slice_index_or}
use Rattle.std.specs.List.{range_with_len}
use Rattle.std.specs.List.Sorted.{IsPermutation}
use Rattle.std.specs.Option.{option_map_or}
use Rattle.std.specs.declared.alloc.Global.{Global}
use Rattle.rv_code.specs.declared.placed.Func.{Func}
use Rattle.rv_code.specs.declared.placed.Block.{Block}
use Rattle.rv_code.specs.declared.layout.Chains.{Chains}

abbrev pub func_of_block : List Block → ℕ → ℕ
func_of_block blocks k = option_map_or (λ b. b.func) (slice_get blocks k) 0

-- The indices of a function's blocks, ascending.
abbrev pub blocks_of_function : List Block → ℕ → List ℕ
blocks_of_function blocks f = filter (λ k. func_of_block blocks k == f) (range_with_len 0 (length blocks))

-- The list with index `f` in a list of lists.
abbrev pub list_of : List (Vec ℕ Global) → ℕ → List ℕ
list_of lists f = slice_index_or (map (λ list. list.items) lists) f []

-- The blocks of a function's hot part, and of its cold part.
abbrev pub hot_of : Chains → ℕ → List ℕ
hot_of chains f = list_of chains.hot.items f

abbrev pub cold_of : Chains → ℕ → List ℕ
cold_of chains f = list_of chains.cold.items f

-- The hot and the cold part of each function together contain each of its blocks once.
abbrev pub HaveAllBlocks : List Func → List Block → Chains → Type 0
HaveAllBlocks funcs blocks chains =
    (f : ℕ) → f < length funcs → IsPermutation (blocks_of_function blocks f) (hot_of chains f ++ cold_of chains f)

-- The order contains each block once.
abbrev pub HasAllBlocks : List Block → List ℕ → Type 0
HasAllBlocks blocks order = IsPermutation (range_with_len 0 (length blocks)) order
