-- Worst sizes: the most bytes that code can take, wherever it is put.
use Rattle.std.specs.Prelude.{ℕ, ◌+◌, ◌-◌, if◌then◌else◌, List, length, sum_by, take, drop, slice_get}
use Rattle.std.specs.Option.{option_map_or}
use Rattle.rv_code.specs.declared.action.Action.{Action}
use Rattle.rv_code.specs.declared.action.Action.TheVariants.{Branch, Jump}
use Rattle.rv_code.specs.declared.placed.Placed.{Placed}
use Rattle.rv_code.specs.declared.placed.Func.{Func}
use Rattle.rv_code.specs.declared.placed.Block.{Block}
use Rattle.rv_code.specs.layout.Blocks.{inst_at, func_of}
use Rattle.rv_code.specs.layout.Flow.{action_at, falls_at}

-- A conditional branch can become a branch over a JAL, and a compressed jump (C.J) a JAL. ISA manual, chapter on C,
-- "Control Transfer Instructions".
abbrev pub worst_length : Placed → ℕ
worst_length p = longest (action_at p)
  where
    longest : Action → ℕ
    longest (Branch test wanted rs1 rs2 imm) = 8
    longest (Jump rd imm) = 4
    longest _ = p.len

-- The bytes added after a part that ends with the i-th instruction of its function: a JAL, if it falls through.
abbrev pub added_jump : Func → ℕ → ℕ
added_jump func i = option_map_or (λ p. if falls_at func i p then 4 else 0) (inst_at func i) 0

-- The worst size of a block of a function that isn't whole, from instruction `first` to `last`.
abbrev pub worst_block_size : Func → ℕ → ℕ → ℕ
worst_block_size func first last =
    sum_by worst_length (take (last + 1 - first) (drop first func.insts.items)) + added_jump func last

-- A whole function keeps its length, and gets a JAL if its last instruction falls through.
abbrev pub worst_whole_size : Func → ℕ
worst_whole_size func = func.end - func.start + added_jump func (length func.insts.items - 1)

abbrev pub worst_size_of_block : List Func → Block → ℕ
worst_size_of_block funcs b =
    option_map_or (λ func. if func.whole then worst_whole_size func else worst_block_size func b.first b.last)
    (func_of funcs b) 0

-- The worst size of the block with index `k` in `blocks`.
abbrev pub worst_at : List Func → List Block → ℕ → ℕ
worst_at funcs blocks k = option_map_or (worst_size_of_block funcs) (slice_get blocks k) 0

-- A JAL reaches 2^20 bytes in both directions, so it reaches everything in code of at most this worst size.
abbrev pub near_limit : ℕ
near_limit = 1000000
