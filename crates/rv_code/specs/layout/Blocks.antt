-- Basic blocks: their starts, and the list of all blocks.
use Rattle.std.specs.Prelude.{◌≡◌, ◌⊎◌, ℕ, ◌+◌, ◌<◌, ◌≤◌, false, List, Option, IsTrue, IsSomeAnd, length, slice_get}
use Rattle.std.specs.Option.{option_map_or}
use Rattle.rv_code.specs.declared.placed.Placed.{Placed}
use Rattle.rv_code.specs.declared.placed.Func.{Func}
use Rattle.rv_code.specs.declared.placed.Block.{Block}
use Rattle.rv_code.specs.layout.ProgramCode.{ProgramCode, IsHeld, IsTarget}
use Rattle.rv_code.specs.layout.Flow.{action_at, is_plain_jump, is_branch}
use Rattle.rv_code.specs.layout.Lists.{ListsAll}

-- The i-th instruction of a function.
abbrev pub inst_at : Func → ℕ → Option Placed
inst_at func i = slice_get func.insts.items i

-- The function of a block.
abbrev pub func_of : List Func → Block → Option Func
func_of funcs b = slice_get funcs b.func

-- The address of the i-th instruction of a block's function.
abbrev pub inst_address : List Func → Block → ℕ → ℕ
inst_address funcs b i = option_map_or (λ func. option_map_or (λ p. p.addr) (inst_at func i) 0) (func_of funcs b) 0

-- The address of the first instruction of a block.
abbrev pub block_start : List Func → Block → ℕ
block_start funcs b = inst_address funcs b b.first

-- The instruction ends a block: it is a conditional branch, or a jump that isn't a call.
abbrev pub EndsBlock : Placed → Type 0
EndsBlock p = IsTrue (is_branch (action_at p)) ⊎ IsTrue (is_plain_jump (action_at p))

-- A block begins at the i-th instruction of a function: at the first one and, unless the function is whole, at each
-- target of a branch or jump, at each address that a role, a cell or the entry point has, and after each instruction
-- that ends a block.
pub data Begins (code : ProgramCode) (func : Func) (i : ℕ) : Type 0 where
  at_start : i ≡ 0 → Begins code func i
  named : func.whole ≡ false → IsSomeAnd (inst_at func i) (λ p. IsTarget code.funcs p.addr ⊎ IsHeld code p.addr) →
      Begins code func i
  after_end : func.whole ≡ false → (j : ℕ) → i ≡ j + 1 → IsSomeAnd (inst_at func j) EndsBlock → Begins code func i

-- A block has the instructions from one beginning to before the next, or to the end of its function.
pub record IsBlockOf (code : ProgramCode) (func : Func) (first last : ℕ) : Type 0 where
  pub begins : Begins code func first
  pub some : first ≤ last
  pub inside : last < length func.insts.items
  pub no_other : (i : ℕ) → first < i → i ≤ last → Begins code func i → ⊥
  pub ends : (last + 1 ≡ length func.insts.items) ⊎ Begins code func (last + 1)

abbrev pub IsBlock : ProgramCode → Block → Type 0
IsBlock code b = IsSomeAnd (func_of code.funcs b) (λ func. IsBlockOf code func b.first b.last)

-- The order of blocks: by function, and then by index in the function.
abbrev pub IsBefore : Block → Block → Type 0
IsBefore b c = (b.func < c.func) ⊎ ((b.func ≡ c.func) × (b.first < c.first))

-- The list of all blocks, in order.
abbrev pub AreBlocks : ProgramCode → List Block → Type 0
AreBlocks code blocks = ListsAll (IsBlock code) IsBefore blocks
