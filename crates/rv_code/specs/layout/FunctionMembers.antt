-- Members of functions: addresses, instructions, and the instructions of blocks.
use Rattle.std.specs.Prelude.{◌≡◌, ℕ, ◌<◌, ◌≤◌, ◌&&◌, nat_lt, nat_le, Bool, IsSomeAnd, List, Option, length, position}
use Rattle.std.specs.Prelude.{slice_index_or}
use Rattle.rv_code.specs.declared.placed.Func.{Func}
use Rattle.rv_code.specs.declared.placed.Placed.{Placed}
use Rattle.rv_code.specs.declared.placed.Block.{Block}
use Rattle.rv_code.specs.layout.Blocks.{func_of}

-- The address is in the function.
abbrev pub func_holds : ℕ → Func → Bool
func_holds a func = nat_le func.start a && nat_lt a func.end

-- The index of the function that contains the address.
abbrev pub function_at : List Func → ℕ → Option ℕ
function_at funcs a = position (func_holds a) funcs

-- The i-th instruction of the f-th function starts at address `a`.
pub record IsInstPlace (funcs : List Func) (a f i : ℕ) : Type 0 where
  pub func_within : f < length funcs
  pub inst_within : (d : Func) → i < length (slice_index_or funcs f d).insts.items
  pub starts : (d : Func) (e : Placed) → (slice_index_or (slice_index_or funcs f d).insts.items i e).addr ≡ a

-- The block is a range of its function's instructions.
abbrev pub IsOfFunction : List Func → Block → Type 0
IsOfFunction funcs b = IsSomeAnd (func_of funcs b) (λ func. (b.first ≤ b.last) × (b.last < length func.insts.items))
