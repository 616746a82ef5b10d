-- The result of an instruction on two operands, and whether a branch is taken.
use Rattle.std.specs.Prelude.{ℕ, Bool, true, false, not}
use Rattle.rv_code.specs.declared.action.Action.{Action}
use Rattle.rv_code.specs.declared.action.Action.TheVariants.{Compute, Branch}
use Rattle.rv_code.specs.isa.Op.{apply, holds}

-- The result of an operation, and 0 for other actions.
abbrev pub operation_value : Action → ℕ → ℕ → ℕ
operation_value (Compute op rd left right) a b = apply op a b
operation_value _ a b = 0

-- Whether a conditional branch is taken, and false for other actions.
abbrev pub is_taken : Action → ℕ → ℕ → Bool
is_taken (Branch test true rs1 rs2 imm) a b = holds test a b
is_taken (Branch test false rs1 rs2 imm) a b = not (holds test a b)
is_taken _ a b = false
