-- Control flow of instructions: calls, jumps, targets, and fall-through. ISA manual, section 2.5.
use Rattle.std.specs.Prelude.{ℕ, ◌+◌, ◌==◌, ◌&&◌, ◌||◌, if◌then◌else◌, Bool, true, false, not, Option, Some, None, List}
use Rattle.std.specs.Prelude.{length, flat_map, find, [], ◌∷◌}
use Rattle.std.specs.Option.{option_or}
use Rattle.rv_code.specs.declared.action.Action.{Action}
use Rattle.rv_code.specs.declared.action.Action.TheVariants.{Branch, Jump, JumpTo}
use Rattle.rv_code.specs.declared.placed.Placed.{Placed}
use Rattle.rv_code.specs.declared.placed.Func.{Func}
use Rattle.rv_code.specs.isa.Action.{action_of}
use Rattle.rv_code.specs.machine.Machine.{plus}
use Rattle.rv_code.specs.isa.TwosComplement.{unsigned64}

-- A call: a jump that writes a register other than x0, and so saves a return address.
abbrev pub is_call : Action → Bool
is_call (Jump rd imm) = not (rd == 0)
is_call (JumpTo rd rs1 imm) = not (rd == 0)
is_call _ = false

-- A jump that saves no return address.
abbrev pub is_plain_jump : Action → Bool
is_plain_jump (Jump rd imm) = rd == 0
is_plain_jump (JumpTo rd rs1 imm) = rd == 0
is_plain_jump _ = false

abbrev pub is_branch : Action → Bool
is_branch (Branch test wanted rs1 rs2 imm) = true
is_branch _ = false

-- The target of a JAL or of a taken conditional branch at an address. Other instructions have none.
abbrev pub target : ℕ → Action → Option ℕ
target a (Branch test wanted rs1 rs2 imm) = Some (plus a (unsigned64 imm))
target a (Jump rd imm) = Some (plus a (unsigned64 imm))
target a _ = None

-- An instruction falls through to the next one unless it is a jump that saves no return address, or is a call and the
-- last instruction of its function: such a call is assumed not to return.
abbrev pub falls : Action → Bool → Bool
falls action is_last = not (is_plain_jump action || (is_call action && is_last))

-- Control flow of placed instructions.

abbrev pub action_at : Placed → Action
action_at p = action_of p.inst

abbrev pub target_of : Placed → Option ℕ
target_of p = target p.addr (action_at p)

-- A conditional branch, or a two-byte jump (C.J), reaches less far than a JAL.
abbrev pub is_short : Placed → Bool
is_short p = is_branch (action_at p) || (p.len == 2)

-- The i-th instruction of a function falls through.
abbrev pub falls_at : Func → ℕ → Placed → Bool
falls_at func i p = falls (action_at p) (i + 1 == length func.insts.items)

-- The address to which the i-th instruction of a function falls through, if it does.
abbrev pub fall_target : Func → ℕ → Placed → Option ℕ
fall_target func i p = if falls_at func i p then Some (p.addr + p.len) else None

-- The instructions of all functions, in order.
abbrev pub insts_of : List Func → List Placed
insts_of funcs = flat_map (λ f. f.insts.items) funcs

-- The instruction of a function that starts at address `a`.
abbrev pub placed_at : List Func → ℕ → Option Placed
placed_at funcs a = find (λ p. p.addr == a) (insts_of funcs)

-- The address of the instruction after the one at `a` in a list.
abbrev pub next_in : List Placed → ℕ → Option ℕ
next_in [] a = None
next_in (p ∷ []) a = None
next_in (p ∷ q ∷ ps) a = if p.addr == a then Some q.addr else next_in (q ∷ ps) a

-- The address of the instruction after the one at `a` in its function.
abbrev pub next_of : List Func → ℕ → Option ℕ
next_of [] a = None
next_of (f ∷ fs) a = option_or (next_in f.insts.items a) (next_of fs a)
