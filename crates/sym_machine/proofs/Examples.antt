-- Examples of the rules: each equation holds by computation.
use Rattle.std.specs.Prelude.{◌≡◌, ℕ, [], ◌∷◌, Some, None, true, false, refl, pos, negsuc}
use Rattle.rv_code.specs.declared.op.Op.TheVariants as op
use Rattle.rv_code.specs.declared.action.Extension.TheVariants.{Signed16, Signed32, Zero32}
use Rattle.rv_code.specs.declared.action.Test.TheVariants.{Equal, LessSigned}
use Rattle.rv_code.specs.declared.action.Operand.TheVariants.{Register, Immediate}
use Rattle.rv_code.specs.declared.action.Action.{Action}
use Rattle.rv_code.specs.declared.action.Action.TheVariants.{Compute, Branch, JumpTo, Load, Store, SystemCall, Breakpoint}
use Rattle.rv_code.specs.declared.placed.Role.{Role}
use Rattle.rv_code.specs.declared.placed.Role.TheVariants as role
use Rattle.rv_code.specs.machine.Machine.{Halts, all_may}
use Rattle.sym_machine.specs.declared.outcome.Reason.TheVariants as reason
use Rattle.sym_machine.specs.declared.value.Pointer.TheVariants.{Code, Ret}
use Rattle.sym_machine.specs.declared.value.Comparing.TheVariants.{Sub}
use Rattle.sym_machine.specs.declared.value.CodeSymbol.TheVariants.{Points, Hi, Abs, Diff, Apart}
use Rattle.sym_machine.specs.declared.value.Signedness.TheVariants.{Signed, Unsigned}
use Rattle.sym_machine.specs.declared.value.Value.{Value}
use Rattle.sym_machine.specs.declared.value.Value.TheVariants.{Num, Sym, Piece}
use Rattle.sym_machine.specs.declared.value.MemoryByte.TheVariants.{Byte, SymbolByte}
use Rattle.sym_machine.specs.Values.{symbol_bytes, stored}
use Rattle.sym_machine.specs.SymStep.{SymState, SymOutcome, effect, sym_step}
use Rattle.sym_machine.specs.Rules.{loaded, combined, on_registers, on_constant, tested, place, pointer}

-- a pointer to an instruction, in a file without functions
abbrev code : ℕ → Value
code a = Sym (Points (Code a))

-- every register holds this value
abbrev all_hold : Value → ℕ → Value
all_hold v r = v

-- Copies, masks and comparisons.

copied_by_addi : combined [] (all_hold (code 0x10078)) op.Add (Register 1) (Immediate (pos 0)) ≡ Some (code 0x10078)
copied_by_addi = refl

moved_on_by_addi : combined [] (all_hold (code 0x10078)) op.Add (Register 1) (Immediate (pos 4)) ≡ None
moved_on_by_addi = refl

low_bit : on_constant op.And (code 0x10078) 1 ≡ Some (Num 0)
low_bit = refl

all_but_low_bit : combined [] (all_hold (code 0x10078)) op.And (Register 1) (Immediate (negsuc 1)) ≡ Some (code 0x10078)
all_but_low_bit = refl

is_zero : on_constant op.Sltu (code 0x10078) 1 ≡ Some (Num 0)
is_zero = refl

is_above_zero : combined [] (all_hold (code 0x10078)) op.Sltu (Register 0) (Register 1) ≡ Some (Num 1)
is_above_zero = refl

equal_pointers : on_registers [] op.Sub (code 0x10078) (code 0x10078) ≡ Some (Num 0)
equal_pointers = refl

different_pointers : on_registers [] op.Sub (code 0x10078) (code 0x1007c) ≡ Some (Sym (Apart Sub (Code 0x10078) (Code 0x1007c)))
different_pointers = refl

different_kinds : on_registers [] op.Sub (code 0x10078) (Sym (Points (Ret 0x10078))) ≡ None
different_kinds = refl

apart_is_not_zero : tested Equal (Num 0) (Sym (Apart Sub (Code 0x10078) (Code 0x1007c))) ≡ Some false
apart_is_not_zero = refl

no_order : tested LessSigned (Num 0) (code 0x10078) ≡ None
no_order = refl

-- Differences: the second label's value plus the difference gives the first label's value.

difference_of_data : on_registers [] op.Add (Num 0x10098) (Sym (Diff 0x100a0 0x10098)) ≡ Some (Num 0x100a0)
difference_of_data = refl

-- 0 plus a difference is read as the label, not as a copy of the difference
difference_from_zero : on_registers [] op.Add (Num 0) (Sym (Diff 0x100a0 0)) ≡ Some (Num 0x100a0)
difference_from_zero = refl

difference_from_elsewhere : on_registers [] op.Add (Num 0x10090) (Sym (Diff 0x100a0 0x10098)) ≡ None
difference_from_elsewhere = refl

-- Memory.

whole_of_four : loaded Signed32
    (SymbolByte (Hi 5) 4 0 ∷ SymbolByte (Hi 5) 4 1 ∷ SymbolByte (Hi 5) 4 2 ∷ SymbolByte (Hi 5) 4 3 ∷ [])
    ≡ Some (Sym (Hi 5))
whole_of_four = refl

-- the upper part of a distance can be negative, so its bytes extended by zeros are a piece
unsigned_of_four : loaded Zero32
    (SymbolByte (Hi 5) 4 0 ∷ SymbolByte (Hi 5) 4 1 ∷ SymbolByte (Hi 5) 4 2 ∷ SymbolByte (Hi 5) 4 3 ∷ [])
    ≡ Some (Piece (Hi 5) 4 0 4 Unsigned)
unsigned_of_four = refl

upper_half : loaded Signed32 (SymbolByte (Hi 5) 8 4 ∷ SymbolByte (Hi 5) 8 5 ∷ SymbolByte (Hi 5) 8 6 ∷ SymbolByte (Hi 5) 8 7 ∷ [])
    ≡ Some (Piece (Hi 5) 8 4 4 Signed)
upper_half = refl

with_a_number : loaded Signed16 (SymbolByte (Hi 5) 8 4 ∷ Byte 3 ∷ []) ≡ None
with_a_number = refl

not_in_order : loaded Signed16 (SymbolByte (Hi 5) 8 4 ∷ SymbolByte (Hi 5) 8 6 ∷ []) ≡ None
not_in_order = refl

kept_in_two_widths : loaded Signed16 (SymbolByte (Hi 5) 8 0 ∷ SymbolByte (Hi 5) 4 1 ∷ []) ≡ None
kept_in_two_widths = refl

first_two_bytes : stored 2 (Sym (Hi 5)) ≡ Some (SymbolByte (Hi 5) 8 0 ∷ SymbolByte (Hi 5) 8 1 ∷ [])
unfolding symbol_bytes
first_two_bytes = refl

-- a piece knows which bytes of the symbol it has
part_of_a_piece : stored 2 (Piece (Hi 5) 8 4 4 Signed) ≡ Some (SymbolByte (Hi 5) 8 4 ∷ SymbolByte (Hi 5) 8 5 ∷ [])
unfolding symbol_bytes
part_of_a_piece = refl

more_than_a_piece : stored 8 (Piece (Hi 5) 8 4 4 Signed) ≡ None
more_than_a_piece = refl

-- Lower parts.

-- a load goes to the target of its lower part, whose AUIPC is at 0x10078
from_pair : place [] (role.Lo 0x10078 0x10098) (Sym (Hi 0x10078)) 32 ≡ Some (Num 0x10098)
from_pair = refl

-- a number as the base isn't accepted, even if it is the right one
from_number : place [] (role.Lo 0x10078 0x10098) (Num 0x10078) 32 ≡ None
from_number = refl

-- a jump that isn't a lower part has to have the offset 0
offset_of_a_jump : pointer role.Plain 4 (code 0x10078) ≡ None
offset_of_a_jump = refl

-- Reasons for being stuck: the first that applies.

-- a state in which every register has the value v, and no memory may be used
abbrev state : ℕ → Value → SymState
state pc v = record {
  pc = pc;
  registers = all_hold v;
  memory = λ a. Byte 0;
  space = record { reads = λ a. false; writes = λ a. false; executes = λ a. false; break_start = 0; break_bound = 0 };
  program_break = 0;
  input = [];
}

-- the outcome of an action at 0x10078 if each register has the value v
abbrev stuck_at : Role → Action → Value → SymOutcome
stuck_at role action v = effect [] role action 0x1007c (state 0x10078 v)

no_instruction : sym_step [] (state 0x10079 (Num 0)) ≡ Halts 0x10079 reason.FellOff
no_instruction = refl

breakpoint : stuck_at role.Plain Breakpoint (Num 0) ≡ Halts 0x10078 reason.Break
breakpoint = refl

call_by_a_pointer : stuck_at role.Plain SystemCall (code 0x10080) ≡ Halts 0x10078 reason.CallArg
call_by_a_pointer = refl

pointer_times_pointer : stuck_at role.Plain (Compute op.Mul 5 (Register 1) (Register 2)) (code 0x10080)
    ≡ Halts 0x10078 reason.Operate
pointer_times_pointer = refl

-- the step is stuck even if the result goes to register 0
result_left_out : stuck_at role.Plain (Compute op.Mul 0 (Register 1) (Register 2)) (code 0x10080) ≡ Halts 0x10078 reason.Operate
result_left_out = refl

pointer_below_pointer : stuck_at role.Plain (Branch LessSigned true 1 2 (pos 8)) (code 0x10080) ≡ Halts 0x10078 reason.Compare
pointer_below_pointer = refl

jump_to_a_number : stuck_at role.Plain (JumpTo 0 1 (pos 0)) (Num 0x10080) ≡ Halts 0x10078 reason.NotCode
jump_to_a_number = refl

jump_past_a_pointer : stuck_at role.Plain (JumpTo 0 1 (pos 4)) (code 0x10080) ≡ Halts 0x10078 reason.NotCode
jump_past_a_pointer = refl

-- a jump by a lower part whose base isn't its upper part
jump_by_another_base : stuck_at (role.CallLo 0x10074 0x10080) (JumpTo 1 1 (pos 0)) (code 0x10080) ≡ Halts 0x10078 reason.Operate
jump_by_another_base = refl

return_to_the_end : stuck_at role.Plain (JumpTo 0 1 (pos 0)) (Sym (Points (Ret 0x10080))) ≡ Halts 0x10078 reason.EndOfFunction
return_to_the_end = refl

load_at_a_pointer : stuck_at role.Plain (Load Signed32 5 1 (pos 0)) (code 0x10080) ≡ Halts 0x10078 reason.Access
load_at_a_pointer = refl

load_without_a_right : stuck_at role.Plain (Load Signed32 5 1 (pos 0)) (Num 0x20000) ≡ Halts 0x10078 reason.Access
unfolding all_may
load_without_a_right = refl

-- the lower part of an absolute address gives no address to load from
load_by_absolute : stuck_at (role.AbsLo 0x10080) (Load Signed32 5 1 (pos 0)) (Sym (Abs 0x10080)) ≡ Halts 0x10078 reason.Operate
load_by_absolute = refl

-- a store of more bytes than a piece has: the reason is the address, which isn't a number
store_of_a_piece : stuck_at role.Plain (Store 8 1 2 (pos 0)) (Piece (Hi 5) 8 4 4 Signed) ≡ Halts 0x10078 reason.Operate
store_of_a_piece = refl
