-- The symbol machine's operations on values. A rule gives a result that holds for any addresses of the code, or None if
-- there is none. On numbers the rules are the byte machine's.
use Rattle.std.specs.Prelude.{ℕ, zero, suc, ◌-◌, ◌^◌, ◌==◌, ◌&&◌, ◌||◌, if◌then◌else◌, Bool, true, false, List, ◌∷◌}
use Rattle.std.specs.Prelude.{Option, Some, None, option_map}
use Rattle.std.specs.Option.{option_or}
use Rattle.rv_code.specs.declared.op.Op.{Op}
use Rattle.rv_code.specs.declared.op.Op.TheVariants as op
use Rattle.rv_code.specs.declared.action.Operand.{Operand}
use Rattle.rv_code.specs.declared.action.Operand.TheVariants.{Register, Immediate}
use Rattle.rv_code.specs.declared.action.Test.{Test}
use Rattle.rv_code.specs.declared.action.Test.TheVariants.{Equal}
use Rattle.rv_code.specs.declared.action.Extension.{Extension}
use Rattle.rv_code.specs.declared.action.Extension.TheVariants.{Signed8, Signed16, Signed32, Whole64, Zero8, Zero16}
use Rattle.rv_code.specs.declared.action.Extension.TheVariants.{Zero32}
use Rattle.rv_code.specs.declared.placed.Func.{Func}
use Rattle.rv_code.specs.declared.placed.Role.{Role}
use Rattle.rv_code.specs.declared.placed.Role.TheVariants as role
use Rattle.rv_code.specs.isa.Op.{apply, holds}
use Rattle.rv_code.specs.isa.TwosComplement.{unsigned64}
use Rattle.rv_code.specs.isa.Extension.{extended}
use Rattle.rv_code.specs.machine.Machine.{plus, little}
use Rattle.rv_code.specs.layout.Flow.{next_of}
use Rattle.rb_bytes.specs.Options.{only_if}
use Rattle.sym_machine.specs.declared.value.Pointer.{Pointer}
use Rattle.sym_machine.specs.declared.value.Pointer.TheVariants.{Code, Ret}
use Rattle.sym_machine.specs.declared.value.Comparing.{Comparing}
use Rattle.sym_machine.specs.declared.value.Comparing.TheVariants.{Sub, Xor}
use Rattle.sym_machine.specs.declared.value.CodeSymbol.{CodeSymbol}
use Rattle.sym_machine.specs.declared.value.CodeSymbol.TheVariants.{Points, Hi, Abs, Diff, Apart}
use Rattle.sym_machine.specs.declared.value.Signedness.TheVariants.{Signed, Unsigned}
use Rattle.sym_machine.specs.declared.value.Value.{Value}
use Rattle.sym_machine.specs.declared.value.Value.TheVariants.{Num, Sym, Piece}
use Rattle.sym_machine.specs.declared.value.MemoryByte.{MemoryByte}
use Rattle.sym_machine.specs.declared.value.MemoryByte.TheVariants.{SymbolByte}
use Rattle.sym_machine.specs.Values.{value_of, is_value_of, numbers, are_symbol_bytes}

-- Upper and lower parts of addresses.

-- AUIPC with a target. An AUIPC without one, which no accepted file has, gives a number that depends on its address:
-- there is no rule.
abbrev pub upper_of_distance : Role → ℕ → Option Value
upper_of_distance (role.Hi target) a = Some (Sym (Hi a))
upper_of_distance (role.CallHi target) a = Some (Sym (Hi a))
upper_of_distance _ a = None

-- LUI of the upper part of a code address, or of a number
abbrev pub upper_of_address : Role → ℕ → Value
upper_of_address (role.AbsHi target) n = Sym (Abs target)
upper_of_address _ n = Num n

abbrev pub is_hi : ℕ → Value → Bool
is_hi a (Sym (Hi b)) = a == b
is_hi a _ = false

abbrev pub is_abs : ℕ → Value → Bool
is_abs t (Sym (Abs s)) = t == s
is_abs t _ = false

abbrev pub is_lower : Role → Bool
is_lower (role.Lo hi target) = true
is_lower (role.CallLo hi target) = true
is_lower (role.AbsLo target) = true
is_lower _ = false

-- A lower part gives its target if the base is the result of the upper part that belongs to it.
abbrev pub joined : List Func → Role → Value → Option Value
joined funcs (role.Lo hi target) base = only_if (is_hi hi base) (value_of funcs target)
joined funcs (role.CallLo hi target) base = only_if (is_hi hi base) (value_of funcs target)
joined funcs (role.AbsLo target) base = only_if (is_abs target base) (Sym (Points (Code target)))
joined funcs _ base = None

-- Arithmetic.

-- a value that is certainly not 0: a pointer, or the result of comparing two different pointers
abbrev pub is_nonzero : Value → Bool
is_nonzero (Sym (Points p)) = true
is_nonzero (Sym (Apart by p q)) = true
is_nonzero _ = false

-- a copy, by adding 0
abbrev pub copied : Value → Value → Option Value
copied v (Num n) = only_if (n == 0) v
copied v _ = None

-- the difference of two labels plus the second label's value is the first label's value
abbrev pub from_difference : List Func → Value → Value → Option Value
from_difference funcs (Sym (Diff to from)) w = only_if (is_value_of funcs from w) (value_of funcs to)
from_difference funcs _ w = None

-- ADD, in either order; the rule for differences comes before the one for copies
abbrev pub sum : List Func → Value → Value → Option Value
sum funcs v w =
    option_or (from_difference funcs v w) (option_or (from_difference funcs w v) (option_or (copied v w) (copied w v)))

-- comparing pointers of one kind with the addresses a and b
abbrev pub compared : Comparing → Pointer → Pointer → ℕ → ℕ → Value
compared by p q a b = if a == b then Num 0 else Sym (Apart by p q)

-- SUB and XOR of two pointers
abbrev pub compared_by : Comparing → Pointer → Pointer → Option Value
compared_by by (Code a) (Code b) = Some (compared by (Code a) (Code b) a b)
compared_by by (Ret a) (Ret b) = Some (compared by (Ret a) (Ret b) a b)
compared_by by _ _ = None

-- ANDI of a pointer with 1, and with -2: its low bit, which is 0, and all others
abbrev pub masked : Pointer → ℕ → Option Value
masked p n = if n == 1 then Some (Num 0) else only_if (n == 2 ^ 64 - 2) (Sym (Points p))

-- an operation on two registers
abbrev pub on_registers : List Func → Op → Value → Value → Option Value
on_registers funcs o (Num a) (Num b) = Some (Num (apply o a b))
on_registers funcs op.Add v w = sum funcs v w
on_registers funcs op.Sub (Sym (Points p)) (Sym (Points q)) = compared_by Sub p q
on_registers funcs op.Xor (Sym (Points p)) (Sym (Points q)) = compared_by Xor p q
on_registers funcs o v w = None

-- SLTU of register 0 and another register, which tests that the other isn't 0
abbrev pub on_zero : List Func → Op → Value → Value → Option Value
on_zero funcs op.Sltu v w = if is_nonzero w then Some (Num 1) else on_registers funcs op.Sltu v w
on_zero funcs o v w = on_registers funcs o v w

-- an operation on a register and a constant: ADDI with 0, SLTIU with 1 (a test for 0), and ANDI
abbrev pub on_constant : Op → Value → ℕ → Option Value
on_constant o (Num a) n = Some (Num (apply o a n))
on_constant op.Add v n = only_if (n == 0) v
on_constant op.Sltu v n = only_if (n == 1 && is_nonzero v) (Num 0)
on_constant op.And (Sym (Points p)) n = masked p n
on_constant o v n = None

-- an operation by its operands, the first of which is always a register
abbrev pub combined : List Func → (ℕ → Value) → Op → Operand → Operand → Option Value
combined funcs registers o (Register zero) (Register r2) = on_zero funcs o (registers 0) (registers r2)
combined funcs registers o (Register (suc r1)) (Register r2) = on_registers funcs o (registers (suc r1)) (registers r2)
combined funcs registers o (Register r1) (Immediate imm) = on_constant o (registers r1) (unsigned64 imm)
combined funcs registers o (Immediate imm) right = None

abbrev pub base_of : (ℕ → Value) → Operand → Value
base_of registers (Register r) = registers r
base_of registers (Immediate imm) = Num (unsigned64 imm)

-- the result of an operation; an ADDI that is a lower part is decided by its role only
abbrev pub computed : List Func → Role → (ℕ → Value) → Op → Operand → Operand → Option Value
computed funcs role registers o left right =
    if is_lower role then joined funcs role (base_of registers left) else combined funcs registers o left right

-- Branches.

abbrev pub equal_pointers : Pointer → Pointer → Option Bool
equal_pointers (Code a) (Code b) = Some (a == b)
equal_pointers (Ret a) (Ret b) = Some (a == b)
equal_pointers _ _ = None

-- a value equals a number: known only for the number 0 and a value that is certainly not 0
abbrev pub equal_number : Value → ℕ → Option Bool
equal_number v n = only_if (n == 0 && is_nonzero v) false

-- whether the test of a branch holds
abbrev pub tested : Test → Value → Value → Option Bool
tested test (Num a) (Num b) = Some (holds test a b)
tested Equal (Sym (Points p)) (Sym (Points q)) = equal_pointers p q
tested Equal v (Num n) = equal_number v n
tested Equal (Num n) w = equal_number w n
tested test v w = None

-- Jumps through a register.

-- The value to which a JALR goes: its lower part's target, or its register's value.
abbrev pub goal : List Func → Role → Value → Option Value
goal funcs role base = if is_lower role then joined funcs role base else Some base

-- The value to which a JALR goes has to be a pointer; if the JALR isn't a lower part, its offset has to be 0.
abbrev pub pointer : Role → ℕ → Value → Option Pointer
pointer role offset (Sym (Points p)) = only_if (is_lower role || offset == 0) p
pointer role offset _ = None

-- the address to which a pointer leads; there is none after a call that is its function's last instruction
abbrev pub destination : List Func → Pointer → Option ℕ
destination funcs (Code a) = Some a
destination funcs (Ret a) = next_of funcs a

-- Loads and stores.

-- The address of a load or store: its lower part's target if the base is the result of the AUIPC that belongs to it,
-- otherwise base plus offset. A symbol as a base is returned unchanged, and no access accepts it as an address.
abbrev pub place : List Func → Role → Value → ℕ → Option Value
place funcs (role.Lo hi target) base offset = joined funcs (role.Lo hi target) base
place funcs (role.CallLo hi target) base offset = joined funcs (role.CallLo hi target) base
place funcs (role.AbsLo target) base offset = None
place funcs _ (Num a) offset = Some (Num (plus a offset))
place funcs _ base offset = Some base

-- a symbol that an LWU gives back, since its number is never negative
abbrev pub is_unsigned : CodeSymbol → Bool
is_unsigned (Points p) = true
is_unsigned (Abs t) = true
is_unsigned _ = false

-- The result of a load of bytes of symbol y from byte i on, which is stored in w bytes: y if these are all of its
-- bytes, otherwise a piece.
abbrev pub piece : Extension → CodeSymbol → ℕ → ℕ → Option Value
piece Whole64 y w i = only_if (w == 8 && i == 0) (Sym y)
piece Signed32 y w i = Some (if w == 4 && i == 0 then Sym y else Piece y w i 4 Signed)
piece Zero32 y w i = Some (if w == 4 && i == 0 && is_unsigned y then Sym y else Piece y w i 4 Unsigned)
piece Signed16 y w i = Some (Piece y w i 2 Signed)
piece Zero16 y w i = Some (Piece y w i 2 Unsigned)
piece Signed8 y w i = Some (Piece y w i 1 Signed)
piece Zero8 y w i = Some (Piece y w i 1 Unsigned)

-- the result of a load of successive bytes of one symbol that is stored in one width
abbrev pub loaded_symbol : Extension → List MemoryByte → Option Value
loaded_symbol e (SymbolByte y w i ∷ cs) = if are_symbol_bytes y w (suc i) cs then piece e y w i else None
loaded_symbol e _ = None

-- the result of a load of these bytes of memory, none of which is hidden
abbrev pub loaded : Extension → List MemoryByte → Option Value
loaded e held = option_or (option_map (λ bytes. Num (extended e (little bytes))) (numbers held)) (loaded_symbol e held)
