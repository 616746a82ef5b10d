-- The rules, split into the cases that the code has.
use Rattle.std.specs.Prelude.{ℕ, ◌&&◌, Bool, Option, Some, None, is_some, option_and_then}
use Rattle.sym_machine.specs.declared.value.Pointer.{Pointer}
use Rattle.sym_machine.specs.declared.value.Comparing.{Comparing}
use Rattle.sym_machine.specs.declared.value.CodeSymbol.TheVariants.{Points}
use Rattle.sym_machine.specs.declared.value.Value.{Value}
use Rattle.sym_machine.specs.declared.value.Value.TheVariants.{Num, Sym}
use Rattle.rv_code.specs.declared.action.Test.{Test}
use Rattle.rv_code.specs.isa.Op.{holds}
use Rattle.rv_code.specs.machine.Machine.{plus}
use Rattle.sym_machine.specs.Values.{number}
use Rattle.sym_machine.specs.Rules.{compared_by, masked}

abbrev pub pointer_in : Value → Option Pointer
pointer_in (Sym (Points p)) = Some p
pointer_in _ = None

abbrev pub compared_pointers : Comparing → Option Pointer → Option Pointer → Option Value
compared_pointers by (Some p) (Some q) = compared_by by p q
compared_pointers by _ _ = None

abbrev pub compared_values : Comparing → Value → Value → Option Value
compared_values by v w = compared_pointers by (pointer_in v) (pointer_in w)

abbrev pub masked_value : Value → ℕ → Option Value
masked_value v n = option_and_then (λ p. masked p n) (pointer_in v)

abbrev pub both_numbers : Value → Value → Bool
both_numbers v w = is_some (number v) && is_some (number w)

-- the test of two numbers
abbrev pub numbers_tested : Test → Value → Value → Option Bool
numbers_tested test (Num a) (Num b) = Some (holds test a b)
numbers_tested test _ _ = None

-- a base plus an offset
abbrev pub with_offset : Value → ℕ → Value
with_offset (Num a) offset = Num (plus a offset)
with_offset base offset = base
