-- Fall-through, targets, worst sizes and address parts of small examples. Each equation holds by computation.
use Rattle.std.specs.Prelude.{◌≡◌, ℕ, Some, None, true, false, refl, pos, negsuc}
use Rattle.rv_code.specs.declared.inst.Inst.{Inst}
use Rattle.rv_code.specs.declared.inst.Inst.TheVariants.{Addi, Beq, Jal, Jalr, Ecall}
use Rattle.rv_code.specs.declared.placed.Placed.{Placed}
use Rattle.rv_code.specs.declared.placed.Role.TheVariants.{Plain}
use Rattle.rv_code.specs.isa.Action.{action_of}
use Rattle.rv_code.specs.layout.Flow.{target, falls}
use Rattle.rv_code.specs.isa.HiLo.{hi20, lo12}
use Rattle.rv_code.specs.layout.WorstSizes.{worst_length}

-- Fall-through. The second argument says whether the instruction is the last of its function.

last_one_falls : falls (action_of (Addi 10 0 (pos 4))) true ≡ true
last_one_falls = refl

system_call_falls : falls (action_of Ecall) true ≡ true
system_call_falls = refl

branch_falls : falls (action_of (Beq 10 0 (pos 12))) true ≡ true
branch_falls = refl

jump_goes_away : falls (action_of (Jal 0 (pos 8))) false ≡ false
jump_goes_away = refl

return_goes_away : falls (action_of (Jalr 0 1 (pos 0))) false ≡ false
return_goes_away = refl

call_falls : falls (action_of (Jalr 1 1 (pos 8))) false ≡ true
call_falls = refl

-- A call at the end of a function is assumed not to return.
last_call_goes_away : falls (action_of (Jalr 1 1 (pos 8))) true ≡ false
last_call_goes_away = refl

-- Targets.

target_of_branch : target 0x1007c (action_of (Beq 10 0 (pos 12))) ≡ Some 0x10088
target_of_branch = refl

target_of_jump : target 0x10084 (action_of (Jal 0 (negsuc 7))) ≡ Some 0x1007c
target_of_jump = refl

-- The target of a JALR isn't in the instruction.
target_of_return : target 0x10084 (action_of (Jalr 0 1 (pos 0))) ≡ None
target_of_return = refl

-- Worst sizes.

placed : Inst → ℕ → Placed
placed inst len = record { addr = 0x10078; len = len; inst = inst; role = Plain }

worst_of_compressed_branch : worst_length (placed (Beq 8 0 (pos 4)) 2) ≡ 8
unfolding placed
worst_of_compressed_branch = refl

worst_of_compressed_jump : worst_length (placed (Jal 0 (pos 4)) 2) ≡ 4
unfolding placed
worst_of_compressed_jump = refl

worst_of_compressed_addition : worst_length (placed (Addi 10 10 (pos 4)) 2) ≡ 2
unfolding placed
worst_of_compressed_addition = refl

-- Address parts: a lower part of 0x800 or more is negative, and the upper part is one more.

upper_of_7ff : hi20 (pos 0x107ff) ≡ pos 0x10
upper_of_7ff = refl

lower_of_7ff : lo12 (pos 0x107ff) ≡ pos 2047
lower_of_7ff = refl

upper_of_800 : hi20 (pos 0x10800) ≡ pos 0x11
upper_of_800 = refl

lower_of_800 : lo12 (pos 0x10800) ≡ negsuc 2047
lower_of_800 = refl

-- A backward distance: -8 has the parts 0 and -8.
upper_of_negative : hi20 (negsuc 7) ≡ pos 0
upper_of_negative = refl

lower_of_negative : lo12 (negsuc 7) ≡ negsuc 7
lower_of_negative = refl
