-- Results of the arithmetic and logic operations, and the tests of branches, on 64-bit numbers. Sections are those of
-- the ISA manual, volume I.
use Rattle.std.specs.Prelude.{ℕ, ◌+◌, ◌-◌, ◌*◌, ◌/◌, ◌%◌, ◌^◌, pos, ◌*ℤ◌, ℤ, Bool, nat_lt, int_lt, ◌==◌, if◌then◌else◌}
use Rattle.std.specs.Prelude.{bit_and, bit_or, bit_xor}
use Rattle.std.specs.Int.{w128, cast_unsigned, int_shr}
use Rattle.std.specs.Int.RustNames.{int_div, int_rem}
use Rattle.rv_code.specs.isa.TwosComplement.{unsigned64, signed64, low32, signed32, sign_extended32}
use Rattle.rv_code.specs.declared.op.Op.{Op}
use Rattle.rv_code.specs.declared.op.Op.TheVariants.{Add, Sub, Sll, Slt, Sltu, Xor, Srl, Sra, Or, And, Mul, Mulh}
use Rattle.rv_code.specs.declared.op.Op.TheVariants.{Mulhsu, Mulhu, Div, Divu, Rem, Remu, Addw, Subw, Sllw, Srlw, Sraw}
use Rattle.rv_code.specs.declared.op.Op.TheVariants.{Mulw, Divw, Divuw, Remw, Remuw}
use Rattle.rv_code.specs.declared.action.Test.{Test}
use Rattle.rv_code.specs.declared.action.Test.TheVariants.{Equal, LessSigned, LessUnsigned}

-- The test of a conditional branch (2.5).
abbrev pub holds : Test → ℕ → ℕ → Bool
holds Equal left right = left == right
holds LessSigned left right = int_lt (signed64 left) (signed64 right)
holds LessUnsigned left right = nat_lt left right

-- A comparison as a number.
abbrev pub flag : Bool → ℕ
flag b = if b then 1 else 0

-- The result of an unsigned division by zero: all bits set, which as a signed number is -1 (13.2).
abbrev pub all_ones : ℕ
all_ones = 2 ^ 64 - 1

-- The high 64 bits of a 128-bit product (13.1).
abbrev pub upper64 : ℤ → ℕ
upper64 product = cast_unsigned w128 product / 2 ^ 64

-- Quotients round toward zero, and a remainder has the dividend's sign. If -2^63 is divided by -1, the quotient is
-- -2^63 and the remainder is 0; the 32-bit forms are similar (13.2).
abbrev pub apply : Op → ℕ → ℕ → ℕ
-- 64-bit integers (2.4, 4.2). The amount of a shift is the low six bits.
apply Add left right = (left + right) % 2 ^ 64
apply Sub left right = (left + (2 ^ 64 - right)) % 2 ^ 64
apply Sll left right = left * 2 ^ (right % 64) % 2 ^ 64
apply Slt left right = flag (int_lt (signed64 left) (signed64 right))
apply Sltu left right = flag (nat_lt left right)
apply Xor left right = bit_xor left right
apply Srl left right = left / 2 ^ (right % 64)
apply Sra left right = unsigned64 (int_shr (signed64 left) (right % 64))
apply Or left right = bit_or left right
apply And left right = bit_and left right
-- Multiplication (13.1).
apply Mul left right = left * right % 2 ^ 64
apply Mulh left right = upper64 (signed64 left *ℤ signed64 right)
apply Mulhsu left right = upper64 (signed64 left *ℤ pos right)
apply Mulhu left right = left * right / 2 ^ 64
-- Division (13.2).
apply Div left right = if right == 0 then all_ones else unsigned64 (int_div (signed64 left) (signed64 right))
apply Divu left right = if right == 0 then all_ones else left / right
apply Rem left right = if right == 0 then left else unsigned64 (int_rem (signed64 left) (signed64 right))
apply Remu left right = if right == 0 then left else left % right
-- Operations on the low 32 bits with a sign-extended result (4.2, 13.1, 13.2). The amount of a shift is the low five
-- bits.
apply Addw left right = sign_extended32 (left + right)
apply Subw left right = sign_extended32 (left + (2 ^ 64 - right))
apply Sllw left right = sign_extended32 (low32 left * 2 ^ (right % 32))
apply Srlw left right = sign_extended32 (low32 left / 2 ^ (right % 32))
apply Sraw left right = unsigned64 (int_shr (signed32 left) (right % 32))
apply Mulw left right = sign_extended32 (left * right)
apply Divw left right =
    if low32 right == 0 then all_ones else sign_extended32 (unsigned64 (int_div (signed32 left) (signed32 right)))
apply Divuw left right = if low32 right == 0 then all_ones else sign_extended32 (low32 left / low32 right)
apply Remw left right = if low32 right == 0 then sign_extended32 left else unsigned64
    (int_rem (signed32 left) (signed32 right))
apply Remuw left right = if low32 right == 0 then sign_extended32 left else sign_extended32 (low32 left % low32 right)
