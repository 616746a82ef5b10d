use Rattle.std.proofs.Common.{rules, arith, ap, ◌∙◌, ◌≡◌, ℕ, ◌+◌, ◌*◌, ◌<◌, ◌%◌, ◌^◌, ℤ}
use Rattle.rv_code.specs.isa.Bits.{field, signed}
use Rattle.rv_code.specs.isa.HalfRows.{C_J, jump_offset}
use Rattle.rv_code.specs.declared.inst.Inst.TheVariants.{Jal}
use Rattle.rv_encode.specs.internal.HalfForms.{IsRowOf}
use Rattle.rv_encode.proofs.jump.c_j.Goals as goal

-- The fields of C.J are read back from their positions.
jump_offset_of : (b5 b31 b7 b6 b10 b98 b4 b11 : ℕ) → b5 < 2 → b31 < 8 → b7 < 2 → b6 < 2 → b10 < 2 → b98 < 4 → b4 < 2 → b11 < 2 →
    jump_offset (1 + b5 * 4 + b31 * 8 + b7 * 64 + b6 * 128 + b10 * 256 + b98 * 512 + b4 * 2048 + b11 * 4096 + 40960) ≡
    b11 * 2 ^ 11 + b10 * 2 ^ 10 + b98 * 2 ^ 8 + b7 * 2 ^ 7 + b6 * 2 ^ 6 + b5 * 2 ^ 5 + b4 * 2 ^ 4 + b31 * 2
jump_offset_of b5 b31 b7 b6 b10 b98 b4 b11 h5 h31 h7 h6 h10 h98 h4 h11 = omega arith

-- An even number is the sum of its fields.
sum_of_fields : (n : ℕ) → n < 4096 → n % 2 ≡ 0 →
    field n 11 1 * 2 ^ 11 + field n 10 1 * 2 ^ 10 + field n 8 2 * 2 ^ 8 + field n 7 1 * 2 ^ 7 + field n 6 1 * 2 ^ 6
    + field n 5 1 * 2 ^ 5 + field n 4 1 * 2 ^ 4 + field n 1 3 * 2 ≡ n
sum_of_fields n below even = omega arith

-- The instruction that C.J's halfword for an even number expands to.
jal_of : (n half rd : ℕ) (imm : ℤ) → n < 4096 → n % 2 ≡ 0 →
    half ≡ 1 + field n 5 1 * 4 + field n 1 3 * 8 + field n 7 1 * 64 + field n 6 1 * 128 + field n 10 1 * 256 + field n 8 2 * 512
    + field n 4 1 * 2048 + field n 11 1 * 4096 + 40960 → rd ≡ 0 → signed 11 n ≡ imm → IsRowOf C_J half (Jal rd imm)
jal_of n half rd imm below even is zero is_imm =
    let placed : jump_offset half ≡ n =
    ap jump_offset is
    ∙ (jump_offset_of (field n 5 1) (field n 1 3) (field n 7 1) (field n 6 1) (field n 10 1) (field n 8 2) (field n 4 1)
    (field n 11 1) (omega arith) (omega arith) (omega arith) (omega arith) (omega arith) (omega arith) (omega arith) (omega arith)
    ∙ sum_of_fields n below even) in
    record { matches = record { quadrant_is = omega arith; funct3_is = omega arith }; expands = cc }

pub returns-clause-found : goal.returns-clause-found
returns-clause-found c =
    jal_of c.in_ok-number.number _ c.args.rd c.args.imm c.in_ok-number.ensures.below (omega arith) (omega arith) (omega arith)
    (search rules)
