-- The offsets of decoded jumps and branches are even.
use Rattle.std.proofs.Common.{◌≡◌, ℕ, ◌+◌, ◌*◌, ◌%◌, ◌^◌, ◌<◌, ◌≤◌, Option, Some, None, sym, subst, arith, inl, inr, ℤ, pos, ◌-ℤ◌}
use Rattle.std.proofs.Common.{refl, Bool, true, false}
use Rattle.std.specs.Prelude.{nat_lt, if◌then◌else◌}
use Rattle.std.proofs.lemmas.Int.{ints}
use Rattle.rv_code.specs.isa.Bits.{field, signed_by, imm_j, imm_b}
use Rattle.rv_code.specs.isa.FullRows.{IsFull}
use Rattle.rv_code.specs.isa.HalfRows.{Row, expansion, jump_offset, branch_offset, C_J, C_BEQZ, C_BNEZ}
use Rattle.rv_code.specs.isa.InstBytes.{Decodes}
use Rattle.rv_code.specs.isa.TwosComplement.{unsigned64}
use Rattle.rv_code.specs.declared.inst.Inst.{Inst}
use Rattle.rv_code.specs.declared.inst.Inst.TheVariants.{Jal, Beq, Bne, Blt, Bge, Bltu, Bgeu}

abbrev pub EvenOffset : Inst → Type 0
EvenOffset (Jal rd imm) = unsigned64 imm % 2 ≡ 0
EvenOffset (Beq rs1 rs2 imm) = unsigned64 imm % 2 ≡ 0
EvenOffset (Bne rs1 rs2 imm) = unsigned64 imm % 2 ≡ 0
EvenOffset (Blt rs1 rs2 imm) = unsigned64 imm % 2 ≡ 0
EvenOffset (Bge rs1 rs2 imm) = unsigned64 imm % 2 ≡ 0
EvenOffset (Bltu rs1 rs2 imm) = unsigned64 imm % 2 ≡ 0
EvenOffset (Bgeu rs1 rs2 imm) = unsigned64 imm % 2 ≡ 0
EvenOffset _ = Unit {0}

negative : (half n : ℕ) → n % 2 ≡ 0 → half % 2 ≡ 0 → n < 2 * half → half ≤ 2 ^ 62 → unsigned64 (pos n -ℤ pos (2 * half)) % 2 ≡ 0
negative half n even halved lower room = omega (arith, ints)

below : (half n : ℕ) → n % 2 ≡ 0 → half % 2 ≡ 0 → n < 2 * half → half ≤ 2 ^ 62 → unsigned64 (signed_by half n) % 2 ≡ 0
below half n even halved lower room = by (nat_lt n half) refl
  where
    by : (t : Bool) → nat_lt n half ≡ t → unsigned64 (if t then pos n else (pos n -ℤ pos (2 * half))) % 2 ≡ 0
    by true e = even
    by false e = negative half n even halved lower room

of_b : (w : ℕ) (imm : ℤ) → imm_b w ≡ imm → unsigned64 imm % 2 ≡ 0
of_b w imm e =
    subst (λ (z : ℤ). unsigned64 z % 2 ≡ 0) e
    (below (2 ^ 12) (field w 31 1 * 2 ^ 12 + field w 7 1 * 2 ^ 11 + field w 25 6 * 2 ^ 5 + field w 8 4 * 2) (omega arith)
    (omega arith) (omega arith) (omega arith))

of_j : (w : ℕ) (imm : ℤ) → imm_j w ≡ imm → unsigned64 imm % 2 ≡ 0
of_j w imm e =
    subst (λ (z : ℤ). unsigned64 z % 2 ≡ 0) e
    (below (2 ^ 20) (field w 31 1 * 2 ^ 20 + field w 12 8 * 2 ^ 12 + field w 20 1 * 2 ^ 11 + field w 21 10 * 2)
    (omega arith) (omega arith) (omega arith) (omega arith))

even_full : (w : ℕ) (i : Inst) → IsFull w i → EvenOffset i
even_full w (Jal rd imm) row = of_j w imm row.imm_is
even_full w (Beq rs1 rs2 imm) row = of_b w imm row.imm_is
even_full w (Bne rs1 rs2 imm) row = of_b w imm row.imm_is
even_full w (Blt rs1 rs2 imm) row = of_b w imm row.imm_is
even_full w (Bge rs1 rs2 imm) row = of_b w imm row.imm_is
even_full w (Bltu rs1 rs2 imm) row = of_b w imm row.imm_is
even_full w (Bgeu rs1 rs2 imm) row = of_b w imm row.imm_is
even_full w _ row = tt

even_half : (r : Row) (half : ℕ) → EvenOffset (expansion r half)
even_half C_J half = below (2 ^ 11) (jump_offset half) (omega arith) (omega arith) (omega arith) (omega arith)
even_half C_BEQZ half = below (2 ^ 8) (branch_offset half) (omega arith) (omega arith) (omega arith) (omega arith)
even_half C_BNEZ half = below (2 ^ 8) (branch_offset half) (omega arith) (omega arith) (omega arith) (omega arith)
even_half _ half = tt

pub even_offset : (half : ℕ) (next : Option ℕ) (i : Inst) (bytes : ℕ) → Decodes half next i bytes → EvenOffset i
even_offset half next i bytes (inl d) = subst EvenOffset (sym d.row.2) (even_half d.row.0 half)
even_offset half None i bytes (inr d) = absurd d.row
even_offset half (Some upper) i bytes (inr d) = even_full (upper * 2 ^ 16 + half) i d.row
