-- Encodings of the two-byte instructions: the rows of the manual's table, the halfwords of each row, and the
-- instruction that each expands to. ISA manual, chapter "C" Extension for Compressed Instructions, "RVC Instruction Set
-- Listings".
use Rattle.std.specs.Prelude.{◌≡◌, ◌≢◌, ℕ, ◌+◌, ◌*◌, ◌^◌, pos}
use Rattle.rv_code.specs.isa.Bits.{field, signed}
use Rattle.rv_code.specs.declared.inst.Inst.{Inst}
use Rattle.rv_code.specs.declared.inst.Inst.TheVariants.{Lui, Jal, Jalr, Beq, Bne, Lw, Ld, Sw, Sd, Addi, Andi, Slli}
use Rattle.rv_code.specs.declared.inst.Inst.TheVariants.{Srli, Srai, Add, Sub, Xor, Or, And, Addiw, Addw, Subw, Ebreak}

-- The rows by the manual's mnemonics. C_ADDI includes C.NOP.
pub data Row : Type 0 where
  C_ADDI4SPN : Row
  C_LW : Row
  C_LD : Row
  C_SW : Row
  C_SD : Row
  C_ADDI : Row
  C_ADDIW : Row
  C_LI : Row
  C_ADDI16SP : Row
  C_LUI : Row
  C_SRLI : Row
  C_SRAI : Row
  C_ANDI : Row
  C_SUB : Row
  C_XOR : Row
  C_OR : Row
  C_AND : Row
  C_SUBW : Row
  C_ADDW : Row
  C_J : Row
  C_BEQZ : Row
  C_BNEZ : Row
  C_SLLI : Row
  C_LWSP : Row
  C_LDSP : Row
  C_JR : Row
  C_MV : Row
  C_EBREAK : Row
  C_JALR : Row
  C_ADD : Row
  C_SWSP : Row
  C_SDSP : Row

-- Positions of fields.

-- The quadrant (the low two bits) and funct3 of a row.
pub record Opens (half quadrant funct3 : ℕ) : Type 0 where
  pub quadrant_is : field half 0 2 ≡ quadrant
  pub funct3_is : field half 13 3 ≡ funct3

-- A row of the arithmetic on registers 8 to 15 (quadrant 1, funct3 4), with its bits 11:10.
pub record OpensArithmetic (half kind : ℕ) : Type 0 where
  pub opens : Opens half 1 4
  pub kind_is : field half 10 2 ≡ kind

-- A row of the arithmetic between two of these registers, with its bit 12 and bits 6:5.
pub record OpensPair (half bit12 funct2 : ℕ) : Type 0 where
  pub opens : OpensArithmetic half 3
  pub bit12_is : field half 12 1 ≡ bit12
  pub funct2_is : field half 5 2 ≡ funct2

-- A row of quadrant 2 with funct3 4, with its bit 12.
pub record OpensJump (half bit12 : ℕ) : Type 0 where
  pub opens : Opens half 2 4
  pub bit12_is : field half 12 1 ≡ bit12

abbrev pub rd : ℕ → ℕ
rd half = field half 7 5

abbrev pub rs2 : ℕ → ℕ
rs2 half = field half 2 5

-- Registers 8 to 15 as three bits: bits 9:7 for rs1' and for rd' of arithmetic, bits 4:2 for rs2' and for rd' of loads
-- and of C.ADDI4SPN.
abbrev pub upper_register : ℕ → ℕ
upper_register half = 8 + field half 7 3

abbrev pub lower_register : ℕ → ℕ
lower_register half = 8 + field half 2 3

-- Immediates, before sign extension. A comment lists which bits of the halfword have which bits of the immediate.

-- 12 = imm[5], 6:2 = imm[4:0]; for C.LUI they are imm[17] and imm[16:12].
abbrev pub six_bits : ℕ → ℕ
six_bits half = field half 12 1 * 2 ^ 5 + field half 2 5

-- 12:11 = imm[5:4], 10:7 = imm[9:6], 6 = imm[2], 5 = imm[3]
abbrev pub addi4spn_imm : ℕ → ℕ
addi4spn_imm half = field half 7 4 * 2 ^ 6 + field half 11 2 * 2 ^ 4 + field half 5 1 * 2 ^ 3 + field half 6 1 * 2 ^ 2

-- 12 = imm[9], 6 = imm[4], 5 = imm[6], 4:3 = imm[8:7], 2 = imm[5]
abbrev pub addi16sp_imm : ℕ → ℕ
addi16sp_imm half =
    field half 12 1 * 2 ^ 9 + field half 3 2 * 2 ^ 7 + field half 5 1 * 2 ^ 6 + field half 2 1 * 2 ^ 5 + field half 6 1
    * 2 ^ 4

-- 12:10 = imm[5:3], 6 = imm[2], 5 = imm[6]
abbrev pub word_offset : ℕ → ℕ
word_offset half = field half 5 1 * 2 ^ 6 + field half 10 3 * 2 ^ 3 + field half 6 1 * 2 ^ 2

-- 12:10 = imm[5:3], 6:5 = imm[7:6]
abbrev pub double_offset : ℕ → ℕ
double_offset half = field half 5 2 * 2 ^ 6 + field half 10 3 * 2 ^ 3

-- 12 = imm[11], 11 = imm[4], 10:9 = imm[9:8], 8 = imm[10], 7 = imm[6], 6 = imm[7], 5:3 = imm[3:1], 2 = imm[5]
abbrev pub jump_offset : ℕ → ℕ
jump_offset half =
    field half 12 1 * 2 ^ 11 + field half 8 1 * 2 ^ 10 + field half 9 2 * 2 ^ 8 + field half 6 1 * 2 ^ 7 + field half 7
    1 * 2 ^ 6
    + field half 2 1 * 2 ^ 5 + field half 11 1 * 2 ^ 4 + field half 3 3 * 2

-- 12 = imm[8], 11:10 = imm[4:3], 6:5 = imm[7:6], 4:3 = imm[2:1], 2 = imm[5]
abbrev pub branch_offset : ℕ → ℕ
branch_offset half =
    field half 12 1 * 2 ^ 8 + field half 5 2 * 2 ^ 6 + field half 2 1 * 2 ^ 5 + field half 10 2 * 2 ^ 3 + field half 3 2
    * 2

-- 12 = imm[5], 6:4 = imm[4:2], 3:2 = imm[7:6]
abbrev pub load_word_sp : ℕ → ℕ
load_word_sp half = field half 2 2 * 2 ^ 6 + field half 12 1 * 2 ^ 5 + field half 4 3 * 2 ^ 2

-- 12 = imm[5], 6:5 = imm[4:3], 4:2 = imm[8:6]
abbrev pub load_double_sp : ℕ → ℕ
load_double_sp half = field half 2 3 * 2 ^ 6 + field half 12 1 * 2 ^ 5 + field half 5 2 * 2 ^ 3

-- 12:9 = imm[5:2], 8:7 = imm[7:6]
abbrev pub store_word_sp : ℕ → ℕ
store_word_sp half = field half 7 2 * 2 ^ 6 + field half 9 4 * 2 ^ 2

-- 12:10 = imm[5:3], 9:7 = imm[8:6]
abbrev pub store_double_sp : ℕ → ℕ
store_double_sp half = field half 7 3 * 2 ^ 6 + field half 10 3 * 2 ^ 3

-- The halfword belongs to the row.
abbrev pub Matches : Row → ℕ → Type 0
Matches C_ADDI4SPN half = Opens half 0 0 × (addi4spn_imm half ≢ 0)
Matches C_LW half = Opens half 0 2
Matches C_LD half = Opens half 0 3
Matches C_SW half = Opens half 0 6
Matches C_SD half = Opens half 0 7
Matches C_ADDI half = Opens half 1 0
Matches C_ADDIW half = Opens half 1 1 × (rd half ≢ 0)
Matches C_LI half = Opens half 1 2
Matches C_ADDI16SP half = Opens half 1 3 × (rd half ≡ 2) × (addi16sp_imm half ≢ 0)
Matches C_LUI half = Opens half 1 3 × (rd half ≢ 2) × (six_bits half ≢ 0)
Matches C_SRLI half = OpensArithmetic half 0
Matches C_SRAI half = OpensArithmetic half 1
Matches C_ANDI half = OpensArithmetic half 2
Matches C_SUB half = OpensPair half 0 0
Matches C_XOR half = OpensPair half 0 1
Matches C_OR half = OpensPair half 0 2
Matches C_AND half = OpensPair half 0 3
Matches C_SUBW half = OpensPair half 1 0
Matches C_ADDW half = OpensPair half 1 1
Matches C_J half = Opens half 1 5
Matches C_BEQZ half = Opens half 1 6
Matches C_BNEZ half = Opens half 1 7
Matches C_SLLI half = Opens half 2 0
Matches C_LWSP half = Opens half 2 2 × (rd half ≢ 0)
Matches C_LDSP half = Opens half 2 3 × (rd half ≢ 0)
Matches C_JR half = OpensJump half 0 × (rs2 half ≡ 0) × (rd half ≢ 0)
Matches C_MV half = OpensJump half 0 × (rs2 half ≢ 0)
Matches C_EBREAK half = OpensJump half 1 × (rs2 half ≡ 0) × (rd half ≡ 0)
Matches C_JALR half = OpensJump half 1 × (rs2 half ≡ 0) × (rd half ≢ 0)
Matches C_ADD half = OpensJump half 1 × (rs2 half ≢ 0)
Matches C_SWSP half = Opens half 2 6
Matches C_SDSP half = Opens half 2 7

-- The instruction that a halfword of the row expands to.
abbrev pub expansion : Row → ℕ → Inst
expansion C_ADDI4SPN half = Addi (lower_register half) 2 (pos (addi4spn_imm half))
expansion C_LW half = Lw (lower_register half) (upper_register half) (pos (word_offset half))
expansion C_LD half = Ld (lower_register half) (upper_register half) (pos (double_offset half))
expansion C_SW half = Sw (upper_register half) (lower_register half) (pos (word_offset half))
expansion C_SD half = Sd (upper_register half) (lower_register half) (pos (double_offset half))
expansion C_ADDI half = Addi (rd half) (rd half) (signed 5 (six_bits half))
expansion C_ADDIW half = Addiw (rd half) (rd half) (signed 5 (six_bits half))
expansion C_LI half = Addi (rd half) 0 (signed 5 (six_bits half))
expansion C_ADDI16SP half = Addi 2 2 (signed 9 (addi16sp_imm half))
expansion C_LUI half = Lui (rd half) (signed 5 (six_bits half))
expansion C_SRLI half = Srli (upper_register half) (upper_register half) (pos (six_bits half))
expansion C_SRAI half = Srai (upper_register half) (upper_register half) (pos (six_bits half))
expansion C_ANDI half = Andi (upper_register half) (upper_register half) (signed 5 (six_bits half))
expansion C_SUB half = Sub (upper_register half) (upper_register half) (lower_register half)
expansion C_XOR half = Xor (upper_register half) (upper_register half) (lower_register half)
expansion C_OR half = Or (upper_register half) (upper_register half) (lower_register half)
expansion C_AND half = And (upper_register half) (upper_register half) (lower_register half)
expansion C_SUBW half = Subw (upper_register half) (upper_register half) (lower_register half)
expansion C_ADDW half = Addw (upper_register half) (upper_register half) (lower_register half)
expansion C_J half = Jal 0 (signed 11 (jump_offset half))
expansion C_BEQZ half = Beq (upper_register half) 0 (signed 8 (branch_offset half))
expansion C_BNEZ half = Bne (upper_register half) 0 (signed 8 (branch_offset half))
expansion C_SLLI half = Slli (rd half) (rd half) (pos (six_bits half))
expansion C_LWSP half = Lw (rd half) 2 (pos (load_word_sp half))
expansion C_LDSP half = Ld (rd half) 2 (pos (load_double_sp half))
expansion C_JR half = Jalr 0 (rd half) (pos 0)
expansion C_MV half = Add (rd half) 0 (rs2 half)
expansion C_EBREAK half = Ebreak
expansion C_JALR half = Jalr 1 (rd half) (pos 0)
expansion C_ADD half = Add (rd half) (rd half) (rs2 half)
expansion C_SWSP half = Sw 2 (rs2 half) (pos (store_word_sp half))
expansion C_SDSP half = Sd 2 (rs2 half) (pos (store_double_sp half))

-- The halfword encodes the instruction.
abbrev pub IsHalf : ℕ → Inst → Type 0
IsHalf half inst = (row : Row) × Matches row half × (inst ≡ expansion row half)
