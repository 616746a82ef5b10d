-- The halfwords that encode each instruction. There is one case for each instruction; `IsHalf` has one for each row.
use Rattle.std.specs.Prelude.{◌≡◌, ◌⊎◌, ℕ, ℤ, pos}
use Rattle.rv_code.specs.isa.Bits.{signed}
use Rattle.rv_code.specs.isa.HalfRows.{Row, Matches, expansion, Opens, OpensArithmetic, OpensPair, OpensJump, rd, rs2}
use Rattle.rv_code.specs.isa.HalfRows.{six_bits, upper_register, lower_register, word_offset, double_offset}
use Rattle.rv_code.specs.isa.HalfRows.{branch_offset, C_ADDI4SPN, C_ADDI, C_ADDIW, C_LI, C_ADDI16SP, C_LUI, C_SRLI}
use Rattle.rv_code.specs.isa.HalfRows.{C_SRAI, C_ANDI, C_J, C_SLLI, C_LWSP, C_LDSP, C_JR, C_MV, C_EBREAK, C_JALR, C_ADD}
use Rattle.rv_code.specs.isa.HalfRows.{C_SWSP, C_SDSP}
use Rattle.rv_code.specs.declared.inst.Inst.{Inst}
use Rattle.rv_code.specs.declared.inst.Inst.TheVariants.{Lui, Jal, Jalr, Beq, Bne, Lw, Ld, Sw, Sd, Addi, Andi, Slli}
use Rattle.rv_code.specs.declared.inst.Inst.TheVariants.{Srli, Srai, Add, Sub, Xor, Or, And, Addiw, Addw, Subw, Ebreak}

-- The halfword belongs to the row, and the row expands it to this instruction.
pub record IsRowOf (row : Row) (half : ℕ) (inst : Inst) : Type 0 where
  pub matches : Matches row half
  pub expands : inst ≡ expansion row half

-- Fields that several rows share. ISA manual, section 26.2.

-- A register and a six-bit number.
pub record HasSixBits (half quadrant funct3 register number : ℕ) : Type 0 where
  pub opens : Opens half quadrant funct3
  pub register_is : rd half ≡ register
  pub number_is : six_bits half ≡ number

-- Arithmetic on a register from 8 to 15 and a six-bit number.
pub record HasArithmetic (half kind register number : ℕ) : Type 0 where
  pub opens : OpensArithmetic half kind
  pub register_is : upper_register half ≡ register
  pub number_is : six_bits half ≡ number

-- Two registers.
pub record HasRegisters (half bit12 first second : ℕ) : Type 0 where
  pub opens : OpensJump half bit12
  pub first_is : rd half ≡ first
  pub second_is : rs2 half ≡ second

-- Rows that only differ in their opcodes.

-- Arithmetic on two registers from 8 to 15.
pub record IsPairOf (half bit12 funct2 rd rs1 rs2 : ℕ) : Type 0 where
  pub opens : OpensPair half bit12 funct2
  pub rd_is : upper_register half ≡ rd
  pub rs1_is : upper_register half ≡ rs1
  pub rs2_is : lower_register half ≡ rs2

-- A load or store of a word, relative to a register from 8 to 15.
pub record AccessesWord (half funct3 register base : ℕ) (offset : ℤ) : Type 0 where
  pub opens : Opens half 0 funct3
  pub register_is : lower_register half ≡ register
  pub base_is : upper_register half ≡ base
  pub offset_is : pos (word_offset half) ≡ offset

-- A load or store of a doubleword, relative to a register from 8 to 15.
pub record AccessesDouble (half funct3 register base : ℕ) (offset : ℤ) : Type 0 where
  pub opens : Opens half 0 funct3
  pub register_is : lower_register half ≡ register
  pub base_is : upper_register half ≡ base
  pub offset_is : pos (double_offset half) ≡ offset

-- A branch that compares a register from 8 to 15 with zero.
pub record ComparesWithZero (half funct3 rs1 rs2 : ℕ) (imm : ℤ) : Type 0 where
  pub opens : Opens half 1 funct3
  pub rs1_is : upper_register half ≡ rs1
  pub rs2_is : 0 ≡ rs2
  pub imm_is : signed 8 (branch_offset half) ≡ imm

-- The halfword encodes the instruction.
abbrev pub HasForm : ℕ → Inst → Type 0
HasForm half (Lui rd imm) = IsRowOf C_LUI half (Lui rd imm)
HasForm half (Jal rd imm) = IsRowOf C_J half (Jal rd imm)
HasForm half (Jalr rd rs1 imm) = IsRowOf C_JR half (Jalr rd rs1 imm) ⊎ IsRowOf C_JALR half (Jalr rd rs1 imm)
HasForm half (Beq rs1 rs2 imm) = ComparesWithZero half 6 rs1 rs2 imm
HasForm half (Bne rs1 rs2 imm) = ComparesWithZero half 7 rs1 rs2 imm
HasForm half (Lw rd rs1 imm) = AccessesWord half 2 rd rs1 imm ⊎ IsRowOf C_LWSP half (Lw rd rs1 imm)
HasForm half (Ld rd rs1 imm) = AccessesDouble half 3 rd rs1 imm ⊎ IsRowOf C_LDSP half (Ld rd rs1 imm)
HasForm half (Sw rs1 rs2 imm) = AccessesWord half 6 rs2 rs1 imm ⊎ IsRowOf C_SWSP half (Sw rs1 rs2 imm)
HasForm half (Sd rs1 rs2 imm) = AccessesDouble half 7 rs2 rs1 imm ⊎ IsRowOf C_SDSP half (Sd rs1 rs2 imm)
HasForm half (Addi rd rs1 imm) =
    ((IsRowOf C_ADDI half (Addi rd rs1 imm) ⊎ IsRowOf C_LI half (Addi rd rs1 imm))
    ⊎ IsRowOf C_ADDI16SP half (Addi rd rs1 imm)) ⊎
    IsRowOf C_ADDI4SPN half (Addi rd rs1 imm)
HasForm half (Andi rd rs1 imm) = IsRowOf C_ANDI half (Andi rd rs1 imm)
HasForm half (Slli rd rs1 imm) = IsRowOf C_SLLI half (Slli rd rs1 imm)
HasForm half (Srli rd rs1 imm) = IsRowOf C_SRLI half (Srli rd rs1 imm)
HasForm half (Srai rd rs1 imm) = IsRowOf C_SRAI half (Srai rd rs1 imm)
HasForm half (Add rd rs1 rs2) = IsRowOf C_MV half (Add rd rs1 rs2) ⊎ IsRowOf C_ADD half (Add rd rs1 rs2)
HasForm half (Sub rd rs1 rs2) = IsPairOf half 0 0 rd rs1 rs2
HasForm half (Xor rd rs1 rs2) = IsPairOf half 0 1 rd rs1 rs2
HasForm half (Or rd rs1 rs2) = IsPairOf half 0 2 rd rs1 rs2
HasForm half (And rd rs1 rs2) = IsPairOf half 0 3 rd rs1 rs2
HasForm half (Addiw rd rs1 imm) = IsRowOf C_ADDIW half (Addiw rd rs1 imm)
HasForm half (Addw rd rs1 rs2) = IsPairOf half 1 1 rd rs1 rs2
HasForm half (Subw rd rs1 rs2) = IsPairOf half 1 0 rd rs1 rs2
HasForm half Ebreak = IsRowOf C_EBREAK half Ebreak
HasForm half _ = ⊥
