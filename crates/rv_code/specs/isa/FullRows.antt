-- Encodings of the four-byte instructions. ISA manual, chapter "RV32/64G Instruction Set Listings".
use Rattle.std.specs.Prelude.{◌≡◌, ℕ, ℤ, pos}
use Rattle.rv_code.specs.isa.Bits.{field, imm_b, imm_i, imm_j, imm_s, imm_u}
use Rattle.rv_code.specs.declared.inst.Inst.{Inst}
use Rattle.rv_code.specs.declared.inst.Inst.TheVariants.{Lui, Auipc, Jal, Jalr, Beq, Bne, Blt, Bge, Bltu, Bgeu, Lb, Lh}
use Rattle.rv_code.specs.declared.inst.Inst.TheVariants.{Lw, Ld, Lbu, Lhu, Lwu, Sb, Sh, Sw, Sd, Addi, Slti, Sltiu, Xori}
use Rattle.rv_code.specs.declared.inst.Inst.TheVariants.{Ori, Andi, Slli, Srli, Srai, Add, Sub, Sll, Slt, Sltu, Xor}
use Rattle.rv_code.specs.declared.inst.Inst.TheVariants.{Srl, Sra, Or, And, Fence, Ecall, Ebreak, Addiw, Slliw, Srliw}
use Rattle.rv_code.specs.declared.inst.Inst.TheVariants.{Sraiw, Addw, Subw, Sllw, Srlw, Sraw, Mul, Mulh, Mulhsu, Mulhu}
use Rattle.rv_code.specs.declared.inst.Inst.TheVariants.{Div, Divu, Rem, Remu, Mulw, Divw, Divuw, Remw, Remuw}

-- Formats: the fields of a word. ISA manual, section 2.2.

pub record FormatR (word opcode funct3 funct7 rd rs1 rs2 : ℕ) : Type 0 where
  pub opcode_is : field word 0 7 ≡ opcode
  pub funct3_is : field word 12 3 ≡ funct3
  pub funct7_is : field word 25 7 ≡ funct7
  pub rd_is : field word 7 5 ≡ rd
  pub rs1_is : field word 15 5 ≡ rs1
  pub rs2_is : field word 20 5 ≡ rs2

pub record FormatI (word opcode funct3 rd rs1 : ℕ) (imm : ℤ) : Type 0 where
  pub opcode_is : field word 0 7 ≡ opcode
  pub funct3_is : field word 12 3 ≡ funct3
  pub rd_is : field word 7 5 ≡ rd
  pub rs1_is : field word 15 5 ≡ rs1
  pub imm_is : imm_i word ≡ imm

-- Format I of a shift with a six-bit amount (section 4.2.1).
pub record Shift64 (word opcode funct3 funct6 rd rs1 : ℕ) (amount : ℤ) : Type 0 where
  pub opcode_is : field word 0 7 ≡ opcode
  pub funct3_is : field word 12 3 ≡ funct3
  pub funct6_is : field word 26 6 ≡ funct6
  pub rd_is : field word 7 5 ≡ rd
  pub rs1_is : field word 15 5 ≡ rs1
  pub amount_is : pos (field word 20 6) ≡ amount

-- Format I of a shift with a five-bit amount (section 4.2.1).
pub record Shift32 (word opcode funct3 funct7 rd rs1 : ℕ) (amount : ℤ) : Type 0 where
  pub opcode_is : field word 0 7 ≡ opcode
  pub funct3_is : field word 12 3 ≡ funct3
  pub funct7_is : field word 25 7 ≡ funct7
  pub rd_is : field word 7 5 ≡ rd
  pub rs1_is : field word 15 5 ≡ rs1
  pub amount_is : pos (field word 20 5) ≡ amount

pub record FormatS (word opcode funct3 rs1 rs2 : ℕ) (imm : ℤ) : Type 0 where
  pub opcode_is : field word 0 7 ≡ opcode
  pub funct3_is : field word 12 3 ≡ funct3
  pub rs1_is : field word 15 5 ≡ rs1
  pub rs2_is : field word 20 5 ≡ rs2
  pub imm_is : imm_s word ≡ imm

pub record FormatB (word opcode funct3 rs1 rs2 : ℕ) (imm : ℤ) : Type 0 where
  pub opcode_is : field word 0 7 ≡ opcode
  pub funct3_is : field word 12 3 ≡ funct3
  pub rs1_is : field word 15 5 ≡ rs1
  pub rs2_is : field word 20 5 ≡ rs2
  pub imm_is : imm_b word ≡ imm

pub record FormatU (word opcode rd : ℕ) (imm : ℤ) : Type 0 where
  pub opcode_is : field word 0 7 ≡ opcode
  pub rd_is : field word 7 5 ≡ rd
  pub imm_is : imm_u word ≡ imm

pub record FormatJ (word opcode rd : ℕ) (imm : ℤ) : Type 0 where
  pub opcode_is : field word 0 7 ≡ opcode
  pub rd_is : field word 7 5 ≡ rd
  pub imm_is : imm_j word ≡ imm

-- The four-byte word encodes the instruction.
abbrev pub IsFull : ℕ → Inst → Type 0
-- sections 2.4.1 and 4.2.1, upper immediates
IsFull word (Lui rd imm) = FormatU word 0x37 rd imm
IsFull word (Auipc rd imm) = FormatU word 0x17 rd imm
-- section 2.5, control transfer instructions
IsFull word (Jal rd imm) = FormatJ word 0x6f rd imm
IsFull word (Jalr rd rs1 imm) = FormatI word 0x67 0 rd rs1 imm
IsFull word (Beq rs1 rs2 imm) = FormatB word 0x63 0 rs1 rs2 imm
IsFull word (Bne rs1 rs2 imm) = FormatB word 0x63 1 rs1 rs2 imm
IsFull word (Blt rs1 rs2 imm) = FormatB word 0x63 4 rs1 rs2 imm
IsFull word (Bge rs1 rs2 imm) = FormatB word 0x63 5 rs1 rs2 imm
IsFull word (Bltu rs1 rs2 imm) = FormatB word 0x63 6 rs1 rs2 imm
IsFull word (Bgeu rs1 rs2 imm) = FormatB word 0x63 7 rs1 rs2 imm
-- sections 2.6 and 4.3, load and store instructions
IsFull word (Lb rd rs1 imm) = FormatI word 0x03 0 rd rs1 imm
IsFull word (Lh rd rs1 imm) = FormatI word 0x03 1 rd rs1 imm
IsFull word (Lw rd rs1 imm) = FormatI word 0x03 2 rd rs1 imm
IsFull word (Ld rd rs1 imm) = FormatI word 0x03 3 rd rs1 imm
IsFull word (Lbu rd rs1 imm) = FormatI word 0x03 4 rd rs1 imm
IsFull word (Lhu rd rs1 imm) = FormatI word 0x03 5 rd rs1 imm
IsFull word (Lwu rd rs1 imm) = FormatI word 0x03 6 rd rs1 imm
IsFull word (Sb rs1 rs2 imm) = FormatS word 0x23 0 rs1 rs2 imm
IsFull word (Sh rs1 rs2 imm) = FormatS word 0x23 1 rs1 rs2 imm
IsFull word (Sw rs1 rs2 imm) = FormatS word 0x23 2 rs1 rs2 imm
IsFull word (Sd rs1 rs2 imm) = FormatS word 0x23 3 rs1 rs2 imm
-- sections 2.4.1 and 4.2.1, integer register-immediate instructions
IsFull word (Addi rd rs1 imm) = FormatI word 0x13 0 rd rs1 imm
IsFull word (Slti rd rs1 imm) = FormatI word 0x13 2 rd rs1 imm
IsFull word (Sltiu rd rs1 imm) = FormatI word 0x13 3 rd rs1 imm
IsFull word (Xori rd rs1 imm) = FormatI word 0x13 4 rd rs1 imm
IsFull word (Ori rd rs1 imm) = FormatI word 0x13 6 rd rs1 imm
IsFull word (Andi rd rs1 imm) = FormatI word 0x13 7 rd rs1 imm
IsFull word (Slli rd rs1 imm) = Shift64 word 0x13 1 0x00 rd rs1 imm
IsFull word (Srli rd rs1 imm) = Shift64 word 0x13 5 0x00 rd rs1 imm
IsFull word (Srai rd rs1 imm) = Shift64 word 0x13 5 0x10 rd rs1 imm
-- section 2.4.2, integer register-register operations
IsFull word (Add rd rs1 rs2) = FormatR word 0x33 0 0x00 rd rs1 rs2
IsFull word (Sub rd rs1 rs2) = FormatR word 0x33 0 0x20 rd rs1 rs2
IsFull word (Sll rd rs1 rs2) = FormatR word 0x33 1 0x00 rd rs1 rs2
IsFull word (Slt rd rs1 rs2) = FormatR word 0x33 2 0x00 rd rs1 rs2
IsFull word (Sltu rd rs1 rs2) = FormatR word 0x33 3 0x00 rd rs1 rs2
IsFull word (Xor rd rs1 rs2) = FormatR word 0x33 4 0x00 rd rs1 rs2
IsFull word (Srl rd rs1 rs2) = FormatR word 0x33 5 0x00 rd rs1 rs2
IsFull word (Sra rd rs1 rs2) = FormatR word 0x33 5 0x20 rd rs1 rs2
IsFull word (Or rd rs1 rs2) = FormatR word 0x33 6 0x00 rd rs1 rs2
IsFull word (And rd rs1 rs2) = FormatR word 0x33 7 0x00 rd rs1 rs2
-- section 2.7, memory ordering instructions
IsFull word (Fence rd rs1 imm) = FormatI word 0x0f 0 rd rs1 imm
-- section 2.8, environment call and breakpoints
IsFull word Ecall = word ≡ 0x00000073
IsFull word Ebreak = word ≡ 0x00100073
-- section 4.2.1, register-immediate instructions on 32 bits
IsFull word (Addiw rd rs1 imm) = FormatI word 0x1b 0 rd rs1 imm
IsFull word (Slliw rd rs1 imm) = Shift32 word 0x1b 1 0x00 rd rs1 imm
IsFull word (Srliw rd rs1 imm) = Shift32 word 0x1b 5 0x00 rd rs1 imm
IsFull word (Sraiw rd rs1 imm) = Shift32 word 0x1b 5 0x20 rd rs1 imm
-- section 4.2.2, register-register operations on 32 bits
IsFull word (Addw rd rs1 rs2) = FormatR word 0x3b 0 0x00 rd rs1 rs2
IsFull word (Subw rd rs1 rs2) = FormatR word 0x3b 0 0x20 rd rs1 rs2
IsFull word (Sllw rd rs1 rs2) = FormatR word 0x3b 1 0x00 rd rs1 rs2
IsFull word (Srlw rd rs1 rs2) = FormatR word 0x3b 5 0x00 rd rs1 rs2
IsFull word (Sraw rd rs1 rs2) = FormatR word 0x3b 5 0x20 rd rs1 rs2
-- sections 13.1 and 13.2, multiplication and division
IsFull word (Mul rd rs1 rs2) = FormatR word 0x33 0 0x01 rd rs1 rs2
IsFull word (Mulh rd rs1 rs2) = FormatR word 0x33 1 0x01 rd rs1 rs2
IsFull word (Mulhsu rd rs1 rs2) = FormatR word 0x33 2 0x01 rd rs1 rs2
IsFull word (Mulhu rd rs1 rs2) = FormatR word 0x33 3 0x01 rd rs1 rs2
IsFull word (Div rd rs1 rs2) = FormatR word 0x33 4 0x01 rd rs1 rs2
IsFull word (Divu rd rs1 rs2) = FormatR word 0x33 5 0x01 rd rs1 rs2
IsFull word (Rem rd rs1 rs2) = FormatR word 0x33 6 0x01 rd rs1 rs2
IsFull word (Remu rd rs1 rs2) = FormatR word 0x33 7 0x01 rd rs1 rs2
IsFull word (Mulw rd rs1 rs2) = FormatR word 0x3b 0 0x01 rd rs1 rs2
IsFull word (Divw rd rs1 rs2) = FormatR word 0x3b 4 0x01 rd rs1 rs2
IsFull word (Divuw rd rs1 rs2) = FormatR word 0x3b 5 0x01 rd rs1 rs2
IsFull word (Remw rd rs1 rs2) = FormatR word 0x3b 6 0x01 rd rs1 rs2
IsFull word (Remuw rd rs1 rs2) = FormatR word 0x3b 7 0x01 rd rs1 rs2
