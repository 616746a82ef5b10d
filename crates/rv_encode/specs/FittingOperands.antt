-- Operands that an encoding can hold, for the instructions that a rewrite changes: those with a distance, and those
-- with a part of an address.
use Rattle.std.specs.Prelude.{◌≡◌, ℕ, ◌<◌, ◌≤◌, ◌^◌, ℤ}
use Rattle.rv_code.specs.isa.Reach.{IsWithin, Reaches}
use Rattle.rv_code.specs.declared.inst.Inst.{Inst}
use Rattle.rv_code.specs.declared.inst.Inst.TheVariants.{Lui, Auipc, Jal, Jalr, Beq, Bne, Blt, Bge, Bltu, Bgeu, Lb, Lh}
use Rattle.rv_code.specs.declared.inst.Inst.TheVariants.{Lw, Ld, Lbu, Lhu, Lwu, Sb, Sh, Sw, Sd, Addi}
use Rattle.rv_code.specs.declared.placed.Width.{Width}
use Rattle.rv_code.specs.declared.placed.Width.TheVariants as width

-- Two registers and a 12-bit immediate.
pub record FitsTwo (first second : ℕ) (imm : ℤ) : Type 0 where
  pub first_is_register : first < 32
  pub second_is_register : second < 32
  pub is_within : IsWithin (2 ^ 11) imm

-- One register and an immediate in bits 31:12.
pub record FitsUpper (rd : ℕ) (imm : ℤ) : Type 0 where
  pub is_register : rd < 32
  pub is_within : IsWithin (2 ^ 19) imm

-- A four-byte conditional branch.
pub record FitsBranch (rs1 rs2 : ℕ) (imm : ℤ) : Type 0 where
  pub rs1_is_register : rs1 < 32
  pub rs2_is_register : rs2 < 32
  pub reaches : Reaches (2 ^ 12) imm

-- A two-byte conditional branch.
pub record FitsHalfBranch (rs1 rs2 : ℕ) (imm : ℤ) : Type 0 where
  pub from_8 : 8 ≤ rs1
  pub to_15 : rs1 < 16
  pub with_zero : rs2 ≡ 0
  pub reaches : Reaches (2 ^ 8) imm

abbrev pub FitsFull : Inst → Type 0
FitsFull (Lui rd imm) = FitsUpper rd imm
FitsFull (Auipc rd imm) = FitsUpper rd imm
FitsFull (Jal rd imm) = (rd < 32) × Reaches (2 ^ 20) imm
FitsFull (Jalr rd rs1 imm) = FitsTwo rd rs1 imm
FitsFull (Beq rs1 rs2 imm) = FitsBranch rs1 rs2 imm
FitsFull (Bne rs1 rs2 imm) = FitsBranch rs1 rs2 imm
FitsFull (Blt rs1 rs2 imm) = FitsBranch rs1 rs2 imm
FitsFull (Bge rs1 rs2 imm) = FitsBranch rs1 rs2 imm
FitsFull (Bltu rs1 rs2 imm) = FitsBranch rs1 rs2 imm
FitsFull (Bgeu rs1 rs2 imm) = FitsBranch rs1 rs2 imm
FitsFull (Lb rd rs1 imm) = FitsTwo rd rs1 imm
FitsFull (Lh rd rs1 imm) = FitsTwo rd rs1 imm
FitsFull (Lw rd rs1 imm) = FitsTwo rd rs1 imm
FitsFull (Ld rd rs1 imm) = FitsTwo rd rs1 imm
FitsFull (Lbu rd rs1 imm) = FitsTwo rd rs1 imm
FitsFull (Lhu rd rs1 imm) = FitsTwo rd rs1 imm
FitsFull (Lwu rd rs1 imm) = FitsTwo rd rs1 imm
FitsFull (Sb rs1 rs2 imm) = FitsTwo rs1 rs2 imm
FitsFull (Sh rs1 rs2 imm) = FitsTwo rs1 rs2 imm
FitsFull (Sw rs1 rs2 imm) = FitsTwo rs1 rs2 imm
FitsFull (Sd rs1 rs2 imm) = FitsTwo rs1 rs2 imm
FitsFull (Addi rd rs1 imm) = FitsTwo rd rs1 imm
FitsFull _ = ⊥

abbrev pub FitsHalf : Inst → Type 0
FitsHalf (Jal rd imm) = (rd ≡ 0) × Reaches (2 ^ 11) imm
FitsHalf (Beq rs1 rs2 imm) = FitsHalfBranch rs1 rs2 imm
FitsHalf (Bne rs1 rs2 imm) = FitsHalfBranch rs1 rs2 imm
FitsHalf _ = ⊥

-- The instruction is one of these, and an encoding of the width can hold its operands.
abbrev pub Fits : Width → Inst → Type 0
Fits width.Full inst = FitsFull inst
Fits width.Half inst = FitsHalf inst
