-- Decoded instructions name registers below 32.
use Rattle.std.proofs.Common.{◌≡◌, ℕ, ◌+◌, ◌*◌, ◌^◌, ◌<◌, Option, Some, None, sym, subst, arith, inl, inr}
use Rattle.rv_code.specs.isa.Bits.{field}
use Rattle.rv_code.specs.isa.FullRows.{IsFull}
use Rattle.rv_code.specs.isa.HalfRows.{Row, expansion, C_ADDI4SPN, C_LW, C_LD, C_SW, C_SD, C_ADDI, C_ADDIW, C_LI, C_ADDI16SP}
use Rattle.rv_code.specs.isa.HalfRows.{C_LUI, C_SRLI, C_SRAI, C_ANDI, C_SUB, C_XOR, C_OR, C_AND, C_SUBW, C_ADDW, C_J, C_BEQZ}
use Rattle.rv_code.specs.isa.HalfRows.{C_BNEZ, C_SLLI, C_LWSP, C_LDSP, C_JR, C_MV, C_EBREAK, C_JALR, C_ADD, C_SWSP, C_SDSP}
use Rattle.rv_code.specs.isa.InstBytes.{Decodes}
use Rattle.rv_code.specs.isa.Action.{action_of}
use Rattle.rv_code.specs.declared.inst.Inst.{Inst}
use Rattle.rv_code.specs.declared.inst.Inst.TheVariants.{Lui, Auipc, Jal, Jalr, Lb, Lh, Lw, Ld, Lbu, Lhu, Lwu, Addi, Slti, Sltiu, Xori, Ori}
use Rattle.rv_code.specs.declared.inst.Inst.TheVariants.{Andi, Slli, Srli, Srai, Add, Sub, Sll, Slt, Sltu, Xor, Srl, Sra, Or, And, Addiw}
use Rattle.rv_code.specs.declared.inst.Inst.TheVariants.{Slliw, Srliw, Sraiw, Addw, Subw, Sllw, Srlw, Sraw, Mul, Mulh, Mulhsu, Mulhu, Div}
use Rattle.rv_code.specs.declared.inst.Inst.TheVariants.{Divu, Rem, Remu, Mulw, Divw, Divuw, Remw, Remuw, Sb, Sh, Sw, Sd, Beq, Bne, Blt}
use Rattle.rv_code.specs.declared.inst.Inst.TheVariants.{Bge, Bltu, Bgeu, Fence, Ecall, Ebreak}
use Rattle.rv_machine.specs.State.{HasRegisters}

register : (word rd : ℕ) → field word 7 5 ≡ rd → rd < 32
register word rd e = omega (arith, e)

has_registers_full : (word : ℕ) (i : Inst) → IsFull word i → HasRegisters (action_of i)
has_registers_full word (Lui rd imm) row = register word rd row.rd_is
has_registers_full word (Auipc rd imm) row = register word rd row.rd_is
has_registers_full word (Jal rd imm) row = register word rd row.rd_is
has_registers_full word (Jalr rd rs1 x) row = register word rd row.rd_is
has_registers_full word (Lb rd rs1 x) row = register word rd row.rd_is
has_registers_full word (Lh rd rs1 x) row = register word rd row.rd_is
has_registers_full word (Lw rd rs1 x) row = register word rd row.rd_is
has_registers_full word (Ld rd rs1 x) row = register word rd row.rd_is
has_registers_full word (Lbu rd rs1 x) row = register word rd row.rd_is
has_registers_full word (Lhu rd rs1 x) row = register word rd row.rd_is
has_registers_full word (Lwu rd rs1 x) row = register word rd row.rd_is
has_registers_full word (Addi rd rs1 x) row = register word rd row.rd_is
has_registers_full word (Slti rd rs1 x) row = register word rd row.rd_is
has_registers_full word (Sltiu rd rs1 x) row = register word rd row.rd_is
has_registers_full word (Xori rd rs1 x) row = register word rd row.rd_is
has_registers_full word (Ori rd rs1 x) row = register word rd row.rd_is
has_registers_full word (Andi rd rs1 x) row = register word rd row.rd_is
has_registers_full word (Slli rd rs1 x) row = register word rd row.rd_is
has_registers_full word (Srli rd rs1 x) row = register word rd row.rd_is
has_registers_full word (Srai rd rs1 x) row = register word rd row.rd_is
has_registers_full word (Add rd rs1 x) row = register word rd row.rd_is
has_registers_full word (Sub rd rs1 x) row = register word rd row.rd_is
has_registers_full word (Sll rd rs1 x) row = register word rd row.rd_is
has_registers_full word (Slt rd rs1 x) row = register word rd row.rd_is
has_registers_full word (Sltu rd rs1 x) row = register word rd row.rd_is
has_registers_full word (Xor rd rs1 x) row = register word rd row.rd_is
has_registers_full word (Srl rd rs1 x) row = register word rd row.rd_is
has_registers_full word (Sra rd rs1 x) row = register word rd row.rd_is
has_registers_full word (Or rd rs1 x) row = register word rd row.rd_is
has_registers_full word (And rd rs1 x) row = register word rd row.rd_is
has_registers_full word (Addiw rd rs1 x) row = register word rd row.rd_is
has_registers_full word (Slliw rd rs1 x) row = register word rd row.rd_is
has_registers_full word (Srliw rd rs1 x) row = register word rd row.rd_is
has_registers_full word (Sraiw rd rs1 x) row = register word rd row.rd_is
has_registers_full word (Addw rd rs1 x) row = register word rd row.rd_is
has_registers_full word (Subw rd rs1 x) row = register word rd row.rd_is
has_registers_full word (Sllw rd rs1 x) row = register word rd row.rd_is
has_registers_full word (Srlw rd rs1 x) row = register word rd row.rd_is
has_registers_full word (Sraw rd rs1 x) row = register word rd row.rd_is
has_registers_full word (Mul rd rs1 x) row = register word rd row.rd_is
has_registers_full word (Mulh rd rs1 x) row = register word rd row.rd_is
has_registers_full word (Mulhsu rd rs1 x) row = register word rd row.rd_is
has_registers_full word (Mulhu rd rs1 x) row = register word rd row.rd_is
has_registers_full word (Div rd rs1 x) row = register word rd row.rd_is
has_registers_full word (Divu rd rs1 x) row = register word rd row.rd_is
has_registers_full word (Rem rd rs1 x) row = register word rd row.rd_is
has_registers_full word (Remu rd rs1 x) row = register word rd row.rd_is
has_registers_full word (Mulw rd rs1 x) row = register word rd row.rd_is
has_registers_full word (Divw rd rs1 x) row = register word rd row.rd_is
has_registers_full word (Divuw rd rs1 x) row = register word rd row.rd_is
has_registers_full word (Remw rd rs1 x) row = register word rd row.rd_is
has_registers_full word (Remuw rd rs1 x) row = register word rd row.rd_is
has_registers_full word (Sb rs1 rs2 imm) row = omega arith
has_registers_full word (Sh rs1 rs2 imm) row = omega arith
has_registers_full word (Sw rs1 rs2 imm) row = omega arith
has_registers_full word (Sd rs1 rs2 imm) row = omega arith
has_registers_full word (Beq rs1 rs2 imm) row = tt
has_registers_full word (Bne rs1 rs2 imm) row = tt
has_registers_full word (Blt rs1 rs2 imm) row = tt
has_registers_full word (Bge rs1 rs2 imm) row = tt
has_registers_full word (Bltu rs1 rs2 imm) row = tt
has_registers_full word (Bgeu rs1 rs2 imm) row = tt
has_registers_full word (Fence rd rs1 imm) row = tt
has_registers_full word Ecall row = tt
has_registers_full word Ebreak row = tt

has_registers_half : (row : Row) (half : ℕ) → HasRegisters (action_of (expansion row half))
has_registers_half C_ADDI4SPN half = omega arith
has_registers_half C_LW half = omega arith
has_registers_half C_LD half = omega arith
has_registers_half C_SW half = omega arith
has_registers_half C_SD half = omega arith
has_registers_half C_ADDI half = omega arith
has_registers_half C_ADDIW half = omega arith
has_registers_half C_LI half = omega arith
has_registers_half C_ADDI16SP half = omega arith
has_registers_half C_LUI half = omega arith
has_registers_half C_SRLI half = omega arith
has_registers_half C_SRAI half = omega arith
has_registers_half C_ANDI half = omega arith
has_registers_half C_SUB half = omega arith
has_registers_half C_XOR half = omega arith
has_registers_half C_OR half = omega arith
has_registers_half C_AND half = omega arith
has_registers_half C_SUBW half = omega arith
has_registers_half C_ADDW half = omega arith
has_registers_half C_J half = omega arith
has_registers_half C_BEQZ half = tt
has_registers_half C_BNEZ half = tt
has_registers_half C_SLLI half = omega arith
has_registers_half C_LWSP half = omega arith
has_registers_half C_LDSP half = omega arith
has_registers_half C_JR half = omega arith
has_registers_half C_MV half = omega arith
has_registers_half C_EBREAK half = tt
has_registers_half C_JALR half = omega arith
has_registers_half C_ADD half = omega arith
has_registers_half C_SWSP half = omega arith
has_registers_half C_SDSP half = omega arith

pub has_registers : (half : ℕ) (next : Option ℕ) (i : Inst) (bytes : ℕ) → Decodes half next i bytes → HasRegisters (action_of i)
has_registers half next i bytes (inl d) = subst (λ j. HasRegisters (action_of j)) (sym d.row.2) (has_registers_half d.row.0 half)
has_registers half None i bytes (inr d) = absurd d.row
has_registers half (Some upper) i bytes (inr d) = has_registers_full (upper * 2 ^ 16 + half) i d.row
