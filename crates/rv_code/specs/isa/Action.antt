-- What each instruction does, as one of eleven actions. ISA manual, chapters 2, 4 and 13.
use Rattle.std.specs.Prelude.{true, false}
use Rattle.rv_code.specs.declared.inst.Inst.{Inst}
use Rattle.rv_code.specs.declared.inst.Inst.TheVariants.{Lui, Auipc, Jal, Jalr, Beq, Bne, Blt, Bge, Bltu, Bgeu, Lb, Lh}
use Rattle.rv_code.specs.declared.inst.Inst.TheVariants.{Lw, Ld, Lbu, Lhu, Lwu, Sb, Sh, Sw, Sd, Addi, Slti, Sltiu, Xori}
use Rattle.rv_code.specs.declared.inst.Inst.TheVariants.{Ori, Andi, Slli, Srli, Srai, Add, Sub, Sll, Slt, Sltu, Xor}
use Rattle.rv_code.specs.declared.inst.Inst.TheVariants.{Srl, Sra, Or, And, Mul, Mulh, Mulhsu, Mulhu, Div, Divu, Rem}
use Rattle.rv_code.specs.declared.inst.Inst.TheVariants.{Remu, Addiw, Slliw, Srliw, Sraiw, Addw, Subw, Sllw, Srlw, Sraw}
use Rattle.rv_code.specs.declared.inst.Inst.TheVariants.{Mulw, Divw, Divuw, Remw, Remuw, Fence, Ecall, Ebreak}
use Rattle.rv_code.specs.declared.op.Op.TheVariants as op
use Rattle.rv_code.specs.declared.action.Operand.TheVariants.{Register, Immediate}
use Rattle.rv_code.specs.declared.action.Test.TheVariants.{Equal, LessSigned, LessUnsigned}
use Rattle.rv_code.specs.declared.action.Extension.TheVariants.{Signed8, Signed16, Signed32, Whole64, Zero8, Zero16}
use Rattle.rv_code.specs.declared.action.Extension.TheVariants.{Zero32}
use Rattle.rv_code.specs.declared.action.Action.{Action}
use Rattle.rv_code.specs.declared.action.Action.TheVariants.{Compute, Branch, Jump, JumpTo, Upper, UpperPc, Load, Store}
use Rattle.rv_code.specs.declared.action.Action.TheVariants.{SystemCall, Breakpoint}
use Rattle.rv_code.specs.declared.action.Action.TheVariants as action

abbrev pub action_of : Inst → Action
-- 2.4 and 4.2: constants
action_of (Lui rd imm) = Upper rd imm
action_of (Auipc rd imm) = UpperPc rd imm
-- 2.5: jumps
action_of (Jal rd imm) = Jump rd imm
action_of (Jalr rd rs1 imm) = JumpTo rd rs1 imm
-- 2.5: conditional branches
action_of (Beq rs1 rs2 imm) = Branch Equal true rs1 rs2 imm
action_of (Bne rs1 rs2 imm) = Branch Equal false rs1 rs2 imm
action_of (Blt rs1 rs2 imm) = Branch LessSigned true rs1 rs2 imm
action_of (Bge rs1 rs2 imm) = Branch LessSigned false rs1 rs2 imm
action_of (Bltu rs1 rs2 imm) = Branch LessUnsigned true rs1 rs2 imm
action_of (Bgeu rs1 rs2 imm) = Branch LessUnsigned false rs1 rs2 imm
-- 2.6 and 4.3: loads and stores
action_of (Lb rd rs1 imm) = Load Signed8 rd rs1 imm
action_of (Lh rd rs1 imm) = Load Signed16 rd rs1 imm
action_of (Lw rd rs1 imm) = Load Signed32 rd rs1 imm
action_of (Ld rd rs1 imm) = Load Whole64 rd rs1 imm
action_of (Lbu rd rs1 imm) = Load Zero8 rd rs1 imm
action_of (Lhu rd rs1 imm) = Load Zero16 rd rs1 imm
action_of (Lwu rd rs1 imm) = Load Zero32 rd rs1 imm
action_of (Sb rs1 rs2 imm) = Store 1 rs1 rs2 imm
action_of (Sh rs1 rs2 imm) = Store 2 rs1 rs2 imm
action_of (Sw rs1 rs2 imm) = Store 4 rs1 rs2 imm
action_of (Sd rs1 rs2 imm) = Store 8 rs1 rs2 imm
-- 2.4 and 4.2: operations with an immediate
action_of (Addi rd rs1 imm) = Compute op.Add rd (Register rs1) (Immediate imm)
action_of (Slti rd rs1 imm) = Compute op.Slt rd (Register rs1) (Immediate imm)
action_of (Sltiu rd rs1 imm) = Compute op.Sltu rd (Register rs1) (Immediate imm)
action_of (Xori rd rs1 imm) = Compute op.Xor rd (Register rs1) (Immediate imm)
action_of (Ori rd rs1 imm) = Compute op.Or rd (Register rs1) (Immediate imm)
action_of (Andi rd rs1 imm) = Compute op.And rd (Register rs1) (Immediate imm)
action_of (Slli rd rs1 imm) = Compute op.Sll rd (Register rs1) (Immediate imm)
action_of (Srli rd rs1 imm) = Compute op.Srl rd (Register rs1) (Immediate imm)
action_of (Srai rd rs1 imm) = Compute op.Sra rd (Register rs1) (Immediate imm)
action_of (Addiw rd rs1 imm) = Compute op.Addw rd (Register rs1) (Immediate imm)
action_of (Slliw rd rs1 imm) = Compute op.Sllw rd (Register rs1) (Immediate imm)
action_of (Srliw rd rs1 imm) = Compute op.Srlw rd (Register rs1) (Immediate imm)
action_of (Sraiw rd rs1 imm) = Compute op.Sraw rd (Register rs1) (Immediate imm)
-- 2.4 and 4.2: operations on two registers
action_of (Add rd rs1 rs2) = Compute op.Add rd (Register rs1) (Register rs2)
action_of (Sub rd rs1 rs2) = Compute op.Sub rd (Register rs1) (Register rs2)
action_of (Sll rd rs1 rs2) = Compute op.Sll rd (Register rs1) (Register rs2)
action_of (Slt rd rs1 rs2) = Compute op.Slt rd (Register rs1) (Register rs2)
action_of (Sltu rd rs1 rs2) = Compute op.Sltu rd (Register rs1) (Register rs2)
action_of (Xor rd rs1 rs2) = Compute op.Xor rd (Register rs1) (Register rs2)
action_of (Srl rd rs1 rs2) = Compute op.Srl rd (Register rs1) (Register rs2)
action_of (Sra rd rs1 rs2) = Compute op.Sra rd (Register rs1) (Register rs2)
action_of (Or rd rs1 rs2) = Compute op.Or rd (Register rs1) (Register rs2)
action_of (And rd rs1 rs2) = Compute op.And rd (Register rs1) (Register rs2)
action_of (Addw rd rs1 rs2) = Compute op.Addw rd (Register rs1) (Register rs2)
action_of (Subw rd rs1 rs2) = Compute op.Subw rd (Register rs1) (Register rs2)
action_of (Sllw rd rs1 rs2) = Compute op.Sllw rd (Register rs1) (Register rs2)
action_of (Srlw rd rs1 rs2) = Compute op.Srlw rd (Register rs1) (Register rs2)
action_of (Sraw rd rs1 rs2) = Compute op.Sraw rd (Register rs1) (Register rs2)
-- 13.1 and 13.2: multiplication and division
action_of (Mul rd rs1 rs2) = Compute op.Mul rd (Register rs1) (Register rs2)
action_of (Mulh rd rs1 rs2) = Compute op.Mulh rd (Register rs1) (Register rs2)
action_of (Mulhsu rd rs1 rs2) = Compute op.Mulhsu rd (Register rs1) (Register rs2)
action_of (Mulhu rd rs1 rs2) = Compute op.Mulhu rd (Register rs1) (Register rs2)
action_of (Div rd rs1 rs2) = Compute op.Div rd (Register rs1) (Register rs2)
action_of (Divu rd rs1 rs2) = Compute op.Divu rd (Register rs1) (Register rs2)
action_of (Rem rd rs1 rs2) = Compute op.Rem rd (Register rs1) (Register rs2)
action_of (Remu rd rs1 rs2) = Compute op.Remu rd (Register rs1) (Register rs2)
action_of (Mulw rd rs1 rs2) = Compute op.Mulw rd (Register rs1) (Register rs2)
action_of (Divw rd rs1 rs2) = Compute op.Divw rd (Register rs1) (Register rs2)
action_of (Divuw rd rs1 rs2) = Compute op.Divuw rd (Register rs1) (Register rs2)
action_of (Remw rd rs1 rs2) = Compute op.Remw rd (Register rs1) (Register rs2)
action_of (Remuw rd rs1 rs2) = Compute op.Remuw rd (Register rs1) (Register rs2)
-- 2.7 and 2.8: ordering, and the environment
action_of (Fence rd rs1 imm) = action.Fence
action_of Ecall = SystemCall
action_of Ebreak = Breakpoint
