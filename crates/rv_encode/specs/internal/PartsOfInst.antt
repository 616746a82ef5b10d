-- Instructions as a number, registers and an immediate.
use Rattle.std.specs.Prelude.{ℕ, ℤ, pos}
use Rattle.rv_code.specs.declared.inst.Inst.{Inst}
use Rattle.rv_code.specs.declared.inst.Inst.TheVariants.{Lui, Auipc, Jal, Jalr, Beq, Bne, Blt, Bge, Bltu, Bgeu, Lb, Lh}
use Rattle.rv_code.specs.declared.inst.Inst.TheVariants.{Lw, Ld, Lbu, Lhu, Lwu, Sb, Sh, Sw, Sd, Addi, Slti, Sltiu, Xori}
use Rattle.rv_code.specs.declared.inst.Inst.TheVariants.{Ori, Andi, Slli, Srli, Srai, Add, Sub, Sll, Slt, Sltu, Xor}
use Rattle.rv_code.specs.declared.inst.Inst.TheVariants.{Srl, Sra, Or, And, Mul, Mulh, Mulhsu, Mulhu, Div, Divu, Rem}
use Rattle.rv_code.specs.declared.inst.Inst.TheVariants.{Remu, Addiw, Slliw, Srliw, Sraiw, Addw, Subw, Sllw, Srlw, Sraw}
use Rattle.rv_code.specs.declared.inst.Inst.TheVariants.{Mulw, Divw, Divuw, Remw, Remuw, Fence, Ecall, Ebreak}
use Rattle.rv_encode.specs.declared.same.InstParts.{InstParts}

abbrev pub parts_with : ℕ → ℕ → ℕ → ℕ → ℤ → InstParts
parts_with number rd rs1 rs2 imm = record { number = number; rd = rd; rs1 = rs1; rs2 = rs2; imm = imm }

abbrev pub parts_of : Inst → InstParts
parts_of (Lui rd imm) = parts_with 0 rd 0 0 imm
parts_of (Auipc rd imm) = parts_with 1 rd 0 0 imm
parts_of (Jal rd imm) = parts_with 2 rd 0 0 imm
parts_of (Jalr rd rs1 imm) = parts_with 3 rd rs1 0 imm
parts_of (Beq rs1 rs2 imm) = parts_with 4 0 rs1 rs2 imm
parts_of (Bne rs1 rs2 imm) = parts_with 5 0 rs1 rs2 imm
parts_of (Blt rs1 rs2 imm) = parts_with 6 0 rs1 rs2 imm
parts_of (Bge rs1 rs2 imm) = parts_with 7 0 rs1 rs2 imm
parts_of (Bltu rs1 rs2 imm) = parts_with 8 0 rs1 rs2 imm
parts_of (Bgeu rs1 rs2 imm) = parts_with 9 0 rs1 rs2 imm
parts_of (Lb rd rs1 imm) = parts_with 10 rd rs1 0 imm
parts_of (Lh rd rs1 imm) = parts_with 11 rd rs1 0 imm
parts_of (Lw rd rs1 imm) = parts_with 12 rd rs1 0 imm
parts_of (Ld rd rs1 imm) = parts_with 13 rd rs1 0 imm
parts_of (Lbu rd rs1 imm) = parts_with 14 rd rs1 0 imm
parts_of (Lhu rd rs1 imm) = parts_with 15 rd rs1 0 imm
parts_of (Lwu rd rs1 imm) = parts_with 16 rd rs1 0 imm
parts_of (Sb rs1 rs2 imm) = parts_with 17 0 rs1 rs2 imm
parts_of (Sh rs1 rs2 imm) = parts_with 18 0 rs1 rs2 imm
parts_of (Sw rs1 rs2 imm) = parts_with 19 0 rs1 rs2 imm
parts_of (Sd rs1 rs2 imm) = parts_with 20 0 rs1 rs2 imm
parts_of (Addi rd rs1 imm) = parts_with 21 rd rs1 0 imm
parts_of (Slti rd rs1 imm) = parts_with 22 rd rs1 0 imm
parts_of (Sltiu rd rs1 imm) = parts_with 23 rd rs1 0 imm
parts_of (Xori rd rs1 imm) = parts_with 24 rd rs1 0 imm
parts_of (Ori rd rs1 imm) = parts_with 25 rd rs1 0 imm
parts_of (Andi rd rs1 imm) = parts_with 26 rd rs1 0 imm
parts_of (Slli rd rs1 imm) = parts_with 27 rd rs1 0 imm
parts_of (Srli rd rs1 imm) = parts_with 28 rd rs1 0 imm
parts_of (Srai rd rs1 imm) = parts_with 29 rd rs1 0 imm
parts_of (Add rd rs1 rs2) = parts_with 30 rd rs1 rs2 (pos 0)
parts_of (Sub rd rs1 rs2) = parts_with 31 rd rs1 rs2 (pos 0)
parts_of (Sll rd rs1 rs2) = parts_with 32 rd rs1 rs2 (pos 0)
parts_of (Slt rd rs1 rs2) = parts_with 33 rd rs1 rs2 (pos 0)
parts_of (Sltu rd rs1 rs2) = parts_with 34 rd rs1 rs2 (pos 0)
parts_of (Xor rd rs1 rs2) = parts_with 35 rd rs1 rs2 (pos 0)
parts_of (Srl rd rs1 rs2) = parts_with 36 rd rs1 rs2 (pos 0)
parts_of (Sra rd rs1 rs2) = parts_with 37 rd rs1 rs2 (pos 0)
parts_of (Or rd rs1 rs2) = parts_with 38 rd rs1 rs2 (pos 0)
parts_of (And rd rs1 rs2) = parts_with 39 rd rs1 rs2 (pos 0)
parts_of (Mul rd rs1 rs2) = parts_with 40 rd rs1 rs2 (pos 0)
parts_of (Mulh rd rs1 rs2) = parts_with 41 rd rs1 rs2 (pos 0)
parts_of (Mulhsu rd rs1 rs2) = parts_with 42 rd rs1 rs2 (pos 0)
parts_of (Mulhu rd rs1 rs2) = parts_with 43 rd rs1 rs2 (pos 0)
parts_of (Div rd rs1 rs2) = parts_with 44 rd rs1 rs2 (pos 0)
parts_of (Divu rd rs1 rs2) = parts_with 45 rd rs1 rs2 (pos 0)
parts_of (Rem rd rs1 rs2) = parts_with 46 rd rs1 rs2 (pos 0)
parts_of (Remu rd rs1 rs2) = parts_with 47 rd rs1 rs2 (pos 0)
parts_of (Addiw rd rs1 imm) = parts_with 48 rd rs1 0 imm
parts_of (Slliw rd rs1 imm) = parts_with 49 rd rs1 0 imm
parts_of (Srliw rd rs1 imm) = parts_with 50 rd rs1 0 imm
parts_of (Sraiw rd rs1 imm) = parts_with 51 rd rs1 0 imm
parts_of (Addw rd rs1 rs2) = parts_with 52 rd rs1 rs2 (pos 0)
parts_of (Subw rd rs1 rs2) = parts_with 53 rd rs1 rs2 (pos 0)
parts_of (Sllw rd rs1 rs2) = parts_with 54 rd rs1 rs2 (pos 0)
parts_of (Srlw rd rs1 rs2) = parts_with 55 rd rs1 rs2 (pos 0)
parts_of (Sraw rd rs1 rs2) = parts_with 56 rd rs1 rs2 (pos 0)
parts_of (Mulw rd rs1 rs2) = parts_with 57 rd rs1 rs2 (pos 0)
parts_of (Divw rd rs1 rs2) = parts_with 58 rd rs1 rs2 (pos 0)
parts_of (Divuw rd rs1 rs2) = parts_with 59 rd rs1 rs2 (pos 0)
parts_of (Remw rd rs1 rs2) = parts_with 60 rd rs1 rs2 (pos 0)
parts_of (Remuw rd rs1 rs2) = parts_with 61 rd rs1 rs2 (pos 0)
parts_of (Fence rd rs1 imm) = parts_with 62 rd rs1 0 imm
parts_of Ecall = parts_with 63 0 0 0 (pos 0)
parts_of Ebreak = parts_with 64 0 0 0 (pos 0)
