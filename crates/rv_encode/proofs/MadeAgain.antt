-- An instruction is determined by its parts.
use Rattle.std.proofs.Common.{◌≡◌, refl, sym, ap, ◌∙◌, if◌then◌else◌}
use Rattle.std.specs.Prelude.{◌==◌, nat_lt}
use Rattle.rv_code.specs.declared.inst.Inst.{Inst}
use Rattle.rv_code.specs.declared.inst.Inst.TheVariants.{Lui, Auipc, Jal, Jalr, Beq, Bne, Blt, Bge, Bltu, Bgeu, Lb, Lh, Lw, Ld, Lbu}
use Rattle.rv_code.specs.declared.inst.Inst.TheVariants.{Lhu, Lwu, Sb, Sh, Sw, Sd, Addi, Slti, Sltiu, Xori, Ori, Andi, Slli, Srli}
use Rattle.rv_code.specs.declared.inst.Inst.TheVariants.{Srai, Add, Sub, Sll, Slt, Sltu, Xor, Srl, Sra, Or, And, Mul, Mulh, Mulhsu}
use Rattle.rv_code.specs.declared.inst.Inst.TheVariants.{Mulhu, Div, Divu, Rem, Remu, Addiw, Slliw, Srliw, Sraiw, Addw, Subw, Sllw}
use Rattle.rv_code.specs.declared.inst.Inst.TheVariants.{Srlw, Sraw, Mulw, Divw, Divuw, Remw, Remuw, Fence, Ecall, Ebreak}
use Rattle.rv_encode.specs.declared.same.InstParts.{InstParts}
use Rattle.rv_encode.specs.internal.PartsOfInst.{parts_of}

abbrev made_0 : InstParts → Inst
made_0 p =
    if p.number == 0 then Lui p.rd p.imm else
    if p.number == 1 then Auipc p.rd p.imm else
    if p.number == 2 then Jal p.rd p.imm else
    if p.number == 3 then Jalr p.rd p.rs1 p.imm else
    if p.number == 4 then Beq p.rs1 p.rs2 p.imm else
    if p.number == 5 then Bne p.rs1 p.rs2 p.imm else
    if p.number == 6 then Blt p.rs1 p.rs2 p.imm else
    if p.number == 7 then Bge p.rs1 p.rs2 p.imm else
    Bltu p.rs1 p.rs2 p.imm

abbrev made_1 : InstParts → Inst
made_1 p =
    if p.number == 9 then Bgeu p.rs1 p.rs2 p.imm else
    if p.number == 10 then Lb p.rd p.rs1 p.imm else
    if p.number == 11 then Lh p.rd p.rs1 p.imm else
    if p.number == 12 then Lw p.rd p.rs1 p.imm else
    if p.number == 13 then Ld p.rd p.rs1 p.imm else
    if p.number == 14 then Lbu p.rd p.rs1 p.imm else
    if p.number == 15 then Lhu p.rd p.rs1 p.imm else
    if p.number == 16 then Lwu p.rd p.rs1 p.imm else
    Sb p.rs1 p.rs2 p.imm

abbrev made_2 : InstParts → Inst
made_2 p =
    if p.number == 18 then Sh p.rs1 p.rs2 p.imm else
    if p.number == 19 then Sw p.rs1 p.rs2 p.imm else
    if p.number == 20 then Sd p.rs1 p.rs2 p.imm else
    if p.number == 21 then Addi p.rd p.rs1 p.imm else
    if p.number == 22 then Slti p.rd p.rs1 p.imm else
    if p.number == 23 then Sltiu p.rd p.rs1 p.imm else
    if p.number == 24 then Xori p.rd p.rs1 p.imm else
    if p.number == 25 then Ori p.rd p.rs1 p.imm else
    Andi p.rd p.rs1 p.imm

abbrev made_3 : InstParts → Inst
made_3 p =
    if p.number == 27 then Slli p.rd p.rs1 p.imm else
    if p.number == 28 then Srli p.rd p.rs1 p.imm else
    if p.number == 29 then Srai p.rd p.rs1 p.imm else
    if p.number == 30 then Add p.rd p.rs1 p.rs2 else
    if p.number == 31 then Sub p.rd p.rs1 p.rs2 else
    if p.number == 32 then Sll p.rd p.rs1 p.rs2 else
    if p.number == 33 then Slt p.rd p.rs1 p.rs2 else
    if p.number == 34 then Sltu p.rd p.rs1 p.rs2 else
    Xor p.rd p.rs1 p.rs2

abbrev made_4 : InstParts → Inst
made_4 p =
    if p.number == 36 then Srl p.rd p.rs1 p.rs2 else
    if p.number == 37 then Sra p.rd p.rs1 p.rs2 else
    if p.number == 38 then Or p.rd p.rs1 p.rs2 else
    if p.number == 39 then And p.rd p.rs1 p.rs2 else
    if p.number == 40 then Mul p.rd p.rs1 p.rs2 else
    if p.number == 41 then Mulh p.rd p.rs1 p.rs2 else
    if p.number == 42 then Mulhsu p.rd p.rs1 p.rs2 else
    if p.number == 43 then Mulhu p.rd p.rs1 p.rs2 else
    Div p.rd p.rs1 p.rs2

abbrev made_5 : InstParts → Inst
made_5 p =
    if p.number == 45 then Divu p.rd p.rs1 p.rs2 else
    if p.number == 46 then Rem p.rd p.rs1 p.rs2 else
    if p.number == 47 then Remu p.rd p.rs1 p.rs2 else
    if p.number == 48 then Addiw p.rd p.rs1 p.imm else
    if p.number == 49 then Slliw p.rd p.rs1 p.imm else
    if p.number == 50 then Srliw p.rd p.rs1 p.imm else
    if p.number == 51 then Sraiw p.rd p.rs1 p.imm else
    if p.number == 52 then Addw p.rd p.rs1 p.rs2 else
    Subw p.rd p.rs1 p.rs2

abbrev made_6 : InstParts → Inst
made_6 p =
    if p.number == 54 then Sllw p.rd p.rs1 p.rs2 else
    if p.number == 55 then Srlw p.rd p.rs1 p.rs2 else
    if p.number == 56 then Sraw p.rd p.rs1 p.rs2 else
    if p.number == 57 then Mulw p.rd p.rs1 p.rs2 else
    if p.number == 58 then Divw p.rd p.rs1 p.rs2 else
    if p.number == 59 then Divuw p.rd p.rs1 p.rs2 else
    if p.number == 60 then Remw p.rd p.rs1 p.rs2 else
    if p.number == 61 then Remuw p.rd p.rs1 p.rs2 else
    Fence p.rd p.rs1 p.imm

abbrev made_7 : InstParts → Inst
made_7 p =
    if p.number == 63 then Ecall else
    Ebreak

abbrev made : InstParts → Inst
made p =
    if nat_lt p.number 9 then made_0 p else
    if nat_lt p.number 18 then made_1 p else
    if nat_lt p.number 27 then made_2 p else
    if nat_lt p.number 36 then made_3 p else
    if nat_lt p.number 45 then made_4 p else
    if nat_lt p.number 54 then made_5 p else
    if nat_lt p.number 63 then made_6 p else
    made_7 p

made_again : (i : Inst) → made (parts_of i) ≡ i
made_again (Lui rd imm) = refl
made_again (Auipc rd imm) = refl
made_again (Jal rd imm) = refl
made_again (Jalr rd rs1 imm) = refl
made_again (Beq rs1 rs2 imm) = refl
made_again (Bne rs1 rs2 imm) = refl
made_again (Blt rs1 rs2 imm) = refl
made_again (Bge rs1 rs2 imm) = refl
made_again (Bltu rs1 rs2 imm) = refl
made_again (Bgeu rs1 rs2 imm) = refl
made_again (Lb rd rs1 imm) = refl
made_again (Lh rd rs1 imm) = refl
made_again (Lw rd rs1 imm) = refl
made_again (Ld rd rs1 imm) = refl
made_again (Lbu rd rs1 imm) = refl
made_again (Lhu rd rs1 imm) = refl
made_again (Lwu rd rs1 imm) = refl
made_again (Sb rs1 rs2 imm) = refl
made_again (Sh rs1 rs2 imm) = refl
made_again (Sw rs1 rs2 imm) = refl
made_again (Sd rs1 rs2 imm) = refl
made_again (Addi rd rs1 imm) = refl
made_again (Slti rd rs1 imm) = refl
made_again (Sltiu rd rs1 imm) = refl
made_again (Xori rd rs1 imm) = refl
made_again (Ori rd rs1 imm) = refl
made_again (Andi rd rs1 imm) = refl
made_again (Slli rd rs1 imm) = refl
made_again (Srli rd rs1 imm) = refl
made_again (Srai rd rs1 imm) = refl
made_again (Add rd rs1 rs2) = refl
made_again (Sub rd rs1 rs2) = refl
made_again (Sll rd rs1 rs2) = refl
made_again (Slt rd rs1 rs2) = refl
made_again (Sltu rd rs1 rs2) = refl
made_again (Xor rd rs1 rs2) = refl
made_again (Srl rd rs1 rs2) = refl
made_again (Sra rd rs1 rs2) = refl
made_again (Or rd rs1 rs2) = refl
made_again (And rd rs1 rs2) = refl
made_again (Mul rd rs1 rs2) = refl
made_again (Mulh rd rs1 rs2) = refl
made_again (Mulhsu rd rs1 rs2) = refl
made_again (Mulhu rd rs1 rs2) = refl
made_again (Div rd rs1 rs2) = refl
made_again (Divu rd rs1 rs2) = refl
made_again (Rem rd rs1 rs2) = refl
made_again (Remu rd rs1 rs2) = refl
made_again (Addiw rd rs1 imm) = refl
made_again (Slliw rd rs1 imm) = refl
made_again (Srliw rd rs1 imm) = refl
made_again (Sraiw rd rs1 imm) = refl
made_again (Addw rd rs1 rs2) = refl
made_again (Subw rd rs1 rs2) = refl
made_again (Sllw rd rs1 rs2) = refl
made_again (Srlw rd rs1 rs2) = refl
made_again (Sraw rd rs1 rs2) = refl
made_again (Mulw rd rs1 rs2) = refl
made_again (Divw rd rs1 rs2) = refl
made_again (Divuw rd rs1 rs2) = refl
made_again (Remw rd rs1 rs2) = refl
made_again (Remuw rd rs1 rs2) = refl
made_again (Fence rd rs1 imm) = refl
made_again Ecall = refl
made_again Ebreak = refl

pub same_inst : (i j : Inst) → parts_of i ≡ parts_of j → i ≡ j
same_inst i j same = sym (made_again i) ∙ ap made same ∙ made_again j
