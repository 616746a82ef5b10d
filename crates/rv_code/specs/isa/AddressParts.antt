-- Instructions whose immediate can be a part of an address. psABI, "Relocations".
use Rattle.rv_code.specs.declared.inst.Inst.{Inst}
use Rattle.rv_code.specs.declared.inst.Inst.TheVariants.{Lui, Auipc, Jalr, Lb, Lh, Lw, Ld, Lbu, Lhu, Lwu, Sb, Sh, Sw}
use Rattle.rv_code.specs.declared.inst.Inst.TheVariants.{Sd, Addi}

abbrev pub IsAuipc : Inst → Type 0
IsAuipc (Auipc rd imm) = Unit {0}
IsAuipc _ = ⊥

abbrev pub IsLui : Inst → Type 0
IsLui (Lui rd imm) = Unit {0}
IsLui _ = ⊥

-- The instruction has a 12-bit immediate that can be the lower part of an address.
abbrev pub TakesLower : Inst → Type 0
TakesLower (Addi rd rs1 imm) = Unit {0}
TakesLower (Jalr rd rs1 imm) = Unit {0}
TakesLower (Lb rd rs1 imm) = Unit {0}
TakesLower (Lh rd rs1 imm) = Unit {0}
TakesLower (Lw rd rs1 imm) = Unit {0}
TakesLower (Ld rd rs1 imm) = Unit {0}
TakesLower (Lbu rd rs1 imm) = Unit {0}
TakesLower (Lhu rd rs1 imm) = Unit {0}
TakesLower (Lwu rd rs1 imm) = Unit {0}
TakesLower (Sb rs1 rs2 imm) = Unit {0}
TakesLower (Sh rs1 rs2 imm) = Unit {0}
TakesLower (Sw rs1 rs2 imm) = Unit {0}
TakesLower (Sd rs1 rs2 imm) = Unit {0}
TakesLower _ = ⊥
