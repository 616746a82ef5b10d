-- Which instructions have an opcode; and an AUIPC, a LUI and a JALR are decoded in only one way.
use Rattle.std.proofs.Common.{◌≡◌, ℕ, ◌+◌, ◌*◌, ◌^◌, Some, refl, sym, ◌∙◌, arith, inl, inr, ℤ, pos}
use Rattle.std.specs.Prelude.{◌==◌, if◌then◌else◌}
use Rattle.std.proofs.lemmas.Grind.{common_steps}
use Rattle.rv_code.specs.isa.Bits.{field, imm_i, imm_s, imm_u}
use Rattle.rv_code.specs.isa.FullRows.{IsFull}
use Rattle.rv_code.specs.isa.Action.{action_of}
use Rattle.rv_code.specs.declared.inst.Inst.{Inst}
use Rattle.rv_code.specs.declared.inst.Inst.TheVariants.{Lui, Auipc, Jal, Jalr, Beq, Bne, Blt, Bge, Bltu, Bgeu, Lb, Lh, Lw, Ld, Lbu, Lhu}
use Rattle.rv_code.specs.declared.inst.Inst.TheVariants.{Lwu, Sb, Sh, Sw, Sd, Addi, Slti, Sltiu, Xori, Ori, Andi, Slli, Srli, Srai, Add}
use Rattle.rv_code.specs.declared.inst.Inst.TheVariants.{Sub, Sll, Slt, Sltu, Xor, Srl, Sra, Or, And, Fence, Ecall, Ebreak, Addiw, Slliw}
use Rattle.rv_code.specs.declared.inst.Inst.TheVariants.{Srliw, Sraiw, Addw, Subw, Sllw, Srlw, Sraw, Mul, Mulh, Mulhsu, Mulhu, Div, Divu}
use Rattle.rv_code.specs.declared.inst.Inst.TheVariants.{Rem, Remu, Mulw, Divw, Divuw, Remw, Remuw}
use Rattle.elf_image.specs.declared.elf.Elf.{Elf}
use Rattle.elf_code.specs.Parts.{halfword_at, IsInstAt}
use Rattle.elf_code.specs.Roles.{immediate_i, immediate_s, lower_immediate}
use Rattle.rv_code.specs.isa.AddressParts.{IsAuipc, IsLui, TakesLower}
use Rattle.move_law.specs.FaithfulRewrite.{with_immediate}
use Rattle.move_law.proofs.values.HiLoParts.{IsLower, imm_i_lower, imm_s_lower}

-- Opcodes.

abbrev opcode : Inst → ℕ
opcode (Lui rd imm) = 0x37
opcode (Auipc rd imm) = 0x17
opcode (Jal rd imm) = 0x6f
opcode (Jalr rd rs1 imm) = 0x67
opcode (Beq rs1 rs2 imm) = 0x63
opcode (Bne rs1 rs2 imm) = 0x63
opcode (Blt rs1 rs2 imm) = 0x63
opcode (Bge rs1 rs2 imm) = 0x63
opcode (Bltu rs1 rs2 imm) = 0x63
opcode (Bgeu rs1 rs2 imm) = 0x63
opcode (Lb rd rs1 imm) = 0x03
opcode (Lh rd rs1 imm) = 0x03
opcode (Lw rd rs1 imm) = 0x03
opcode (Ld rd rs1 imm) = 0x03
opcode (Lbu rd rs1 imm) = 0x03
opcode (Lhu rd rs1 imm) = 0x03
opcode (Lwu rd rs1 imm) = 0x03
opcode (Sb rs1 rs2 imm) = 0x23
opcode (Sh rs1 rs2 imm) = 0x23
opcode (Sw rs1 rs2 imm) = 0x23
opcode (Sd rs1 rs2 imm) = 0x23
opcode (Addi rd rs1 imm) = 0x13
opcode (Slti rd rs1 imm) = 0x13
opcode (Sltiu rd rs1 imm) = 0x13
opcode (Xori rd rs1 imm) = 0x13
opcode (Ori rd rs1 imm) = 0x13
opcode (Andi rd rs1 imm) = 0x13
opcode (Slli rd rs1 imm) = 0x13
opcode (Srli rd rs1 imm) = 0x13
opcode (Srai rd rs1 imm) = 0x13
opcode (Add rd rs1 rs2) = 0x33
opcode (Sub rd rs1 rs2) = 0x33
opcode (Sll rd rs1 rs2) = 0x33
opcode (Slt rd rs1 rs2) = 0x33
opcode (Sltu rd rs1 rs2) = 0x33
opcode (Xor rd rs1 rs2) = 0x33
opcode (Srl rd rs1 rs2) = 0x33
opcode (Sra rd rs1 rs2) = 0x33
opcode (Or rd rs1 rs2) = 0x33
opcode (And rd rs1 rs2) = 0x33
opcode (Fence rd rs1 imm) = 0x0f
opcode Ecall = 0x73
opcode Ebreak = 0x73
opcode (Addiw rd rs1 imm) = 0x1b
opcode (Slliw rd rs1 imm) = 0x1b
opcode (Srliw rd rs1 imm) = 0x1b
opcode (Sraiw rd rs1 imm) = 0x1b
opcode (Addw rd rs1 rs2) = 0x3b
opcode (Subw rd rs1 rs2) = 0x3b
opcode (Sllw rd rs1 rs2) = 0x3b
opcode (Srlw rd rs1 rs2) = 0x3b
opcode (Sraw rd rs1 rs2) = 0x3b
opcode (Mul rd rs1 rs2) = 0x33
opcode (Mulh rd rs1 rs2) = 0x33
opcode (Mulhsu rd rs1 rs2) = 0x33
opcode (Mulhu rd rs1 rs2) = 0x33
opcode (Div rd rs1 rs2) = 0x33
opcode (Divu rd rs1 rs2) = 0x33
opcode (Rem rd rs1 rs2) = 0x33
opcode (Remu rd rs1 rs2) = 0x33
opcode (Mulw rd rs1 rs2) = 0x3b
opcode (Divw rd rs1 rs2) = 0x3b
opcode (Divuw rd rs1 rs2) = 0x3b
opcode (Remw rd rs1 rs2) = 0x3b
opcode (Remuw rd rs1 rs2) = 0x3b

opcode_is : (w : ℕ) (i : Inst) → IsFull w i → field w 0 7 ≡ opcode i
opcode_is w Ecall row = omega (arith, row)
opcode_is w Ebreak row = omega (arith, row)
opcode_is w _ row = row.opcode_is

auipc_only : (i : Inst) → opcode i ≡ 0x17 → IsAuipc i
auipc_only (Auipc rd imm) e = tt
auipc_only _ e = absurd (omega (arith, e))

lui_only : (i : Inst) → opcode i ≡ 0x37 → IsLui i
lui_only (Lui rd imm) e = tt
lui_only _ e = absurd (omega (arith, e))

jalr_low : (i : Inst) → opcode i ≡ 0x67 → TakesLower i
jalr_low (Jalr rd rs1 imm) e = tt
jalr_low _ e = absurd (omega (arith, e))

load_only : (i : Inst) → opcode i ≡ 0x03 → TakesLower i
load_only (Lb rd rs1 imm) e = tt
load_only (Lh rd rs1 imm) e = tt
load_only (Lw rd rs1 imm) e = tt
load_only (Ld rd rs1 imm) e = tt
load_only (Lbu rd rs1 imm) e = tt
load_only (Lhu rd rs1 imm) e = tt
load_only (Lwu rd rs1 imm) e = tt
load_only _ e = absurd (omega (arith, e))

store_only : (i : Inst) → opcode i ≡ 0x23 → TakesLower i
store_only (Sb rs1 rs2 imm) e = tt
store_only (Sh rs1 rs2 imm) e = tt
store_only (Sw rs1 rs2 imm) e = tt
store_only (Sd rs1 rs2 imm) e = tt
store_only _ e = absurd (omega (arith, e))

addi_only : (w : ℕ) (i : Inst) → IsFull w i → opcode i ≡ 0x13 → field w 12 3 ≡ 0 → TakesLower i
addi_only w (Addi rd rs1 imm) row e f = tt
addi_only w (Slti rd rs1 imm) row e f = absurd (let g = row.funct3_is in omega (arith, f, g))
addi_only w (Sltiu rd rs1 imm) row e f = absurd (let g = row.funct3_is in omega (arith, f, g))
addi_only w (Xori rd rs1 imm) row e f = absurd (let g = row.funct3_is in omega (arith, f, g))
addi_only w (Ori rd rs1 imm) row e f = absurd (let g = row.funct3_is in omega (arith, f, g))
addi_only w (Andi rd rs1 imm) row e f = absurd (let g = row.funct3_is in omega (arith, f, g))
addi_only w (Slli rd rs1 imm) row e f = absurd (let g = row.funct3_is in omega (arith, f, g))
addi_only w (Srli rd rs1 imm) row e f = absurd (let g = row.funct3_is in omega (arith, f, g))
addi_only w (Srai rd rs1 imm) row e f = absurd (let g = row.funct3_is in omega (arith, f, g))
addi_only w _ row e f = absurd (omega (arith, e))

-- the opcode of an instruction word

pub auipc_of : (w rd : ℕ) (imm : ℤ) (i : Inst) → IsFull w (Auipc rd imm) → IsFull w i → IsAuipc i
auipc_of w rd imm i a b = auipc_only i (sym (opcode_is w i b) ∙ a.opcode_is)

pub lui_of : (w rd : ℕ) (imm : ℤ) (i : Inst) → IsFull w (Lui rd imm) → IsFull w i → IsLui i
lui_of w rd imm i a b = lui_only i (sym (opcode_is w i b) ∙ a.opcode_is)

pub low_of : (w : ℕ) (i j : Inst) → TakesLower i → IsFull w i → IsFull w j → TakesLower j
low_of w (Addi rd rs1 imm) j h a b = addi_only w j b (sym (opcode_is w j b) ∙ a.opcode_is) a.funct3_is
low_of w (Jalr rd rs1 imm) j h a b = jalr_low j (sym (opcode_is w j b) ∙ a.opcode_is)
low_of w (Lb rd rs1 imm) j h a b = load_only j (sym (opcode_is w j b) ∙ a.opcode_is)
low_of w (Lh rd rs1 imm) j h a b = load_only j (sym (opcode_is w j b) ∙ a.opcode_is)
low_of w (Lw rd rs1 imm) j h a b = load_only j (sym (opcode_is w j b) ∙ a.opcode_is)
low_of w (Ld rd rs1 imm) j h a b = load_only j (sym (opcode_is w j b) ∙ a.opcode_is)
low_of w (Lbu rd rs1 imm) j h a b = load_only j (sym (opcode_is w j b) ∙ a.opcode_is)
low_of w (Lhu rd rs1 imm) j h a b = load_only j (sym (opcode_is w j b) ∙ a.opcode_is)
low_of w (Lwu rd rs1 imm) j h a b = load_only j (sym (opcode_is w j b) ∙ a.opcode_is)
low_of w (Sb rs1 rs2 imm) j h a b = store_only j (sym (opcode_is w j b) ∙ a.opcode_is)
low_of w (Sh rs1 rs2 imm) j h a b = store_only j (sym (opcode_is w j b) ∙ a.opcode_is)
low_of w (Sw rs1 rs2 imm) j h a b = store_only j (sym (opcode_is w j b) ∙ a.opcode_is)
low_of w (Sd rs1 rs2 imm) j h a b = store_only j (sym (opcode_is w j b) ∙ a.opcode_is)
low_of w _ j h a b = absurd h

-- At an address of a file.

abbrev word_at : Elf → ℕ → ℕ
word_at elf a = halfword_at elf (a + 2) * 2 ^ 16 + halfword_at elf a

pub record IsFullInst (elf : Elf) (a : ℕ) (i : Inst) : Type 0 where
  pub is_full : field (halfword_at elf a) 0 2 ≡ 3
  pub row : IsFull (word_at elf a) i

pub full_at : (elf : Elf) (a : ℕ) (i : Inst) → IsInstAt elf a i 4 → IsFullInst elf a i
full_at elf a i (inl d) = absurd (let e = d.two_bytes in omega (arith, e))
full_at elf a i (inr d) = record { is_full = d.is_full; row = d.row }

pub also_full : (elf : Elf) (a : ℕ) (i j : Inst) (n : ℕ) → IsFullInst elf a i → IsInstAt elf a j n → IsFullInst elf a j
also_full elf a i j n f (inl d) = absurd (d.is_half f.is_full)
also_full elf a i j n f (inr d) = record { is_full = d.is_full; row = d.row }

-- lower parts

low_i : (i : Inst) (imm : ℤ) → immediate_i (action_of i) ≡ Some imm → TakesLower i
low_i (Addi rd rs1 imm) z e = tt
low_i (Jalr rd rs1 imm) z e = tt
low_i (Lb rd rs1 imm) z e = tt
low_i (Lh rd rs1 imm) z e = tt
low_i (Lw rd rs1 imm) z e = tt
low_i (Ld rd rs1 imm) z e = tt
low_i (Lbu rd rs1 imm) z e = tt
low_i (Lhu rd rs1 imm) z e = tt
low_i (Lwu rd rs1 imm) z e = tt
low_i _ z e = absurd (cc)

low_s : (i : Inst) (imm : ℤ) → immediate_s (action_of i) ≡ Some imm → TakesLower i
low_s (Sb rs1 rs2 imm) z e = tt
low_s (Sh rs1 rs2 imm) z e = tt
low_s (Sw rs1 rs2 imm) z e = tt
low_s (Sd rs1 rs2 imm) z e = tt
low_s _ z e = absurd (cc)

pub low_immediate : (kind : ℕ) (i : Inst) (imm : ℤ) → lower_immediate kind i ≡ Some imm → TakesLower i
low_immediate kind i imm e = grind (arith, common_steps, low_i, low_s)

-- immediates

abbrev pub immediate : Inst → ℤ
immediate (Lui rd imm) = imm
immediate (Auipc rd imm) = imm
immediate (Addi rd rs1 imm) = imm
immediate (Jalr rd rs1 imm) = imm
immediate (Lb rd rs1 imm) = imm
immediate (Lh rd rs1 imm) = imm
immediate (Lw rd rs1 imm) = imm
immediate (Ld rd rs1 imm) = imm
immediate (Lbu rd rs1 imm) = imm
immediate (Lhu rd rs1 imm) = imm
immediate (Lwu rd rs1 imm) = imm
immediate (Sb rs1 rs2 imm) = imm
immediate (Sh rs1 rs2 imm) = imm
immediate (Sw rs1 rs2 imm) = imm
immediate (Sd rs1 rs2 imm) = imm
immediate _ = pos 0

pub with_same : (i : Inst) → with_immediate i (immediate i) ≡ i
with_same (Lui rd imm) = refl
with_same _ = refl

pub auipc_imm : (w : ℕ) (i : Inst) → IsAuipc i → IsFull w i → immediate i ≡ imm_u w
auipc_imm w (Auipc rd imm) h row = sym row.imm_is
auipc_imm w _ h row = absurd h

pub lui_imm : (w : ℕ) (i : Inst) → IsLui i → IsFull w i → immediate i ≡ imm_u w
lui_imm w (Lui rd imm) h row = sym row.imm_is
lui_imm w _ h row = absurd h

abbrev pub low_field : ℕ → ℤ
low_field w = if field w 0 7 == 0x23 then imm_s w else imm_i w

pub low_imm : (w : ℕ) (i : Inst) → TakesLower i → IsFull w i → immediate i ≡ low_field w
low_imm w (Addi rd rs1 imm) h row = rw row.opcode_is (sym row.imm_is)
low_imm w (Jalr rd rs1 imm) h row = rw row.opcode_is (sym row.imm_is)
low_imm w (Lb rd rs1 imm) h row = rw row.opcode_is (sym row.imm_is)
low_imm w (Lh rd rs1 imm) h row = rw row.opcode_is (sym row.imm_is)
low_imm w (Lw rd rs1 imm) h row = rw row.opcode_is (sym row.imm_is)
low_imm w (Ld rd rs1 imm) h row = rw row.opcode_is (sym row.imm_is)
low_imm w (Lbu rd rs1 imm) h row = rw row.opcode_is (sym row.imm_is)
low_imm w (Lhu rd rs1 imm) h row = rw row.opcode_is (sym row.imm_is)
low_imm w (Lwu rd rs1 imm) h row = rw row.opcode_is (sym row.imm_is)
low_imm w (Sb rs1 rs2 imm) h row = rw row.opcode_is (sym row.imm_is)
low_imm w (Sh rs1 rs2 imm) h row = rw row.opcode_is (sym row.imm_is)
low_imm w (Sw rs1 rs2 imm) h row = rw row.opcode_is (sym row.imm_is)
low_imm w (Sd rs1 rs2 imm) h row = rw row.opcode_is (sym row.imm_is)
low_imm w _ h row = absurd h

pub low_field_lower : (w : ℕ) → IsLower (low_field w)
low_field_lower w = grind (arith, common_steps, imm_s_lower, imm_i_lower)

imm_of_i : (i : Inst) (z : ℤ) → immediate_i (action_of i) ≡ Some z → immediate i ≡ z
imm_of_i (Addi rd rs1 imm) z e = cc
imm_of_i (Jalr rd rs1 imm) z e = cc
imm_of_i (Lb rd rs1 imm) z e = cc
imm_of_i (Lh rd rs1 imm) z e = cc
imm_of_i (Lw rd rs1 imm) z e = cc
imm_of_i (Ld rd rs1 imm) z e = cc
imm_of_i (Lbu rd rs1 imm) z e = cc
imm_of_i (Lhu rd rs1 imm) z e = cc
imm_of_i (Lwu rd rs1 imm) z e = cc
imm_of_i _ z e = absurd (cc)

imm_of_s : (i : Inst) (z : ℤ) → immediate_s (action_of i) ≡ Some z → immediate i ≡ z
imm_of_s (Sb rs1 rs2 imm) z e = cc
imm_of_s (Sh rs1 rs2 imm) z e = cc
imm_of_s (Sw rs1 rs2 imm) z e = cc
imm_of_s (Sd rs1 rs2 imm) z e = cc
imm_of_s _ z e = absurd (cc)

pub imm_of : (kind : ℕ) (i : Inst) (z : ℤ) → lower_immediate kind i ≡ Some z → immediate i ≡ z
imm_of kind i z e = grind (arith, common_steps, imm_of_i, imm_of_s)
