use Rattle.std.proofs.Common.{rules, ◌≡◌, ℕ, ℤ, refl, to_z, of_z}
use Rattle.std.specs.Int.{w64}
use Rattle.rv_code.specs.declared.inst.Inst.{Inst}
use Rattle.rv_code.specs.declared.inst.Inst.TheVariants.{Lui, Jal, Jalr, Beq, Bne, Lw, Ld, Sw, Sd, Addi, Andi, Slli, Srli, Srai}
use Rattle.rv_code.specs.declared.inst.Inst.TheVariants.{Add, Sub, Xor, Or, And, Addiw, Addw, Subw, Ebreak}
use Rattle.rv_encode.specs.internal.HalfForms.{HasForm}
use Rattle.rv_encode.proofs.Forms.{either, same}
use Rattle.rv_encode.proofs.half.encode_half.Goals as goal

-- An immediate as the callee's contract shows it.
abbrev passed : ℤ → ℤ
passed imm = to_z w64 (of_z w64 imm)

pub returns-in-Jal-clause-found : goal.returns-in-Jal-clause-found
returns-in-Jal-clause-found c =
    same _ _ (Jal c.in-Jal.rd _) c.c_j.ensures.found (search rules)

pub returns-in-Jalr-clause-found : goal.returns-in-Jalr-clause-found
returns-in-Jalr-clause-found c =
    same _ _ (Jalr c.in-Jalr.rd c.in-Jalr.rs1 (passed c.in-Jalr.imm))
    (either _ _ _ _ _ c.or.ensures c.c_jr.ensures c.c_jalr.ensures) (search rules)

pub returns-in-Beq-clause-found : goal.returns-in-Beq-clause-found
returns-in-Beq-clause-found c =
    same _ _ (Beq c.in-Beq.rs1 c.in-Beq.rs2 _) c.branch_on_zero.ensures.found (search rules)

pub returns-in-Bne-clause-found : goal.returns-in-Bne-clause-found
returns-in-Bne-clause-found c =
    same _ _ (Bne c.in-Bne.rs1 c.in-Bne.rs2 _) c.branch_on_zero-in-Bne.ensures.found (search rules)

pub returns-in-Lw-clause-found : goal.returns-in-Lw-clause-found
returns-in-Lw-clause-found c =
    same _ _ (Lw c.in-Lw.rd c.in-Lw.rs1 (passed c.in-Lw.imm))
    (either _ _ _ _ _ c.or-in-Lw.ensures c.access_word.ensures c.c_lwsp.ensures) (search rules)

pub returns-in-Ld-clause-found : goal.returns-in-Ld-clause-found
returns-in-Ld-clause-found c =
    same _ _ (Ld c.in-Ld.rd c.in-Ld.rs1 (passed c.in-Ld.imm))
    (either _ _ _ _ _ c.or-in-Ld.ensures c.access_double.ensures c.c_ldsp.ensures) (search rules)

pub returns-in-Sw-clause-found : goal.returns-in-Sw-clause-found
returns-in-Sw-clause-found c =
    same _ _ (Sw c.in-Sw.rs1 c.in-Sw.rs2 (passed c.in-Sw.imm))
    (either _ _ _ _ _ c.or-in-Sw.ensures c.access_word-in-Sw.ensures c.c_swsp.ensures) (search rules)

pub returns-in-Sd-clause-found : goal.returns-in-Sd-clause-found
returns-in-Sd-clause-found c =
    same _ _ (Sd c.in-Sd.rs1 c.in-Sd.rs2 (passed c.in-Sd.imm))
    (either _ _ _ _ _ c.or-in-Sd.ensures c.access_double-in-Sd.ensures c.c_sdsp.ensures) (search rules)

pub returns-in-Addi-clause-found : goal.returns-in-Addi-clause-found
returns-in-Addi-clause-found c =
    same _ _ (Addi c.in-Addi.rd c.in-Addi.rs1 (passed c.in-Addi.imm))
    (either _ _ _ _ _ c.or-in-Addi-3.ensures
    (either _ _ _ _ _ c.or-in-Addi-2.ensures (either _ _ _ _ _ c.or-in-Addi.ensures c.c_addi.ensures c.c_li.ensures)
    c.c_addi16sp.ensures) c.c_addi4spn.ensures) (search rules)

pub returns-in-Andi-clause-found : goal.returns-in-Andi-clause-found
returns-in-Andi-clause-found c =
    same _ _ (Andi c.in-Andi.rd c.in-Andi.rs1 _) c.c_andi.ensures (search rules)

pub returns-in-Add-clause-found : goal.returns-in-Add-clause-found
returns-in-Add-clause-found c =
    same _ _ (Add c.in-Add.rd c.in-Add.rs1 c.in-Add.rs2)
    (either _ _ _ _ _ c.or-in-Add.ensures c.c_mv.ensures c.c_add.ensures) (search rules)

pub returns-in_default-clause-found : goal.returns-in_default-clause-found
returns-in_default-clause-found c = λ half form. no_form c.args.inst.now refl half form where
  no_form : (inst : Inst) → c.args.inst.now ≡ inst → (half : ℕ) → HasForm half inst → ⊥
  no_form (Lui a b) is = absurd (c.in_default.not-Lui a b is)
  no_form (Jal a b) is = absurd (c.in_default.not-Jal a b is)
  no_form (Jalr a b d) is = absurd (c.in_default.not-Jalr a b d is)
  no_form (Beq a b d) is = absurd (c.in_default.not-Beq a b d is)
  no_form (Bne a b d) is = absurd (c.in_default.not-Bne a b d is)
  no_form (Lw a b d) is = absurd (c.in_default.not-Lw a b d is)
  no_form (Ld a b d) is = absurd (c.in_default.not-Ld a b d is)
  no_form (Sw a b d) is = absurd (c.in_default.not-Sw a b d is)
  no_form (Sd a b d) is = absurd (c.in_default.not-Sd a b d is)
  no_form (Addi a b d) is = absurd (c.in_default.not-Addi a b d is)
  no_form (Andi a b d) is = absurd (c.in_default.not-Andi a b d is)
  no_form (Slli a b d) is = absurd (c.in_default.not-Slli a b d is)
  no_form (Srli a b d) is = absurd (c.in_default.not-Srli a b d is)
  no_form (Srai a b d) is = absurd (c.in_default.not-Srai a b d is)
  no_form (Add a b d) is = absurd (c.in_default.not-Add a b d is)
  no_form (Sub a b d) is = absurd (c.in_default.not-Sub a b d is)
  no_form (Xor a b d) is = absurd (c.in_default.not-Xor a b d is)
  no_form (Or a b d) is = absurd (c.in_default.not-Or a b d is)
  no_form (And a b d) is = absurd (c.in_default.not-And a b d is)
  no_form (Addiw a b d) is = absurd (c.in_default.not-Addiw a b d is)
  no_form (Addw a b d) is = absurd (c.in_default.not-Addw a b d is)
  no_form (Subw a b d) is = absurd (c.in_default.not-Subw a b d is)
  no_form Ebreak is = absurd (c.in_default.not-Ebreak is)
  no_form _ is = λ half form. form
