-- The halfwords that encode an instruction are those of its rows.
use Rattle.std.proofs.Common.{rules, ◌≡◌, ◌≢◌, ◌⊎◌, ℕ, Option, Some, None, inl, inr, refl, sym, subst}
use Rattle.std.specs.Option.{option_or}
use Rattle.rv_code.specs.isa.Bits.{field}
use Rattle.rv_code.specs.isa.HalfRows.{Row, Matches, expansion, IsHalf, C_ADDI4SPN, C_LW, C_LD, C_SW, C_SD, C_ADDI, C_ADDIW, C_LI}
use Rattle.rv_code.specs.isa.HalfRows.{C_ADDI16SP, C_LUI, C_SRLI, C_SRAI, C_ANDI, C_SUB, C_XOR, C_OR, C_AND, C_SUBW, C_ADDW, C_J, C_BEQZ}
use Rattle.rv_code.specs.isa.HalfRows.{C_BNEZ, C_SLLI, C_LWSP, C_LDSP, C_JR, C_MV, C_EBREAK, C_JALR, C_ADD, C_SWSP, C_SDSP}
use Rattle.rv_code.specs.declared.inst.Inst.{Inst}
use Rattle.rv_code.specs.declared.inst.Inst.TheVariants.{Lui, Jal, Jalr, Beq, Bne, Lw, Ld, Sw, Sd, Addi, Andi, Slli, Srli, Srai}
use Rattle.rv_code.specs.declared.inst.Inst.TheVariants.{Add, Sub, Xor, Or, And, Addiw, Addw, Subw, Ebreak}
use Rattle.rv_encode.specs.internal.SomeNumber.{Finds, FindsHalf}
use Rattle.rv_encode.specs.internal.HalfForms.{IsRowOf, HasForm}

-- The first of two results that isn't None.
pub either : (P Q : ℕ → Type 0) (first second both : Option ℕ) → both ≡ option_or first second → Finds P first → Finds Q second →
    Finds (λ n. P n ⊎ Q n) both
either P Q (Some n) second both is p q = subst (Finds (λ n. P n ⊎ Q n)) (sym is) (inl p)
either P Q None (Some n) both is p q = subst (Finds (λ n. P n ⊎ Q n)) (sym is) (inr q)
either P Q None None both is p q = subst (Finds (λ n. P n ⊎ Q n)) (sym is) (λ n h. elim h [ inl a ↦ p n a | inr b ↦ q n b ])

-- The result for an instruction, used for an equal one.
pub same : (result : Option ℕ) (inst other : Inst) → FindsHalf other result → other ≡ inst → FindsHalf inst result
same result inst other found is = subst (λ i. FindsHalf i result) is found

-- A halfword of a row encodes the instruction that it expands to.
form_of_row : (row : Row) (half : ℕ) → Matches row half → HasForm half (expansion row half)
form_of_row C_ADDI4SPN half m = inr (record { matches = m; expands = refl })
form_of_row C_LW half m = inl (record { opens = m; register_is = refl; base_is = refl; offset_is = refl })
form_of_row C_LD half m = inl (record { opens = m; register_is = refl; base_is = refl; offset_is = refl })
form_of_row C_SW half m = inl (record { opens = m; register_is = refl; base_is = refl; offset_is = refl })
form_of_row C_SD half m = inl (record { opens = m; register_is = refl; base_is = refl; offset_is = refl })
form_of_row C_ADDI half m = inl (inl (inl (record { matches = m; expands = refl })))
form_of_row C_ADDIW half m = record { matches = m; expands = refl }
form_of_row C_LI half m = inl (inl (inr (record { matches = m; expands = refl })))
form_of_row C_ADDI16SP half m = inl (inr (record { matches = m; expands = refl }))
form_of_row C_LUI half m = record { matches = m; expands = refl }
form_of_row C_SRLI half m = record { matches = m; expands = refl }
form_of_row C_SRAI half m = record { matches = m; expands = refl }
form_of_row C_ANDI half m = record { matches = m; expands = refl }
form_of_row C_SUB half m = record { opens = m; rd_is = refl; rs1_is = refl; rs2_is = refl }
form_of_row C_XOR half m = record { opens = m; rd_is = refl; rs1_is = refl; rs2_is = refl }
form_of_row C_OR half m = record { opens = m; rd_is = refl; rs1_is = refl; rs2_is = refl }
form_of_row C_AND half m = record { opens = m; rd_is = refl; rs1_is = refl; rs2_is = refl }
form_of_row C_SUBW half m = record { opens = m; rd_is = refl; rs1_is = refl; rs2_is = refl }
form_of_row C_ADDW half m = record { opens = m; rd_is = refl; rs1_is = refl; rs2_is = refl }
form_of_row C_J half m = record { matches = m; expands = refl }
form_of_row C_BEQZ half m = record { opens = m; rs1_is = refl; rs2_is = refl; imm_is = refl }
form_of_row C_BNEZ half m = record { opens = m; rs1_is = refl; rs2_is = refl; imm_is = refl }
form_of_row C_SLLI half m = record { matches = m; expands = refl }
form_of_row C_LWSP half m = inr (record { matches = m; expands = refl })
form_of_row C_LDSP half m = inr (record { matches = m; expands = refl })
form_of_row C_JR half m = inl (record { matches = m; expands = refl })
form_of_row C_MV half m = inl (record { matches = m; expands = refl })
form_of_row C_EBREAK half m = record { matches = m; expands = refl }
form_of_row C_JALR half m = inr (record { matches = m; expands = refl })
form_of_row C_ADD half m = inr (record { matches = m; expands = refl })
form_of_row C_SWSP half m = inr (record { matches = m; expands = refl })
form_of_row C_SDSP half m = inr (record { matches = m; expands = refl })

pub form_of_half : (half : ℕ) (inst : Inst) → IsHalf half inst → HasForm half inst
form_of_half half inst h = subst (HasForm half) (sym h.2) (form_of_row h.0 half h.1)

of_row : {row : Row} {half : ℕ} {inst : Inst} → IsRowOf row half inst → IsHalf half inst
of_row {row} p = (row, p.matches, p.expands)

parts : {A B C : Type 0} (f : A → B → C → Inst) {a x : A} {b y : B} {c z : C} → x ≡ a → y ≡ b → z ≡ c → f a b c ≡ f x y z
parts f p q r = cc

pub half_of_form : (half : ℕ) (inst : Inst) → HasForm half inst → IsHalf half inst
half_of_form half (Lui rd imm) p = of_row p
half_of_form half (Jal rd imm) p = of_row p
half_of_form half (Jalr rd rs1 imm) p = elim p [ inl a ↦ of_row a | inr b ↦ of_row b ]
half_of_form half (Beq rs1 rs2 imm) p = (C_BEQZ, p.opens, parts Beq p.rs1_is p.rs2_is p.imm_is)
half_of_form half (Bne rs1 rs2 imm) p = (C_BNEZ, p.opens, parts Bne p.rs1_is p.rs2_is p.imm_is)
half_of_form half (Lw rd rs1 imm) p =
    elim p [ inl a ↦ (C_LW, a.opens, parts Lw a.register_is a.base_is a.offset_is) | inr b ↦ of_row b ]
half_of_form half (Ld rd rs1 imm) p =
    elim p [ inl a ↦ (C_LD, a.opens, parts Ld a.register_is a.base_is a.offset_is) | inr b ↦ of_row b ]
half_of_form half (Sw rs1 rs2 imm) p =
    elim p [ inl a ↦ (C_SW, a.opens, parts Sw a.base_is a.register_is a.offset_is) | inr b ↦ of_row b ]
half_of_form half (Sd rs1 rs2 imm) p =
    elim p [ inl a ↦ (C_SD, a.opens, parts Sd a.base_is a.register_is a.offset_is) | inr b ↦ of_row b ]
half_of_form half (Addi rd rs1 imm) p = elim p [
  | inl q ↦ elim q [ inl r ↦ elim r [ inl a ↦ of_row a | inr b ↦ of_row b ] | inr c ↦ of_row c ]
  | inr d ↦ of_row d
]
half_of_form half (Andi rd rs1 imm) p = of_row p
half_of_form half (Slli rd rs1 imm) p = of_row p
half_of_form half (Srli rd rs1 imm) p = of_row p
half_of_form half (Srai rd rs1 imm) p = of_row p
half_of_form half (Add rd rs1 rs2) p = elim p [ inl a ↦ of_row a | inr b ↦ of_row b ]
half_of_form half (Sub rd rs1 rs2) p = (C_SUB, p.opens, parts Sub p.rd_is p.rs1_is p.rs2_is)
half_of_form half (Xor rd rs1 rs2) p = (C_XOR, p.opens, parts Xor p.rd_is p.rs1_is p.rs2_is)
half_of_form half (Or rd rs1 rs2) p = (C_OR, p.opens, parts Or p.rd_is p.rs1_is p.rs2_is)
half_of_form half (And rd rs1 rs2) p = (C_AND, p.opens, parts And p.rd_is p.rs1_is p.rs2_is)
half_of_form half (Addiw rd rs1 imm) p = of_row p
half_of_form half (Addw rd rs1 rs2) p = (C_ADDW, p.opens, parts Addw p.rd_is p.rs1_is p.rs2_is)
half_of_form half (Subw rd rs1 rs2) p = (C_SUBW, p.opens, parts Subw p.rd_is p.rs1_is p.rs2_is)
half_of_form half Ebreak p = of_row p
half_of_form half _ p = absurd p

-- A halfword of a row is never the front of a four-byte word.
pub not_full : (row : Row) (half : ℕ) → Matches row half → field half 0 2 ≢ 3
not_full _ half m = search rules
