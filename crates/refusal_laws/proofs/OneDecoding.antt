-- The bytes of an instruction are the bytes of no other one: the listings of the ISA manual have no two rows that overlap.
use Rattle.std.proofs.Common.{◌≡◌, ◌∙◌, sym, ap, ℕ, ℤ, ◌*◌, ◌+◌}
use Rattle.std.proofs.Common.{◌^◌, Bool, true, false, Option, None, Some, arith, inl, inr, if◌then◌else◌}
use Rattle.std.specs.Prelude.{◌≢◌, ◌==◌, IsSomeAnd, pos}
use Rattle.std.proofs.lemmas.Bool.Decides.{nat_tests}
use Rattle.rv_code.specs.declared.inst.Inst.{Inst}
use Rattle.rv_code.specs.declared.inst.Inst.TheVariants.{Lui, Auipc, Jal, Jalr, Beq, Bne, Blt, Bge, Bltu, Bgeu, Lb}
use Rattle.rv_code.specs.declared.inst.Inst.TheVariants.{Lh, Lw, Ld, Lbu, Lhu, Lwu, Sb, Sh, Sw, Sd, Addi, Slti}
use Rattle.rv_code.specs.declared.inst.Inst.TheVariants.{Sltiu, Xori, Ori, Andi, Slli, Srli, Srai, Add, Sub, Sll}
use Rattle.rv_code.specs.declared.inst.Inst.TheVariants.{Slt, Sltu, Xor, Srl, Sra, Or, And, Fence, Ecall, Ebreak}
use Rattle.rv_code.specs.declared.inst.Inst.TheVariants.{Addiw, Slliw, Srliw, Sraiw, Addw, Subw, Sllw, Srlw, Sraw}
use Rattle.rv_code.specs.declared.inst.Inst.TheVariants.{Mul, Mulh, Mulhsu, Mulhu, Div, Divu, Rem, Remu, Mulw, Divw}
use Rattle.rv_code.specs.declared.inst.Inst.TheVariants.{Divuw, Remw, Remuw}
use Rattle.rv_code.specs.isa.Bits.{field, imm_b, imm_i, imm_j, imm_s, imm_u}
use Rattle.rv_code.specs.isa.FullRows.{FormatB, FormatI, FormatJ, FormatR, FormatS, FormatU, IsFull, Shift32, Shift64}
use Rattle.rv_code.specs.isa.HalfRows.{IsHalf, Matches, Row, expansion, rd, rs2}
use Rattle.rv_code.specs.isa.HalfRows as row
use Rattle.rv_code.specs.isa.InstBytes.{Decodes}

-- Words.

abbrev by_37 : (word funct3 funct6 funct7 : ℕ) → Inst
by_37 word funct3 funct6 funct7 =
    let d = field word 7 5 in
    Lui d (imm_u word)

abbrev by_17 : (word funct3 funct6 funct7 : ℕ) → Inst
by_17 word funct3 funct6 funct7 =
    let d = field word 7 5 in
    Auipc d (imm_u word)

abbrev by_6f : (word funct3 funct6 funct7 : ℕ) → Inst
by_6f word funct3 funct6 funct7 =
    let d = field word 7 5 in
    Jal d (imm_j word)

abbrev by_67 : (word funct3 funct6 funct7 : ℕ) → Inst
by_67 word funct3 funct6 funct7 =
    let d = field word 7 5 in let a = field word 15 5 in
    Jalr d a (imm_i word)

abbrev by_63 : (word funct3 funct6 funct7 : ℕ) → Inst
by_63 word funct3 funct6 funct7 =
    let a = field word 15 5 in let b = field word 20 5 in
    if funct3 == 0 then Beq a b (imm_b word) else
    if funct3 == 1 then Bne a b (imm_b word) else
    if funct3 == 4 then Blt a b (imm_b word) else
    if funct3 == 5 then Bge a b (imm_b word) else
    if funct3 == 6 then Bltu a b (imm_b word) else
    Bgeu a b (imm_b word)

abbrev by_03 : (word funct3 funct6 funct7 : ℕ) → Inst
by_03 word funct3 funct6 funct7 =
    let d = field word 7 5 in let a = field word 15 5 in
    if funct3 == 0 then Lb d a (imm_i word) else
    if funct3 == 1 then Lh d a (imm_i word) else
    if funct3 == 2 then Lw d a (imm_i word) else
    if funct3 == 3 then Ld d a (imm_i word) else
    if funct3 == 4 then Lbu d a (imm_i word) else
    if funct3 == 5 then Lhu d a (imm_i word) else
    Lwu d a (imm_i word)

abbrev by_23 : (word funct3 funct6 funct7 : ℕ) → Inst
by_23 word funct3 funct6 funct7 =
    let a = field word 15 5 in let b = field word 20 5 in
    if funct3 == 0 then Sb a b (imm_s word) else
    if funct3 == 1 then Sh a b (imm_s word) else
    if funct3 == 2 then Sw a b (imm_s word) else
    Sd a b (imm_s word)

abbrev by_13 : (word funct3 funct6 funct7 : ℕ) → Inst
by_13 word funct3 funct6 funct7 =
    let d = field word 7 5 in let a = field word 15 5 in
    if funct3 == 0 then Addi d a (imm_i word) else
    if funct3 == 2 then Slti d a (imm_i word) else
    if funct3 == 3 then Sltiu d a (imm_i word) else
    if funct3 == 4 then Xori d a (imm_i word) else
    if funct3 == 6 then Ori d a (imm_i word) else
    if funct3 == 7 then Andi d a (imm_i word) else
    if funct3 == 1 then Slli d a (pos (field word 20 6)) else
    if funct6 == 0x0 then Srli d a (pos (field word 20 6)) else Srai d a (pos (field word 20 6))

abbrev by_33 : (word funct3 funct6 funct7 : ℕ) → Inst
by_33 word funct3 funct6 funct7 =
    let d = field word 7 5 in let a = field word 15 5 in let b = field word 20 5 in
    if funct3 == 0 then (if funct7 == 0x0 then Add d a b else if funct7 == 0x20 then Sub d a b else Mul d a b) else
    if funct3 == 1 then (if funct7 == 0x0 then Sll d a b else Mulh d a b) else
    if funct3 == 2 then (if funct7 == 0x0 then Slt d a b else Mulhsu d a b) else
    if funct3 == 3 then (if funct7 == 0x0 then Sltu d a b else Mulhu d a b) else
    if funct3 == 4 then (if funct7 == 0x0 then Xor d a b else Div d a b) else
    if funct3 == 5 then (if funct7 == 0x0 then Srl d a b else if funct7 == 0x20 then Sra d a b else Divu d a b) else
    if funct3 == 6 then (if funct7 == 0x0 then Or d a b else Rem d a b) else
    if funct7 == 0x0 then And d a b else Remu d a b

abbrev by_0f : (word funct3 funct6 funct7 : ℕ) → Inst
by_0f word funct3 funct6 funct7 =
    let d = field word 7 5 in let a = field word 15 5 in
    Fence d a (imm_i word)

abbrev by_73 : (word funct3 funct6 funct7 : ℕ) → Inst
by_73 word funct3 funct6 funct7 =
    if word == 0x73 then Ecall else Ebreak

abbrev by_1b : (word funct3 funct6 funct7 : ℕ) → Inst
by_1b word funct3 funct6 funct7 =
    let d = field word 7 5 in let a = field word 15 5 in
    if funct3 == 0 then Addiw d a (imm_i word) else
    if funct3 == 1 then Slliw d a (pos (field word 20 5)) else
    if funct7 == 0x0 then Srliw d a (pos (field word 20 5)) else Sraiw d a (pos (field word 20 5))

abbrev by_3b : (word funct3 funct6 funct7 : ℕ) → Inst
by_3b word funct3 funct6 funct7 =
    let d = field word 7 5 in let a = field word 15 5 in let b = field word 20 5 in
    if funct3 == 0 then (if funct7 == 0x0 then Addw d a b else if funct7 == 0x20 then Subw d a b else Mulw d a b) else
    if funct3 == 1 then Sllw d a b else
    if funct3 == 5 then (if funct7 == 0x0 then Srlw d a b else if funct7 == 0x20 then Sraw d a b else Divuw d a b) else
    if funct3 == 4 then Divw d a b else
    if funct3 == 6 then Remw d a b else
    Remuw d a b

abbrev by_opcode : (word opcode funct3 funct6 funct7 : ℕ) → Inst
by_opcode word opcode funct3 funct6 funct7 =
    if opcode == 0x37 then by_37 word funct3 funct6 funct7 else
    if opcode == 0x17 then by_17 word funct3 funct6 funct7 else
    if opcode == 0x6f then by_6f word funct3 funct6 funct7 else
    if opcode == 0x67 then by_67 word funct3 funct6 funct7 else
    if opcode == 0x63 then by_63 word funct3 funct6 funct7 else
    if opcode == 0x3 then by_03 word funct3 funct6 funct7 else
    if opcode == 0x23 then by_23 word funct3 funct6 funct7 else
    if opcode == 0x13 then by_13 word funct3 funct6 funct7 else
    if opcode == 0x33 then by_33 word funct3 funct6 funct7 else
    if opcode == 0xf then by_0f word funct3 funct6 funct7 else
    if opcode == 0x73 then by_73 word funct3 funct6 funct7 else
    if opcode == 0x1b then by_1b word funct3 funct6 funct7 else
    by_3b word funct3 funct6 funct7

-- the instruction of a word, by the fields that tell rows apart
abbrev full_inst : ℕ → Inst
full_inst word = by_opcode word (field word 0 7) (field word 12 3) (field word 26 6) (field word 25 7)

-- by the fields of each format
by_u : {word opcode rd : ℕ} {imm : ℤ} → FormatU word opcode rd imm →
    full_inst word ≡ by_opcode word opcode (field word 12 3) (field word 26 6) (field word 25 7)
by_u {word} f = λ i.
    by_opcode word (f.opcode_is i) (field word 12 3) (field word 26 6) (field word 25 7)

by_j : {word opcode rd : ℕ} {imm : ℤ} → FormatJ word opcode rd imm →
    full_inst word ≡ by_opcode word opcode (field word 12 3) (field word 26 6) (field word 25 7)
by_j {word} f = λ i.
    by_opcode word (f.opcode_is i) (field word 12 3) (field word 26 6) (field word 25 7)

by_i : {word opcode funct3 rd rs1 : ℕ} {imm : ℤ} → FormatI word opcode funct3 rd rs1 imm →
    full_inst word ≡ by_opcode word opcode funct3 (field word 26 6) (field word 25 7)
by_i {word} f = λ i.
    by_opcode word (f.opcode_is i) (f.funct3_is i) (field word 26 6) (field word 25 7)

by_s : {word opcode funct3 rs1 rs2 : ℕ} {imm : ℤ} → FormatS word opcode funct3 rs1 rs2 imm →
    full_inst word ≡ by_opcode word opcode funct3 (field word 26 6) (field word 25 7)
by_s {word} f = λ i.
    by_opcode word (f.opcode_is i) (f.funct3_is i) (field word 26 6) (field word 25 7)

by_b : {word opcode funct3 rs1 rs2 : ℕ} {imm : ℤ} → FormatB word opcode funct3 rs1 rs2 imm →
    full_inst word ≡ by_opcode word opcode funct3 (field word 26 6) (field word 25 7)
by_b {word} f = λ i.
    by_opcode word (f.opcode_is i) (f.funct3_is i) (field word 26 6) (field word 25 7)

by_r : {word opcode funct3 funct7 rd rs1 rs2 : ℕ} → FormatR word opcode funct3 funct7 rd rs1 rs2 →
    full_inst word ≡ by_opcode word opcode funct3 (field word 26 6) funct7
by_r {word} f = λ i.
    by_opcode word (f.opcode_is i) (f.funct3_is i) (field word 26 6) (f.funct7_is i)

by_shift64 : {word opcode funct3 funct6 rd rs1 : ℕ} {imm : ℤ} → Shift64 word opcode funct3 funct6 rd rs1 imm →
    full_inst word ≡ by_opcode word opcode funct3 funct6 (field word 25 7)
by_shift64 {word} f = λ i.
    by_opcode word (f.opcode_is i) (f.funct3_is i) (f.funct6_is i) (field word 25 7)

by_shift32 : {word opcode funct3 funct7 rd rs1 : ℕ} {imm : ℤ} → Shift32 word opcode funct3 funct7 rd rs1 imm →
    full_inst word ≡ by_opcode word opcode funct3 (field word 26 6) funct7
by_shift32 {word} f = λ i.
    by_opcode word (f.opcode_is i) (f.funct3_is i) (field word 26 6) (f.funct7_is i)

full_is : (word : ℕ) (inst : Inst) → IsFull word inst → full_inst word ≡ inst
full_is word (Lui rd imm) f = by_u f ∙ (λ i. Lui (f.rd_is i) (f.imm_is i))
full_is word (Auipc rd imm) f = by_u f ∙ (λ i. Auipc (f.rd_is i) (f.imm_is i))
full_is word (Jal rd imm) f = by_j f ∙ (λ i. Jal (f.rd_is i) (f.imm_is i))
full_is word (Jalr rd rs1 imm) f = by_i f ∙ (λ i. Jalr (f.rd_is i) (f.rs1_is i) (f.imm_is i))
full_is word (Beq rs1 rs2 imm) f = by_b f ∙ (λ i. Beq (f.rs1_is i) (f.rs2_is i) (f.imm_is i))
full_is word (Bne rs1 rs2 imm) f = by_b f ∙ (λ i. Bne (f.rs1_is i) (f.rs2_is i) (f.imm_is i))
full_is word (Blt rs1 rs2 imm) f = by_b f ∙ (λ i. Blt (f.rs1_is i) (f.rs2_is i) (f.imm_is i))
full_is word (Bge rs1 rs2 imm) f = by_b f ∙ (λ i. Bge (f.rs1_is i) (f.rs2_is i) (f.imm_is i))
full_is word (Bltu rs1 rs2 imm) f = by_b f ∙ (λ i. Bltu (f.rs1_is i) (f.rs2_is i) (f.imm_is i))
full_is word (Bgeu rs1 rs2 imm) f = by_b f ∙ (λ i. Bgeu (f.rs1_is i) (f.rs2_is i) (f.imm_is i))
full_is word (Lb rd rs1 imm) f = by_i f ∙ (λ i. Lb (f.rd_is i) (f.rs1_is i) (f.imm_is i))
full_is word (Lh rd rs1 imm) f = by_i f ∙ (λ i. Lh (f.rd_is i) (f.rs1_is i) (f.imm_is i))
full_is word (Lw rd rs1 imm) f = by_i f ∙ (λ i. Lw (f.rd_is i) (f.rs1_is i) (f.imm_is i))
full_is word (Ld rd rs1 imm) f = by_i f ∙ (λ i. Ld (f.rd_is i) (f.rs1_is i) (f.imm_is i))
full_is word (Lbu rd rs1 imm) f = by_i f ∙ (λ i. Lbu (f.rd_is i) (f.rs1_is i) (f.imm_is i))
full_is word (Lhu rd rs1 imm) f = by_i f ∙ (λ i. Lhu (f.rd_is i) (f.rs1_is i) (f.imm_is i))
full_is word (Lwu rd rs1 imm) f = by_i f ∙ (λ i. Lwu (f.rd_is i) (f.rs1_is i) (f.imm_is i))
full_is word (Sb rs1 rs2 imm) f = by_s f ∙ (λ i. Sb (f.rs1_is i) (f.rs2_is i) (f.imm_is i))
full_is word (Sh rs1 rs2 imm) f = by_s f ∙ (λ i. Sh (f.rs1_is i) (f.rs2_is i) (f.imm_is i))
full_is word (Sw rs1 rs2 imm) f = by_s f ∙ (λ i. Sw (f.rs1_is i) (f.rs2_is i) (f.imm_is i))
full_is word (Sd rs1 rs2 imm) f = by_s f ∙ (λ i. Sd (f.rs1_is i) (f.rs2_is i) (f.imm_is i))
full_is word (Addi rd rs1 imm) f = by_i f ∙ (λ i. Addi (f.rd_is i) (f.rs1_is i) (f.imm_is i))
full_is word (Slti rd rs1 imm) f = by_i f ∙ (λ i. Slti (f.rd_is i) (f.rs1_is i) (f.imm_is i))
full_is word (Sltiu rd rs1 imm) f = by_i f ∙ (λ i. Sltiu (f.rd_is i) (f.rs1_is i) (f.imm_is i))
full_is word (Xori rd rs1 imm) f = by_i f ∙ (λ i. Xori (f.rd_is i) (f.rs1_is i) (f.imm_is i))
full_is word (Ori rd rs1 imm) f = by_i f ∙ (λ i. Ori (f.rd_is i) (f.rs1_is i) (f.imm_is i))
full_is word (Andi rd rs1 imm) f = by_i f ∙ (λ i. Andi (f.rd_is i) (f.rs1_is i) (f.imm_is i))
full_is word (Slli rd rs1 imm) f = by_shift64 f ∙ (λ i. Slli (f.rd_is i) (f.rs1_is i) (f.amount_is i))
full_is word (Srli rd rs1 imm) f = by_shift64 f ∙ (λ i. Srli (f.rd_is i) (f.rs1_is i) (f.amount_is i))
full_is word (Srai rd rs1 imm) f = by_shift64 f ∙ (λ i. Srai (f.rd_is i) (f.rs1_is i) (f.amount_is i))
full_is word (Add rd rs1 rs2) f = by_r f ∙ (λ i. Add (f.rd_is i) (f.rs1_is i) (f.rs2_is i))
full_is word (Sub rd rs1 rs2) f = by_r f ∙ (λ i. Sub (f.rd_is i) (f.rs1_is i) (f.rs2_is i))
full_is word (Sll rd rs1 rs2) f = by_r f ∙ (λ i. Sll (f.rd_is i) (f.rs1_is i) (f.rs2_is i))
full_is word (Slt rd rs1 rs2) f = by_r f ∙ (λ i. Slt (f.rd_is i) (f.rs1_is i) (f.rs2_is i))
full_is word (Sltu rd rs1 rs2) f = by_r f ∙ (λ i. Sltu (f.rd_is i) (f.rs1_is i) (f.rs2_is i))
full_is word (Xor rd rs1 rs2) f = by_r f ∙ (λ i. Xor (f.rd_is i) (f.rs1_is i) (f.rs2_is i))
full_is word (Srl rd rs1 rs2) f = by_r f ∙ (λ i. Srl (f.rd_is i) (f.rs1_is i) (f.rs2_is i))
full_is word (Sra rd rs1 rs2) f = by_r f ∙ (λ i. Sra (f.rd_is i) (f.rs1_is i) (f.rs2_is i))
full_is word (Or rd rs1 rs2) f = by_r f ∙ (λ i. Or (f.rd_is i) (f.rs1_is i) (f.rs2_is i))
full_is word (And rd rs1 rs2) f = by_r f ∙ (λ i. And (f.rd_is i) (f.rs1_is i) (f.rs2_is i))
full_is word (Fence rd rs1 imm) f = by_i f ∙ (λ i. Fence (f.rd_is i) (f.rs1_is i) (f.imm_is i))
full_is word Ecall f = ap full_inst f
full_is word Ebreak f = ap full_inst f
full_is word (Addiw rd rs1 imm) f = by_i f ∙ (λ i. Addiw (f.rd_is i) (f.rs1_is i) (f.imm_is i))
full_is word (Slliw rd rs1 imm) f = by_shift32 f ∙ (λ i. Slliw (f.rd_is i) (f.rs1_is i) (f.amount_is i))
full_is word (Srliw rd rs1 imm) f = by_shift32 f ∙ (λ i. Srliw (f.rd_is i) (f.rs1_is i) (f.amount_is i))
full_is word (Sraiw rd rs1 imm) f = by_shift32 f ∙ (λ i. Sraiw (f.rd_is i) (f.rs1_is i) (f.amount_is i))
full_is word (Addw rd rs1 rs2) f = by_r f ∙ (λ i. Addw (f.rd_is i) (f.rs1_is i) (f.rs2_is i))
full_is word (Subw rd rs1 rs2) f = by_r f ∙ (λ i. Subw (f.rd_is i) (f.rs1_is i) (f.rs2_is i))
full_is word (Sllw rd rs1 rs2) f = by_r f ∙ (λ i. Sllw (f.rd_is i) (f.rs1_is i) (f.rs2_is i))
full_is word (Srlw rd rs1 rs2) f = by_r f ∙ (λ i. Srlw (f.rd_is i) (f.rs1_is i) (f.rs2_is i))
full_is word (Sraw rd rs1 rs2) f = by_r f ∙ (λ i. Sraw (f.rd_is i) (f.rs1_is i) (f.rs2_is i))
full_is word (Mul rd rs1 rs2) f = by_r f ∙ (λ i. Mul (f.rd_is i) (f.rs1_is i) (f.rs2_is i))
full_is word (Mulh rd rs1 rs2) f = by_r f ∙ (λ i. Mulh (f.rd_is i) (f.rs1_is i) (f.rs2_is i))
full_is word (Mulhsu rd rs1 rs2) f = by_r f ∙ (λ i. Mulhsu (f.rd_is i) (f.rs1_is i) (f.rs2_is i))
full_is word (Mulhu rd rs1 rs2) f = by_r f ∙ (λ i. Mulhu (f.rd_is i) (f.rs1_is i) (f.rs2_is i))
full_is word (Div rd rs1 rs2) f = by_r f ∙ (λ i. Div (f.rd_is i) (f.rs1_is i) (f.rs2_is i))
full_is word (Divu rd rs1 rs2) f = by_r f ∙ (λ i. Divu (f.rd_is i) (f.rs1_is i) (f.rs2_is i))
full_is word (Rem rd rs1 rs2) f = by_r f ∙ (λ i. Rem (f.rd_is i) (f.rs1_is i) (f.rs2_is i))
full_is word (Remu rd rs1 rs2) f = by_r f ∙ (λ i. Remu (f.rd_is i) (f.rs1_is i) (f.rs2_is i))
full_is word (Mulw rd rs1 rs2) f = by_r f ∙ (λ i. Mulw (f.rd_is i) (f.rs1_is i) (f.rs2_is i))
full_is word (Divw rd rs1 rs2) f = by_r f ∙ (λ i. Divw (f.rd_is i) (f.rs1_is i) (f.rs2_is i))
full_is word (Divuw rd rs1 rs2) f = by_r f ∙ (λ i. Divuw (f.rd_is i) (f.rs1_is i) (f.rs2_is i))
full_is word (Remw rd rs1 rs2) f = by_r f ∙ (λ i. Remw (f.rd_is i) (f.rs1_is i) (f.rs2_is i))
full_is word (Remuw rd rs1 rs2) f = by_r f ∙ (λ i. Remuw (f.rd_is i) (f.rs1_is i) (f.rs2_is i))

-- Halfwords.

equal : (a b : ℕ) → a ≡ b → (a == b) ≡ true
equal a b same = grind (arith, nat_tests)

apart : (a b : ℕ) → a ≢ b → (a == b) ≡ false
apart a b differ = grind (arith, nat_tests, differ)

abbrev row_by : (quadrant funct3 kind bit12 funct2 : ℕ) (no_rd no_rs2 stack : Bool) → Row
row_by quadrant funct3 kind bit12 funct2 no_rd no_rs2 stack =
    if quadrant == 0 then zeroth else if quadrant == 1 then first else second
  where
    zeroth : Row
    zeroth =
        if funct3 == 0 then row.C_ADDI4SPN else if funct3 == 2 then row.C_LW else if funct3 == 3 then row.C_LD else
        if funct3 == 6 then row.C_SW else row.C_SD

    arithmetic : Row
    arithmetic =
        if kind == 0 then row.C_SRLI else if kind == 1 then row.C_SRAI else if kind == 2 then row.C_ANDI else
        if bit12 == 0
        then (if funct2 == 0 then row.C_SUB else if funct2 == 1 then row.C_XOR else if funct2 == 2 then row.C_OR else row.C_AND)
        else if funct2 == 0 then row.C_SUBW else row.C_ADDW

    first : Row
    first =
        if funct3 == 0 then row.C_ADDI else if funct3 == 1 then row.C_ADDIW else if funct3 == 2 then row.C_LI else
        if funct3 == 3 then (if stack then row.C_ADDI16SP else row.C_LUI) else
        if funct3 == 4 then arithmetic else if funct3 == 5 then row.C_J else if funct3 == 6 then row.C_BEQZ else row.C_BNEZ

    jumps : Row
    jumps =
        if bit12 == 0 then (if no_rs2 then row.C_JR else row.C_MV)
        else if no_rs2 then (if no_rd then row.C_EBREAK else row.C_JALR) else row.C_ADD

    second : Row
    second =
        if funct3 == 0 then row.C_SLLI else if funct3 == 2 then row.C_LWSP else if funct3 == 3 then row.C_LDSP else
        if funct3 == 4 then jumps else if funct3 == 6 then row.C_SWSP else row.C_SDSP

-- the row of a halfword, by the fields that tell rows apart
abbrev row_of : ℕ → Row
row_of half =
    row_by (field half 0 2) (field half 13 3) (field half 10 2) (field half 12 1) (field half 5 2) (rd half == 0) (rs2 half == 0)
    (rd half == 2)

row_is : (row : Row) (half : ℕ) → Matches row half → row_of half ≡ row
row_is row.C_LW half m =
    λ i. row_by (m.quadrant_is i) (m.funct3_is i) (field half 10 2) (field half 12 1) (field half 5 2) (rd half ==
    0) (rs2 half == 0) (rd half == 2)
row_is row.C_LD half m =
    λ i. row_by (m.quadrant_is i) (m.funct3_is i) (field half 10 2) (field half 12 1) (field half 5 2) (rd half ==
    0) (rs2 half == 0) (rd half == 2)
row_is row.C_SW half m =
    λ i. row_by (m.quadrant_is i) (m.funct3_is i) (field half 10 2) (field half 12 1) (field half 5 2) (rd half ==
    0) (rs2 half == 0) (rd half == 2)
row_is row.C_SD half m =
    λ i. row_by (m.quadrant_is i) (m.funct3_is i) (field half 10 2) (field half 12 1) (field half 5 2) (rd half ==
    0) (rs2 half == 0) (rd half == 2)
row_is row.C_ADDI half m =
    λ i. row_by (m.quadrant_is i) (m.funct3_is i) (field half 10 2) (field half 12 1) (field half 5 2) (rd half ==
    0) (rs2 half == 0) (rd half == 2)
row_is row.C_LI half m =
    λ i. row_by (m.quadrant_is i) (m.funct3_is i) (field half 10 2) (field half 12 1) (field half 5 2) (rd half ==
    0) (rs2 half == 0) (rd half == 2)
row_is row.C_J half m =
    λ i. row_by (m.quadrant_is i) (m.funct3_is i) (field half 10 2) (field half 12 1) (field half 5 2) (rd half ==
    0) (rs2 half == 0) (rd half == 2)
row_is row.C_BEQZ half m =
    λ i. row_by (m.quadrant_is i) (m.funct3_is i) (field half 10 2) (field half 12 1) (field half 5 2) (rd half ==
    0) (rs2 half == 0) (rd half == 2)
row_is row.C_BNEZ half m =
    λ i. row_by (m.quadrant_is i) (m.funct3_is i) (field half 10 2) (field half 12 1) (field half 5 2) (rd half ==
    0) (rs2 half == 0) (rd half == 2)
row_is row.C_SLLI half m =
    λ i. row_by (m.quadrant_is i) (m.funct3_is i) (field half 10 2) (field half 12 1) (field half 5 2) (rd half ==
    0) (rs2 half == 0) (rd half == 2)
row_is row.C_SWSP half m =
    λ i. row_by (m.quadrant_is i) (m.funct3_is i) (field half 10 2) (field half 12 1) (field half 5 2) (rd half ==
    0) (rs2 half == 0) (rd half == 2)
row_is row.C_SDSP half m =
    λ i. row_by (m.quadrant_is i) (m.funct3_is i) (field half 10 2) (field half 12 1) (field half 5 2) (rd half ==
    0) (rs2 half == 0) (rd half == 2)
row_is row.C_ADDI4SPN half m =
    λ i. row_by (m.0.quadrant_is i) (m.0.funct3_is i) (field half 10 2) (field half 12 1) (field half 5 2) (rd half
    == 0) (rs2 half == 0) (rd half == 2)
row_is row.C_ADDIW half m =
    λ i. row_by (m.0.quadrant_is i) (m.0.funct3_is i) (field half 10 2) (field half 12 1) (field half 5 2) (rd half
    == 0) (rs2 half == 0) (rd half == 2)
row_is row.C_LWSP half m =
    λ i. row_by (m.0.quadrant_is i) (m.0.funct3_is i) (field half 10 2) (field half 12 1) (field half 5 2) (rd half
    == 0) (rs2 half == 0) (rd half == 2)
row_is row.C_LDSP half m =
    λ i. row_by (m.0.quadrant_is i) (m.0.funct3_is i) (field half 10 2) (field half 12 1) (field half 5 2) (rd half
    == 0) (rs2 half == 0) (rd half == 2)
row_is row.C_ADDI16SP half m =
    let is = equal (rd half) 2 m.1 in
    λ i. row_by (m.0.quadrant_is i) (m.0.funct3_is i) (field half 10 2) (field half 12 1) (field half 5 2) (rd half
    == 0) (rs2 half == 0) (is i)
row_is row.C_LUI half m =
    let is = apart (rd half) 2 m.1 in
    λ i. row_by (m.0.quadrant_is i) (m.0.funct3_is i) (field half 10 2) (field half 12 1) (field half 5 2) (rd half
    == 0) (rs2 half == 0) (is i)
row_is row.C_SRLI half m =
    λ i. row_by (m.opens.quadrant_is i) (m.opens.funct3_is i) (m.kind_is i) (field half 12 1) (field half 5 2) (rd
    half == 0) (rs2 half == 0) (rd half == 2)
row_is row.C_SRAI half m =
    λ i. row_by (m.opens.quadrant_is i) (m.opens.funct3_is i) (m.kind_is i) (field half 12 1) (field half 5 2) (rd
    half == 0) (rs2 half == 0) (rd half == 2)
row_is row.C_ANDI half m =
    λ i. row_by (m.opens.quadrant_is i) (m.opens.funct3_is i) (m.kind_is i) (field half 12 1) (field half 5 2) (rd
    half == 0) (rs2 half == 0) (rd half == 2)
row_is row.C_SUB half m =
    λ i. row_by (m.opens.opens.quadrant_is i) (m.opens.opens.funct3_is i) (m.opens.kind_is i) (m.bit12_is i)
    (m.funct2_is i) (rd half == 0) (rs2 half == 0) (rd half == 2)
row_is row.C_XOR half m =
    λ i. row_by (m.opens.opens.quadrant_is i) (m.opens.opens.funct3_is i) (m.opens.kind_is i) (m.bit12_is i)
    (m.funct2_is i) (rd half == 0) (rs2 half == 0) (rd half == 2)
row_is row.C_OR half m =
    λ i. row_by (m.opens.opens.quadrant_is i) (m.opens.opens.funct3_is i) (m.opens.kind_is i) (m.bit12_is i)
    (m.funct2_is i) (rd half == 0) (rs2 half == 0) (rd half == 2)
row_is row.C_AND half m =
    λ i. row_by (m.opens.opens.quadrant_is i) (m.opens.opens.funct3_is i) (m.opens.kind_is i) (m.bit12_is i)
    (m.funct2_is i) (rd half == 0) (rs2 half == 0) (rd half == 2)
row_is row.C_SUBW half m =
    λ i. row_by (m.opens.opens.quadrant_is i) (m.opens.opens.funct3_is i) (m.opens.kind_is i) (m.bit12_is i)
    (m.funct2_is i) (rd half == 0) (rs2 half == 0) (rd half == 2)
row_is row.C_ADDW half m =
    λ i. row_by (m.opens.opens.quadrant_is i) (m.opens.opens.funct3_is i) (m.opens.kind_is i) (m.bit12_is i)
    (m.funct2_is i) (rd half == 0) (rs2 half == 0) (rd half == 2)
row_is row.C_JR half m =
    let is = equal (rs2 half) 0 m.1 in
    λ i. row_by (m.0.opens.quadrant_is i) (m.0.opens.funct3_is i) (field half 10 2) (m.0.bit12_is i) (field half 5
    2) (rd half == 0) (is i) (rd half == 2)
row_is row.C_MV half m =
    let is = apart (rs2 half) 0 m.1 in
    λ i. row_by (m.0.opens.quadrant_is i) (m.0.opens.funct3_is i) (field half 10 2) (m.0.bit12_is i) (field half 5
    2) (rd half == 0) (is i) (rd half == 2)
row_is row.C_EBREAK half m =
    let is = equal (rs2 half) 0 m.1 in
    let none = equal (rd half) 0 m.2 in
    λ i. row_by (m.0.opens.quadrant_is i) (m.0.opens.funct3_is i) (field half 10 2) (m.0.bit12_is i) (field half 5
    2) (none i) (is i) (rd half == 2)
row_is row.C_JALR half m =
    let is = equal (rs2 half) 0 m.1 in
    let none = apart (rd half) 0 m.2 in
    λ i. row_by (m.0.opens.quadrant_is i) (m.0.opens.funct3_is i) (field half 10 2) (m.0.bit12_is i) (field half 5
    2) (none i) (is i) (rd half == 2)
row_is row.C_ADD half m =
    let is = apart (rs2 half) 0 m.1 in
    λ i. row_by (m.0.opens.quadrant_is i) (m.0.opens.funct3_is i) (field half 10 2) (m.0.bit12_is i) (field half 5
    2) (rd half == 0) (is i) (rd half == 2)

-- Both.

one_half : (half : ℕ) (i j : Inst) → IsHalf half i → IsHalf half j → i ≡ j
one_half half i j (r, m, is) (s, n, at) =
    let same = sym (row_is r half m) ∙ row_is s half n in
    is ∙ ap (λ (t : Row). expansion t half) same ∙ sym at

one_full : (half : ℕ) (next : Option ℕ) (i j : Inst) → IsSomeAnd next (λ upper. IsFull (upper * 2 ^ 16 + half) i) →
    IsSomeAnd next (λ upper. IsFull (upper * 2 ^ 16 + half) j) → i ≡ j
one_full half None i j is at = absurd is
one_full half (Some upper) i j is at = sym (full_is (upper * 2 ^ 16 + half) i is) ∙ full_is (upper * 2 ^ 16 + half) j at

pub one_decoding : (half : ℕ) (next : Option ℕ) (i j : Inst) (m n : ℕ) → Decodes half next i m → Decodes half next j n →
    (i ≡ j) × (m ≡ n)
one_decoding half next i j m n (inl is) (inl at) = (one_half half i j is.row at.row, is.two_bytes ∙ sym at.two_bytes)
one_decoding half next i j m n (inl is) (inr at) = absurd (is.is_half at.is_full)
one_decoding half next i j m n (inr is) (inl at) = absurd (at.is_half is.is_full)
one_decoding half next i j m n (inr is) (inr at) = (one_full half next i j is.row at.row, is.four_bytes ∙ sym at.four_bytes)
