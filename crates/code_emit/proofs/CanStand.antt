-- The new code for an instruction of the input can be encoded, if it reaches.
use Rattle.std.proofs.Common.{◌≡◌, ℕ, ◌+◌, ◌*◌, ◌%◌, ◌^◌, ◌<◌, ◌≤◌, List, [], ◌∷◌, ◌++◌, Option, Some, None, Bool, true, false}
use Rattle.std.proofs.Common.{refl, sym, ap, ◌∙◌, subst, arith, inl, inr, ℤ, pos}
use Rattle.std.specs.Prelude.{not, if◌then◌else◌}
use Rattle.std.specs.Option.{option_map_or}
use Rattle.std.specs.List.{list_all}
use Rattle.std.proofs.lemmas.Bool.{and_parts}
use Rattle.std.proofs.lemmas.Int.{ints}
use Rattle.rv_code.specs.declared.inst.Inst.{Inst}
use Rattle.rv_code.specs.declared.inst.Inst.TheVariants.{Lui, Auipc, Jal, Jalr, Beq, Bne, Blt, Bge, Bltu, Bgeu, Lb, Lh, Lw, Ld}
use Rattle.rv_code.specs.declared.inst.Inst.TheVariants.{Lbu, Lhu, Lwu, Sb, Sh, Sw, Sd, Addi}
use Rattle.rv_code.specs.declared.layout.Form.{Form}
use Rattle.rv_code.specs.declared.layout.Form.TheVariants as form
use Rattle.rv_code.specs.declared.layout.Size.{Size}
use Rattle.rv_code.specs.declared.layout.Size.TheVariants.{Half, Full, Long}
use Rattle.rv_code.specs.declared.placed.Placed.{Placed}
use Rattle.rv_code.specs.declared.placed.Role.{Role}
use Rattle.rv_code.specs.declared.placed.Role.TheVariants as role
use Rattle.rv_code.specs.isa.Action.{action_of}
use Rattle.rv_code.specs.isa.Bits.{field}
use Rattle.rv_code.specs.isa.InstBytes.{Decodes}
use Rattle.rv_code.specs.isa.FullRows.{IsFull}
use Rattle.rv_code.specs.isa.HalfRows.{Row, expansion, C_J, C_BEQZ, C_BNEZ}
use Rattle.rv_code.specs.layout.Flow.{is_branch, target, target_of, action_at}
use Rattle.rv_code.specs.isa.HiLo.{hi20, lo12}
use Rattle.rv_code.specs.isa.Reach.{IsWithin, Reaches}
use Rattle.rv_encode.specs.FittingOperands.{FitsFull, FitsHalf, FitsTwo}
use Rattle.move_law.specs.RelocatedValues.{distance}
use Rattle.move_law.specs.FaithfulRewrite.{with_immediate, made_anew}
use Rattle.code_emit.specs.NewInsts.{Made, with_distance, turned, kept, jump_to, added, made}
use Rattle.rv_code.specs.isa.AddressParts.{IsAuipc, IsLui, TakesLower}
use Rattle.code_emit.specs.Inputs.{FitsRole}
use Rattle.branch_fixup.specs.Distances.{reaches, Leap, lands, reach_of, main_leap, added_leap, new_target}
use Rattle.branch_fixup.proofs.Laid.{even_sum}
use Rattle.code_emit.specs.Bytes.{CanBeEncoded, AllCanBeEncoded}
use Rattle.code_emit.proofs.Fit.{reaches_is, lower_within, upper_within, upper_of_number_within}

fits_can : (m : Made) → m.bytes ≡ 4 → FitsFull m.inst → CanBeEncoded m
fits_can m e fits =
    subst (λ (n : ℕ). CanBeEncoded (record { inst = m.inst; bytes = n })) (sym e)
    (record { encodable = λ none _. none fits; length_is = refl })

half_can : (m : Made) → m.bytes ≡ 2 → FitsHalf m.inst → CanBeEncoded m
half_can m e fits =
    subst (λ (n : ℕ). CanBeEncoded (record { inst = m.inst; bytes = n })) (sym e)
    (record { encodable = λ none _. none fits; length_is = refl })

-- an instruction of the input that is unchanged
same_can : (half : ℕ) (next : Option ℕ) (i : Inst) (n : ℕ) → Decodes half next i n → CanBeEncoded (record { inst = i; bytes = n })
same_can half next i n (inl d) =
    subst (λ (k : ℕ). CanBeEncoded (record { inst = i; bytes = k })) (sym d.two_bytes)
    (record {
      encodable = λ _ none. none half next (inl (record { is_half = d.is_half; two_bytes = refl; row = d.row }));
      length_is = refl;
    })
same_can half next i n (inr d) =
    subst (λ (k : ℕ). CanBeEncoded (record { inst = i; bytes = k })) (sym d.four_bytes)
    (record {
      encodable = λ _ none. none half next (inr (record { is_full = d.is_full; four_bytes = refl; row = d.row }));
      length_is = refl;
    })

-- JAL x0
jal_can : (t a : ℕ) → reaches (2 ^ 20) a t ≡ true → a % 2 ≡ 0 → t % 2 ≡ 0 → CanBeEncoded (jump_to t a)
jal_can t a r h k = fits_can (jump_to t a) refl (omega arith, reaches_is (2 ^ 20) a t r h k)

-- Registers of branches.
abbrev BranchRegisters : Inst → Type 0
BranchRegisters (Beq rs1 rs2 imm) = (rs1 < 32) × (rs2 < 32)
BranchRegisters (Bne rs1 rs2 imm) = (rs1 < 32) × (rs2 < 32)
BranchRegisters (Blt rs1 rs2 imm) = (rs1 < 32) × (rs2 < 32)
BranchRegisters (Bge rs1 rs2 imm) = (rs1 < 32) × (rs2 < 32)
BranchRegisters (Bltu rs1 rs2 imm) = (rs1 < 32) × (rs2 < 32)
BranchRegisters (Bgeu rs1 rs2 imm) = (rs1 < 32) × (rs2 < 32)
BranchRegisters _ = Unit {0}

five : (w low r : ℕ) → field w low 5 ≡ r → r < 32
five w low r e = omega (arith, e)

full_registers : (w : ℕ) (i : Inst) → IsFull w i → BranchRegisters i
full_registers w (Beq rs1 rs2 imm) row = (five w 15 rs1 row.rs1_is, five w 20 rs2 row.rs2_is)
full_registers w (Bne rs1 rs2 imm) row = (five w 15 rs1 row.rs1_is, five w 20 rs2 row.rs2_is)
full_registers w (Blt rs1 rs2 imm) row = (five w 15 rs1 row.rs1_is, five w 20 rs2 row.rs2_is)
full_registers w (Bge rs1 rs2 imm) row = (five w 15 rs1 row.rs1_is, five w 20 rs2 row.rs2_is)
full_registers w (Bltu rs1 rs2 imm) row = (five w 15 rs1 row.rs1_is, five w 20 rs2 row.rs2_is)
full_registers w (Bgeu rs1 rs2 imm) row = (five w 15 rs1 row.rs1_is, five w 20 rs2 row.rs2_is)
full_registers w _ row = tt

row_registers : (r : Row) (h : ℕ) → BranchRegisters (expansion r h)
row_registers C_BEQZ h = (omega arith, omega arith)
row_registers C_BNEZ h = (omega arith, omega arith)
row_registers _ h = tt

registers_of : (half : ℕ) (next : Option ℕ) (i : Inst) (n : ℕ) → Decodes half next i n → BranchRegisters i
registers_of half next i n (inl d) = let (r, matches, is) = d.row in subst BranchRegisters (sym is) (row_registers r half)
registers_of half None i n (inr d) = absurd d.row
registers_of half (Some u) i n (inr d) = full_registers (u * 2 ^ 16 + half) i d.row

branch_fits : (i : Inst) (b : Bool) (z : ℤ) → BranchRegisters i → is_branch (action_of i) ≡ true → Reaches (2 ^ 12) z →
    FitsFull (with_distance (turned b i) z)
branch_fits (Beq rs1 rs2 imm) true z h k r = record { rs1_is_register = h.0; rs2_is_register = h.1; reaches = r }
branch_fits (Beq rs1 rs2 imm) false z h k r = record { rs1_is_register = h.0; rs2_is_register = h.1; reaches = r }
branch_fits (Bne rs1 rs2 imm) true z h k r = record { rs1_is_register = h.0; rs2_is_register = h.1; reaches = r }
branch_fits (Bne rs1 rs2 imm) false z h k r = record { rs1_is_register = h.0; rs2_is_register = h.1; reaches = r }
branch_fits (Blt rs1 rs2 imm) true z h k r = record { rs1_is_register = h.0; rs2_is_register = h.1; reaches = r }
branch_fits (Blt rs1 rs2 imm) false z h k r = record { rs1_is_register = h.0; rs2_is_register = h.1; reaches = r }
branch_fits (Bge rs1 rs2 imm) true z h k r = record { rs1_is_register = h.0; rs2_is_register = h.1; reaches = r }
branch_fits (Bge rs1 rs2 imm) false z h k r = record { rs1_is_register = h.0; rs2_is_register = h.1; reaches = r }
branch_fits (Bltu rs1 rs2 imm) true z h k r = record { rs1_is_register = h.0; rs2_is_register = h.1; reaches = r }
branch_fits (Bltu rs1 rs2 imm) false z h k r = record { rs1_is_register = h.0; rs2_is_register = h.1; reaches = r }
branch_fits (Bgeu rs1 rs2 imm) true z h k r = record { rs1_is_register = h.0; rs2_is_register = h.1; reaches = r }
branch_fits (Bgeu rs1 rs2 imm) false z h k r = record { rs1_is_register = h.0; rs2_is_register = h.1; reaches = r }
branch_fits _ b z h k r = absurd (cc)

row_fits : (x : Row) (h : ℕ) (b : Bool) (z : ℤ) → is_branch (action_of (expansion x h)) ≡ true → Reaches (2 ^ 8) z →
    FitsHalf (with_distance (turned b (expansion x h)) z)
row_fits C_BEQZ h true z k r = record { from_8 = omega arith; to_15 = omega arith; with_zero = refl; reaches = r }
row_fits C_BEQZ h false z k r = record { from_8 = omega arith; to_15 = omega arith; with_zero = refl; reaches = r }
row_fits C_BNEZ h true z k r = record { from_8 = omega arith; to_15 = omega arith; with_zero = refl; reaches = r }
row_fits C_BNEZ h false z k r = record { from_8 = omega arith; to_15 = omega arith; with_zero = refl; reaches = r }
row_fits _ h b z k r = absurd (cc)

half_branch_can : (half : ℕ) (next : Option ℕ) (i : Inst) (n : ℕ) (b : Bool) (z : ℤ) → Decodes half next i n → n ≡ 2 →
    is_branch (action_of i) ≡ true → Reaches (2 ^ 8) z → CanBeEncoded (record { inst = with_distance (turned b i) z; bytes = 2 })
half_branch_can half next i n b z (inl d) e k r =
    let (x, matches, is) = d.row in
    half_can (record { inst = with_distance (turned b i) z; bytes = 2 }) refl
    (subst (λ (j : Inst). FitsHalf (with_distance (turned b j) z)) (sym is)
    (row_fits x half b z (ap (λ (j : Inst). is_branch (action_of j)) (sym is) ∙ k) r))
half_branch_can half next i n b z (inr d) e k r = let f = d.four_bytes in absurd (omega (arith, e, f))

full_branch_can : (half : ℕ) (next : Option ℕ) (i : Inst) (n : ℕ) (b : Bool) (z : ℤ) → Decodes half next i n →
    is_branch (action_of i) ≡ true → Reaches (2 ^ 12) z → CanBeEncoded (record { inst = with_distance (turned b i) z; bytes = 4 })
full_branch_can half next i n b z d k r =
    fits_can (record { inst = with_distance (turned b i) z; bytes = 4 }) refl
    (branch_fits i b z (registers_of half next i n d) k r)

-- A jump or a call that keeps its width.
full_jump : (w a t : ℕ) (i : Inst) (z : ℤ) → IsFull w i → target a (action_of i) ≡ Some t → is_branch (action_of i) ≡ false →
    Reaches (2 ^ 20) z → FitsFull (with_distance i z)
full_jump w a t (Jal rd imm) z row e k r = (five w 7 rd row.rd_is, r)
full_jump w a t (Beq rs1 rs2 imm) z row e k r = absurd (cc)
full_jump w a t (Bne rs1 rs2 imm) z row e k r = absurd (cc)
full_jump w a t (Blt rs1 rs2 imm) z row e k r = absurd (cc)
full_jump w a t (Bge rs1 rs2 imm) z row e k r = absurd (cc)
full_jump w a t (Bltu rs1 rs2 imm) z row e k r = absurd (cc)
full_jump w a t (Bgeu rs1 rs2 imm) z row e k r = absurd (cc)
full_jump w a t _ z row e k r = absurd (cc)

half_jump : (x : Row) (h a t : ℕ) (z : ℤ) → target a (action_of (expansion x h)) ≡ Some t →
    is_branch (action_of (expansion x h)) ≡ false → Reaches (2 ^ 11) z → FitsHalf (with_distance (expansion x h) z)
half_jump C_J h a t z e k r = (refl, r)
half_jump C_BEQZ h a t z e k r = absurd (cc)
half_jump C_BNEZ h a t z e k r = absurd (cc)
half_jump _ h a t z e k r = absurd (cc)

-- a branch, a jump or a call that keeps its width and reaches
moved_can : (half : ℕ) (next : Option ℕ) (p : Placed) (a t to : ℕ) → Decodes half next p.inst p.len → target_of p ≡ Some t →
    reaches (reach_of p.len p) a to ≡ true → a % 2 ≡ 0 → to % 2 ≡ 0 →
    CanBeEncoded (record { inst = with_distance p.inst (distance to a); bytes = p.len })
moved_can half next p a t to (inl d) e r h k =
    let z : ℤ = distance to a in
    let r2 : reaches (reach_of 2 p) a to ≡ true = subst (λ (n : ℕ). reaches (reach_of n p) a to ≡ true) d.two_bytes r in
    subst (λ (n : ℕ). CanBeEncoded (record { inst = with_distance p.inst z; bytes = n })) (sym d.two_bytes)
    (by (is_branch (action_at p)) refl r2)
  where
    by : (b : Bool) → is_branch (action_at p) ≡ b → reaches (if b then 2 ^ 8 else 2 ^ 11) a to ≡ true →
        CanBeEncoded (record { inst = with_distance p.inst (distance to a); bytes = 2 })
    by true is r2 =
        half_branch_can half next p.inst 2 false (distance to a)
        (inl (record { is_half = d.is_half; two_bytes = refl; row = d.row })) refl is (reaches_is (2 ^ 8) a to r2 h k)
    by false is r2 =
        let (x, matches, eq) = d.row in
        half_can (record { inst = with_distance p.inst (distance to a); bytes = 2 }) refl
        (subst (λ (j : Inst). FitsHalf (with_distance j (distance to a))) (sym eq)
        (half_jump x half p.addr t (distance to a) (ap (λ (j : Inst). target p.addr (action_of j)) (sym eq) ∙ e)
        (ap (λ (j : Inst). is_branch (action_of j)) (sym eq) ∙ is) (reaches_is (2 ^ 11) a to r2 h k)))
moved_can half None p a t to (inr d) e r h k = absurd d.row
moved_can half (Some u) p a t to (inr d) e r h k =
    let r4 : reaches (reach_of 4 p) a to ≡ true = subst (λ (n : ℕ). reaches (reach_of n p) a to ≡ true) d.four_bytes r in
    fits_can (record { inst = with_distance p.inst (distance to a); bytes = p.len }) d.four_bytes
    (by (is_branch (action_at p)) refl r4)
  where
    by : (b : Bool) → is_branch (action_at p) ≡ b → reaches (if b then 2 ^ 12 else 2 ^ 20) a to ≡ true →
        FitsFull (with_distance p.inst (distance to a))
    by true is r4 =
        branch_fits p.inst false (distance to a) (registers_of half (Some u) p.inst p.len (inr d)) is
        (reaches_is (2 ^ 12) a to r4 h k)
    by false is r4 = full_jump (u * 2 ^ 16 + half) p.addr t p.inst (distance to a) d.row e is (reaches_is (2 ^ 20) a to r4 h k)

-- Parts of addresses.

two : (w : ℕ) (rd rs1 rd' rs1' : ℕ) (z : ℤ) (low low' : ℕ) → field w low 5 ≡ rd → field w low' 5 ≡ rs1 → IsWithin (2 ^ 11) z →
    FitsTwo rd rs1 z
two w rd rs1 rd' rs1' z low low' e f h =
    record { first_is_register = five w low rd e; second_is_register = five w low' rs1 f; is_within = h }

low_fits : (w : ℕ) (i : Inst) (z : ℤ) → IsFull w i → TakesLower i → IsWithin (2 ^ 11) z → FitsFull (with_immediate i z)
low_fits w (Addi rd rs1 imm) z row k h = two w rd rs1 0 0 z 7 15 row.rd_is row.rs1_is h
low_fits w (Jalr rd rs1 imm) z row k h = two w rd rs1 0 0 z 7 15 row.rd_is row.rs1_is h
low_fits w (Lb rd rs1 imm) z row k h = two w rd rs1 0 0 z 7 15 row.rd_is row.rs1_is h
low_fits w (Lh rd rs1 imm) z row k h = two w rd rs1 0 0 z 7 15 row.rd_is row.rs1_is h
low_fits w (Lw rd rs1 imm) z row k h = two w rd rs1 0 0 z 7 15 row.rd_is row.rs1_is h
low_fits w (Ld rd rs1 imm) z row k h = two w rd rs1 0 0 z 7 15 row.rd_is row.rs1_is h
low_fits w (Lbu rd rs1 imm) z row k h = two w rd rs1 0 0 z 7 15 row.rd_is row.rs1_is h
low_fits w (Lhu rd rs1 imm) z row k h = two w rd rs1 0 0 z 7 15 row.rd_is row.rs1_is h
low_fits w (Lwu rd rs1 imm) z row k h = two w rd rs1 0 0 z 7 15 row.rd_is row.rs1_is h
low_fits w (Sb rs1 rs2 imm) z row k h = two w rs1 rs2 0 0 z 15 20 row.rs1_is row.rs2_is h
low_fits w (Sh rs1 rs2 imm) z row k h = two w rs1 rs2 0 0 z 15 20 row.rs1_is row.rs2_is h
low_fits w (Sw rs1 rs2 imm) z row k h = two w rs1 rs2 0 0 z 15 20 row.rs1_is row.rs2_is h
low_fits w (Sd rs1 rs2 imm) z row k h = two w rs1 rs2 0 0 z 15 20 row.rs1_is row.rs2_is h
low_fits w _ z row k h = absurd k

auipc_fits : (w : ℕ) (i : Inst) (z : ℤ) → IsFull w i → IsAuipc i → IsWithin (2 ^ 19) z → FitsFull (with_immediate i z)
auipc_fits w (Auipc rd imm) z row k h = record { is_register = five w 7 rd row.rd_is; is_within = h }
auipc_fits w _ z row k h = absurd k

lui_fits : (w : ℕ) (i : Inst) (z : ℤ) → IsFull w i → IsLui i → IsWithin (2 ^ 19) z → FitsFull (with_immediate i z)
lui_fits w (Lui rd imm) z row k h = record { is_register = five w 7 rd row.rd_is; is_within = h }
lui_fits w _ z row k h = absurd k

record FullWord (i : Inst) : Type 0 where
  word : ℕ
  row : IsFull word i

full_word : (half : ℕ) (next : Option ℕ) (i : Inst) (n : ℕ) → Decodes half next i n → n ≡ 4 → FullWord i
full_word half next i n (inl d) e = let f = d.two_bytes in absurd (omega (arith, e, f))
full_word half None i n (inr d) e = absurd d.row
full_word half (Some u) i n (inr d) e = record { word = u * 2 ^ 16 + half; row = d.row }

-- new addresses of roles are low
abbrev pub AreLowRole : (ℕ → ℕ) → Role → Type 0
AreLowRole f role.Plain = Unit {0}
AreLowRole f (role.CallHi t) = f t ≤ 0x7fff_0000
AreLowRole f (role.CallLo hi t) = Unit {0}
AreLowRole f (role.Hi t) = f t ≤ 0x7fff_0000
AreLowRole f (role.Lo hi t) = Unit {0}
AreLowRole f (role.AbsHi t) = f t ≤ 0x7fff_0000
AreLowRole f (role.AbsLo t) = Unit {0}

module _ (f : ℕ → ℕ) (half : ℕ) (next : Option ℕ) (a : ℕ) (i : Inst) (n : ℕ) (d : Decodes half next i n)
    (low : f a ≤ 0x7fff_0000) where
  word_of : n ≡ 4 → FullWord i
  word_of e = full_word half next i n d e

  lower_can : (z : ℤ) → TakesLower i → n ≡ 4 → CanBeEncoded (record { inst = with_immediate i (lo12 z); bytes = n })
  lower_can z is e = let w = word_of e in
      fits_can (record { inst = with_immediate i (lo12 z); bytes = n }) e (low_fits w.word i (lo12 z) w.row is (lower_within z))

  upper_can : (t : ℕ) → IsAuipc i → n ≡ 4 → t ≤ 0x7fff_0000 →
      CanBeEncoded (record { inst = with_immediate i (hi20 (distance t (f a))); bytes = n })
  upper_can t is e h = let w = word_of e in
      fits_can (record { inst = with_immediate i (hi20 (distance t (f a))); bytes = n }) e
      (auipc_fits w.word i (hi20 (distance t (f a))) w.row is (upper_within t (f a) h low))

  number_can : (t : ℕ) → IsLui i → n ≡ 4 → t ≤ 0x7fff_0000 →
      CanBeEncoded (record { inst = with_immediate i (hi20 (pos t)); bytes = n })
  number_can t is e h = let w = word_of e in
      fits_can (record { inst = with_immediate i (hi20 (pos t)); bytes = n }) e
      (lui_fits w.word i (hi20 (pos t)) w.row is (upper_of_number_within t h))

  anew_can : (x : Role) → FitsRole x i n → AreLowRole f x → CanBeEncoded (record { inst = made_anew f a x i; bytes = n })
  anew_can role.Plain s l = same_can half next i n d
  anew_can (role.Hi t) s l = upper_can (f t) s.0 s.1 l
  anew_can (role.CallHi t) s l = upper_can (f t) s.0 s.1 l
  anew_can (role.Lo hi t) s l = lower_can (distance (f t) (f hi)) s.0 s.1
  anew_can (role.CallLo hi t) s l = lower_can (distance (f t) (f hi)) s.0 s.1
  anew_can (role.AbsHi t) s l = number_can (f t) s.0 s.1 l
  anew_can (role.AbsLo t) s l = lower_can (pos (f t)) s.0 s.1

-- An instruction of the input that can be in its form at address a.
pub record Fitting (f : ℕ → ℕ) (a : ℕ) (p : Placed) (x : Form) : Type 0 where
  pub half : ℕ
  pub next : Option ℕ
  pub decodes : Decodes half next p.inst p.len
  pub suits : FitsRole p.role p.inst p.len
  pub low_role : AreLowRole f p.role
  pub low : f p.addr ≤ 0x7fff_0000
  pub even : a % 2 ≡ 0
  pub even_len : p.len % 2 ≡ 0
  pub even_goal : new_target f p % 2 ≡ 0
  pub even_fall : f (p.addr + p.len) % 2 ≡ 0
  pub branch : (inverted : Bool) (size : Size) (jump : Bool) → x ≡ form.Branch inverted size jump → is_branch (action_at p) ≡ true
  pub half_branch : (inverted jump : Bool) → x ≡ form.Branch inverted Half jump → p.len ≡ 2
  pub lands : list_all lands (main_leap f a p x ++ added_leap f a p x) ≡ true

kept_can : (f : ℕ → ℕ) (a : ℕ) (p : Placed) (x : Form) → Fitting f a p x → (rest : List Leap) →
    list_all lands (option_map_or (λ t. record { reach = reach_of p.len p; from = a; to = f t } ∷ []) (target_of p) [] ++ rest)
    ≡ true → CanBeEncoded (record { inst = kept f a p; bytes = p.len }) × (list_all lands rest ≡ true)
kept_can f a p x s rest h = by (target_of p) refl h
  where
    by : (o : Option ℕ) → target_of p ≡ o →
        list_all lands (option_map_or (λ t. record { reach = reach_of p.len p; from = a; to = f t } ∷ []) o [] ++ rest) ≡ true →
        CanBeEncoded (record {
          inst = option_map_or (λ t. with_distance p.inst (distance (f t) a)) (target_of p) (made_anew f p.addr p.role p.inst);
          bytes = p.len;
        }) × (list_all lands rest ≡ true)
    by None e h = (rw e (anew_can f s.half s.next p.addr p.inst p.len s.decodes s.low p.role s.suits s.low_role), h)
    by (Some t) e h =
        let parts = and_parts (reaches (reach_of p.len p) a (f t)) (list_all lands rest) h in
        let even : f t % 2 ≡ 0 = ap (λ (o : Option ℕ). option_map_or f o 0 % 2) (sym e) ∙ s.even_goal in
        (rw e (moved_can s.half s.next p a t (f t) s.decodes e parts.0 s.even even), parts.1)

added_can : (f : ℕ → ℕ) (p : Placed) (jump : Bool) (a : ℕ) → a % 2 ≡ 0 → f (p.addr + p.len) % 2 ≡ 0 →
    list_all lands (if jump then record { reach = 2 ^ 20; from = a; to = f (p.addr + p.len) } ∷ [] else []) ≡ true →
    AllCanBeEncoded (added f p jump a)
added_can f p true a h k l =
    (jal_can (f (p.addr + p.len)) a (and_parts (reaches (2 ^ 20) a (f (p.addr + p.len))) true l).0 h k, tt)
added_can f p false a h k l = tt

eight_reaches : Reaches (2 ^ 12) (pos 8)
eight_reaches = record { low = omega (arith, ints); high = omega (arith, ints); even = refl }

pub all_can : (f : ℕ → ℕ) (a : ℕ) (p : Placed) (x : Form) → Fitting f a p x → AllCanBeEncoded (made f a p x)
all_can f a p form.Plain s = let k = kept_can f a p form.Plain s [] s.lands in (k.0, tt)
all_can f a p form.Jump s =
    let k = kept_can f a p form.Jump s (added_leap f a p form.Jump) s.lands in
    (k.0, added_can f p true (a + p.len) (even_sum a p.len s.even s.even_len) s.even_fall k.1)
all_can f a p (form.Goto true) s =
    let l = and_parts (reaches (2 ^ 11) a (new_target f p)) true s.lands in (
      half_can (record { inst = Jal 0 (distance (new_target f p) a); bytes = 2 }) refl
          (refl, reaches_is (2 ^ 11) a (new_target f p) l.0 s.even s.even_goal),
      tt,
    )
all_can f a p (form.Goto false) s =
    let l = and_parts (reaches (2 ^ 20) a (new_target f p)) true s.lands in
    (jal_can (new_target f p) a l.0 s.even s.even_goal, tt)
all_can f a p form.Dropped s = tt
all_can f a p (form.Branch inverted size jump) s =
    by size (s.branch inverted size jump refl)
    (λ e. s.half_branch inverted jump (ap (λ (z : Size). form.Branch inverted z jump) e)) s.lands
  where
    to : ℕ
    to = if inverted then f (p.addr + p.len) else new_target f p

    even_to : to % 2 ≡ 0
    even_to = pick inverted
      where
        pick : (b : Bool) → (if b then f (p.addr + p.len) else new_target f p) % 2 ≡ 0
        pick true = s.even_fall
        pick false = s.even_goal

    by : (z : Size) → is_branch (action_at p) ≡ true → (z ≡ Half → p.len ≡ 2) →
        list_all lands (main_leap f a p (form.Branch inverted z jump) ++ added_leap f a p (form.Branch inverted z jump))
        ≡ true → AllCanBeEncoded (made f a p (form.Branch inverted z jump))
    by Half is_b short l =
        let parts = and_parts (reaches (2 ^ 8) a to) (list_all lands (added_leap f a p (form.Branch inverted Half jump))) l in (
          half_branch_can s.half s.next p.inst p.len inverted (distance to a) s.decodes (short refl) is_b
              (reaches_is (2 ^ 8) a to parts.0 s.even even_to),
          added_can f p jump (a + 2) (even_sum a 2 s.even refl) s.even_fall parts.1,
        )
    by Full is_b short l =
        let parts = and_parts (reaches (2 ^ 12) a to) (list_all lands (added_leap f a p (form.Branch inverted Full jump))) l in (
          full_branch_can s.half s.next p.inst p.len inverted (distance to a) s.decodes is_b
              (reaches_is (2 ^ 12) a to parts.0 s.even even_to),
          added_can f p jump (a + 4) (even_sum a 4 s.even refl) s.even_fall parts.1,
        )
    by Long is_b short l =
        let parts = and_parts (reaches (2 ^ 20) (a + 4) to)
        (list_all lands (added_leap f a p (form.Branch inverted Long jump))) l in (
          full_branch_can s.half s.next p.inst p.len (not inverted) (pos 8) s.decodes is_b eight_reaches,
          (
            jal_can to (a + 4) parts.0 (even_sum a 4 s.even refl) even_to,
            added_can f p jump (a + 8) (even_sum a 8 s.even refl) s.even_fall parts.1,
          ),
        )
