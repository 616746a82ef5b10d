-- In a whole function that no branch leaves, an instruction that reaches less far than a JAL reaches its target.
use Rattle.std.proofs.Common.{◌≡◌, ℕ, ◌+◌, ◌*◌, ◌^◌, ◌<◌, ◌≤◌, Option, Some, None, sym, ap, ◌∙◌, subst, arith, inl, inr, ◌⊎◌, ℤ, pos, ◌-ℤ◌}
use Rattle.std.proofs.Common.{refl, Bool, true, false, List}
use Rattle.std.specs.Prelude.{◌&&◌, ◌||◌, ◌==◌, not, nat_lt, nat_le, if◌then◌else◌, Contains, IsTrue}
use Rattle.std.specs.Option.{option_map_or}
use Rattle.std.proofs.lemmas.Int.{ints}
use Rattle.std.proofs.lemmas.Bool.{and_parts, and_from, eqb-true, leb-true, ltb-true, ltb-false, le-leb, lt-ltb}
use Rattle.std.proofs.lemmas.List.Elements.{All-contains}
use Rattle.rb_bytes.specs.declared.fault.FaultKind.TheVariants.{KeptBranch}
use Rattle.rv_code.specs.declared.inst.Inst.{Inst}
use Rattle.rv_code.specs.declared.inst.Inst.TheVariants.{Jal, Beq, Bne, Blt, Bge, Bltu, Bgeu}
use Rattle.rv_code.specs.declared.placed.Block.{Block}
use Rattle.rv_code.specs.declared.placed.Func.{Func}
use Rattle.rv_code.specs.declared.placed.Placed.{Placed}
use Rattle.rv_code.specs.isa.Action.{action_of}
use Rattle.rv_code.specs.isa.Bits.{field, signed_by, imm_b}
use Rattle.rv_code.specs.isa.FullRows.{IsFull}
use Rattle.rv_code.specs.isa.HalfRows.{Row, expansion, jump_offset, branch_offset, C_J, C_BEQZ, C_BNEZ}
use Rattle.rv_code.specs.isa.InstBytes.{Decodes}
use Rattle.rv_code.specs.isa.TwosComplement.{unsigned64}
use Rattle.rv_code.specs.layout.Flow.{is_branch, is_short, target, target_of}
use Rattle.rv_code.specs.layout.FunctionLists.{AreLaidOut, address_end}
use Rattle.rv_code.specs.layout.FunctionMembers.{func_holds}
use Rattle.rv_code.specs.machine.Machine.{plus}
use Rattle.elf_image.specs.declared.elf.Elf.{Elf}
use Rattle.elf_code.specs.Parts.{IsInstAt, halfword_at}
use Rattle.rb_bytes.specs.FirstFault.{IsFree}
use Rattle.func_place.specs.Faults.{HasPlacementFault, leaves}
use Rattle.std.proofs.lemmas.Option.{same_Some}
use Rattle.branch_fixup.specs.Distances.{reaches}
use Rattle.branch_fixup.specs.Inputs.{StaysIn}

-- an offset, modulo 2 ^ 64, within a reach
abbrev IsNear : ℕ → ℕ → Type 0
IsNear reach u = (u < reach) ⊎ ((2 ^ 64 ≤ u + reach) × (u < 2 ^ 64))

negative : (half n : ℕ) → half ≤ n → n < 2 * half → half ≤ 2 ^ 62 →
    (2 ^ 64 ≤ unsigned64 (pos n -ℤ pos (2 * half)) + half) × (unsigned64 (pos n -ℤ pos (2 * half)) < 2 ^ 64)
negative half n low high room = (omega (arith, ints), omega (arith, ints))

near_by : (half n : ℕ) → n < 2 * half → half ≤ 2 ^ 62 → IsNear half (unsigned64 (signed_by half n))
near_by half n high room = by (nat_lt n half) refl
  where
    by : (t : Bool) → nat_lt n half ≡ t → IsNear half (unsigned64 (if t then pos n else (pos n -ℤ pos (2 * half))))
    by true e = inl (ltb-true n half e)
    by false e = inr (negative half n (ltb-false n half e) high room)

-- the offset of an instruction that reaches less far than a JAL, by its length in bytes
abbrev NearOffset : ℕ → Inst → Type 0
NearOffset bytes (Jal rd imm) = bytes ≡ 2 → IsNear (2 ^ 11) (unsigned64 imm)
NearOffset bytes (Beq rs1 rs2 imm) = IsNear (if bytes == 2 then 2 ^ 8 else 2 ^ 12) (unsigned64 imm)
NearOffset bytes (Bne rs1 rs2 imm) = IsNear (if bytes == 2 then 2 ^ 8 else 2 ^ 12) (unsigned64 imm)
NearOffset bytes (Blt rs1 rs2 imm) = IsNear (if bytes == 2 then 2 ^ 8 else 2 ^ 12) (unsigned64 imm)
NearOffset bytes (Bge rs1 rs2 imm) = IsNear (if bytes == 2 then 2 ^ 8 else 2 ^ 12) (unsigned64 imm)
NearOffset bytes (Bltu rs1 rs2 imm) = IsNear (if bytes == 2 then 2 ^ 8 else 2 ^ 12) (unsigned64 imm)
NearOffset bytes (Bgeu rs1 rs2 imm) = IsNear (if bytes == 2 then 2 ^ 8 else 2 ^ 12) (unsigned64 imm)
NearOffset bytes _ = Unit {0}

of_b : (w : ℕ) (imm : ℤ) → imm_b w ≡ imm → IsNear (2 ^ 12) (unsigned64 imm)
of_b w imm e =
    subst (λ (z : ℤ). IsNear (2 ^ 12) (unsigned64 z)) e
    (near_by (2 ^ 12) (field w 31 1 * 2 ^ 12 + field w 7 1 * 2 ^ 11 + field w 25 6 * 2 ^ 5 + field w 8 4 * 2) (omega arith) (omega arith))

near_full : (w : ℕ) (i : Inst) → IsFull w i → NearOffset 4 i
near_full w (Jal rd imm) row = λ e. absurd (omega (arith, e))
near_full w (Beq rs1 rs2 imm) row = of_b w imm row.imm_is
near_full w (Bne rs1 rs2 imm) row = of_b w imm row.imm_is
near_full w (Blt rs1 rs2 imm) row = of_b w imm row.imm_is
near_full w (Bge rs1 rs2 imm) row = of_b w imm row.imm_is
near_full w (Bltu rs1 rs2 imm) row = of_b w imm row.imm_is
near_full w (Bgeu rs1 rs2 imm) row = of_b w imm row.imm_is
near_full w _ row = tt

near_half : (r : Row) (half : ℕ) → NearOffset 2 (expansion r half)
near_half C_J half = λ e. near_by (2 ^ 11) (jump_offset half) (omega arith) (omega arith)
near_half C_BEQZ half = near_by (2 ^ 8) (branch_offset half) (omega arith) (omega arith)
near_half C_BNEZ half = near_by (2 ^ 8) (branch_offset half) (omega arith) (omega arith)
near_half _ half = tt

near_offset : (half : ℕ) (next : Option ℕ) (i : Inst) (bytes : ℕ) → Decodes half next i bytes → NearOffset bytes i
near_offset half next i bytes (inl d) =
    subst (λ (n : ℕ). NearOffset n i) (sym d.two_bytes) (subst (NearOffset 2) (sym d.row.2) (near_half d.row.0 half))
near_offset half None i bytes (inr d) = absurd d.row
near_offset half (Some upper) i bytes (inr d) =
    subst (λ (n : ℕ). NearOffset n i) (sym d.four_bytes) (near_full (upper * 2 ^ 16 + half) i d.row)

-- an offset within a reach has its target within the reach, if both addresses are low
reach_near : (reach a u : ℕ) → reach ≤ 2 ^ 20 → a < 2 ^ 32 → plus a u < 2 ^ 32 → IsNear reach u →
    reaches reach a (plus a u) ≡ true
reach_near reach a u small low there (inl near) =
    and_from (nat_lt (plus a u) (a + reach)) (nat_le a (plus a u + reach))
    (lt-ltb (plus a u) (a + reach) (omega (arith, low, near, small)))
    (le-leb a (plus a u + reach) (omega (arith, low, near, small)))
reach_near reach a u small low there (inr (near, fits)) =
    and_from (nat_lt (plus a u) (a + reach)) (nat_le a (plus a u + reach))
    (lt-ltb (plus a u) (a + reach) (omega (arith, low, near, small, there, fits)))
    (le-leb a (plus a u + reach) (omega (arith, low, near, small, there, fits)))

small_reach : (b : Bool) → (if b then 2 ^ 8 else 2 ^ 12) ≤ 2 ^ 20
small_reach true = omega arith
small_reach false = omega arith

of_branch : (len a t : ℕ) (imm : ℤ) → IsNear (if len == 2 then 2 ^ 8 else 2 ^ 12) (unsigned64 imm) →
    Some (plus a (unsigned64 imm)) ≡ Some t → a < 2 ^ 32 → t < 2 ^ 32 →
    reaches (if len == 2 then 2 ^ 8 else 2 ^ 12) a t ≡ true
of_branch len a t imm near goes low there =
    let same : plus a (unsigned64 imm) ≡ t = same_Some (plus a (unsigned64 imm)) t goes in
    subst (λ (x : ℕ). reaches (if len == 2 then 2 ^ 8 else 2 ^ 12) a x ≡ true) same
    (reach_near (if len == 2 then 2 ^ 8 else 2 ^ 12) a (unsigned64 imm) (small_reach (len == 2)) low
    (subst (λ (x : ℕ). x < 2 ^ 32) (sym same) there) near)

of_jump : (len a t : ℕ) (imm : ℤ) → (len ≡ 2 → IsNear (2 ^ 11) (unsigned64 imm)) →
    Some (plus a (unsigned64 imm)) ≡ Some t → a < 2 ^ 32 → t < 2 ^ 32 → (len == 2) ≡ true →
    reaches (if len == 2 then 2 ^ 11 else 2 ^ 20) a t ≡ true
of_jump len a t imm near goes low there short =
    let same : plus a (unsigned64 imm) ≡ t = same_Some (plus a (unsigned64 imm)) t goes in
    subst (λ (b : Bool). reaches (if b then 2 ^ 11 else 2 ^ 20) a t ≡ true) (sym short)
    (subst (λ (x : ℕ). reaches (2 ^ 11) a x ≡ true) same
    (reach_near (2 ^ 11) a (unsigned64 imm) (omega arith) low (subst (λ (x : ℕ). x < 2 ^ 32) (sym same) there)
    (near (eqb-true len 2 short))))

reach_inst : (len a t : ℕ) (i : Inst) → NearOffset len i → target a (action_of i) ≡ Some t → a < 2 ^ 32 → t < 2 ^ 32 →
    (is_branch (action_of i) || (len == 2)) ≡ true →
    reaches (if is_branch (action_of i) then (if len == 2 then 2 ^ 8 else 2 ^ 12) else (if len == 2 then 2 ^ 11 else 2 ^ 20)) a t
    ≡ true
reach_inst len a t (Jal rd imm) near goes low there short = of_jump len a t imm near goes low there short
reach_inst len a t (Beq rs1 rs2 imm) near goes low there short = of_branch len a t imm near goes low there
reach_inst len a t (Bne rs1 rs2 imm) near goes low there short = of_branch len a t imm near goes low there
reach_inst len a t (Blt rs1 rs2 imm) near goes low there short = of_branch len a t imm near goes low there
reach_inst len a t (Bge rs1 rs2 imm) near goes low there short = of_branch len a t imm near goes low there
reach_inst len a t (Bltu rs1 rs2 imm) near goes low there short = of_branch len a t imm near goes low there
reach_inst len a t (Bgeu rs1 rs2 imm) near goes low there short = of_branch len a t imm near goes low there
reach_inst len a t _ near goes low there short = absurd (cc)

-- The functions of a program in which no branch leaves a whole function.
module _ (elf : Elf) (funcs : List Func) (blocks : List Block) (laid : AreLaidOut funcs)
    (free : IsFree (HasPlacementFault funcs blocks)) where
  -- the target of a short branch of a whole function is in the function
  inside : (func : Func) (p : Placed) → Contains funcs func → Contains func.insts.items p → IsTrue func.whole →
      IsTrue (is_short p) → (t : ℕ) → target_of p ≡ Some t → func_holds t func ≡ true
  inside func p (k, within, is) (j, inner, at) whole short t goes = by (func_holds t func) refl
    where
      left : func_holds t func ≡ false → leaves func p ≡ true
      left out =
          and_from (func.whole && is_short p) (option_map_or (λ a. not (func_holds a func)) (target_of p) false)
          (and_from func.whole (is_short p) whole short)
          (ap (λ (o : Option ℕ). option_map_or (λ a. not (func_holds a func)) o false) goes ∙ ap not out)

      by : (b : Bool) → func_holds t func ≡ b → b ≡ true
      by true e = refl
      by false e = absurd (free KeptBranch p.addr (k, func, within, is, (j, p, inner, at, (refl, left e))))

  pub stays : (func : Func) (p : Placed) → Contains funcs func → Contains func.insts.items p → IsInstAt elf p.addr p.inst p.len →
      func.start ≤ p.addr → p.addr < func.end → IsTrue func.whole → IsTrue (is_short p) → StaysIn func p
  stays func p listed has decoded from upto whole short = record {
    above = λ t goes. leb-true func.start t (parts t goes).0;
    below = λ t goes. ltb-true t func.end (parts t goes).1;
    reach = λ t goes.
        let low = All-contains (λ (f : Func). f.end ≤ address_end) funcs func laid.low listed in
        let high = ltb-true t func.end (parts t goes).1 in
        reach_inst p.len p.addr t p.inst
        (near_offset (halfword_at elf p.addr) (Some (halfword_at elf (p.addr + 2))) p.inst p.len decoded) goes
        (omega (arith, upto, low)) (omega (arith, high, low)) short;
  }
    where
      parts : (t : ℕ) → target_of p ≡ Some t → (nat_le func.start t ≡ true) × (nat_lt t func.end ≡ true)
      parts t goes = and_parts (nat_le func.start t) (nat_lt t func.end) (inside func p listed has whole short t goes)
