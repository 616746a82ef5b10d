-- If code stays at its addresses, an instruction with a part of an address has the immediate that is computed for it.
use Rattle.std.proofs.Common.{◌≡◌, ◌≢◌, ℕ, ◌+◌, List, refl, sym, ap, ◌∙◌, subst, arith, inl, inr, ◌⊎◌, ℤ, pos}
use Rattle.std.specs.Prelude.{Contains}
use Rattle.std.proofs.lemmas.Int.{ints}
use Rattle.std.proofs.lemmas.Grind.{common_steps}
use Rattle.rv_code.specs.declared.inst.Inst.{Inst}
use Rattle.rv_code.specs.declared.inst.Inst.TheVariants.{Lui, Auipc, Jalr}
use Rattle.rv_code.specs.declared.placed.Placed.{Placed}
use Rattle.rv_code.specs.declared.placed.Role.{Role}
use Rattle.elf_image.specs.declared.elf.Elf.{Elf}
use Rattle.elf_image.specs.declared.relocation.TheConstants.{R_RISCV_HI20}
use Rattle.elf_code.specs.FileCode.{IsCodeOf}
use Rattle.elf_code.specs.Parts.{IsInstAt}
use Rattle.elf_code.specs.Relocations.{Relocation}
use Rattle.elf_code.specs.Roles.{IsAbsoluteLow, Claims, HasRole, RoleIs, CallPair, PcrelLo}
use Rattle.elf_code.specs.Roles as claims
use Rattle.elf_code.specs.CodeFaults.{HasCodeFault}
use Rattle.rb_bytes.specs.FirstFault.{IsFree}
use Rattle.elf_code.specs.ReferenceFaults.{IsMisfit, HasAbsolute}
use Rattle.elf_code.specs.ReferenceFaults as faults
use Rattle.rv_code.specs.isa.HiLo.{hi20, lo12}
use Rattle.rv_code.specs.layout.Flow.{insts_of}
use Rattle.rv_code.specs.layout.ProgramCode.{ProgramCode}
use Rattle.move_law.specs.FaithfulRewrite.{made_anew, with_immediate}
use Rattle.move_law.specs.RelocatedValues.{distance}
use Rattle.move_law.proofs.code.InstLists.{inst_at}
use Rattle.move_law.proofs.code.Immediates.{full_at, also_full, auipc_of, lui_of, low_of, low_immediate, immediate, with_same}
use Rattle.move_law.proofs.code.Immediates.{auipc_imm, lui_imm, low_imm, low_field_lower, imm_of}
use Rattle.move_law.proofs.values.HiLoParts.{IsLower, upper_is, lower_is}
use Rattle.move_law.proofs.code.FittingRoles.{fits, same_int, same_call}
use Rattle.rv_code.specs.isa.AddressParts.{TakesLower}

kinds_differ : (kind : ℕ) → kind ≡ R_RISCV_HI20 → IsAbsoluteLow kind → ⊥
kinds_differ kind h (inl l) = omega (arith, h, l)
kinds_differ kind h (inr l) = omega (arith, h, l)

-- an instruction with its own immediate
set_same : (i : Inst) (z : ℤ) → z ≡ immediate i → with_immediate i z ≡ i
set_same i z e = ap (with_immediate i) e ∙ with_same i

zero_upper : (a : ℕ) → hi20 (distance a a) ≡ pos 0
zero_upper a = grind (arith, common_steps, upper_is, ints)

-- The immediate of an instruction, by another way of reading its bytes.

module _ (elf : Elf) where
  auipc_is : (a : ℕ) (i : Inst) (n : ℕ) → IsInstAt elf a i n → (rd : ℕ) (u : ℤ) → IsInstAt elf a (Auipc rd u) 4 →
      u ≡ immediate i
  auipc_is a i n at rd u full = grind (arith, common_steps, full_at, also_full, auipc_imm, auipc_of)

  lui_is : (a : ℕ) (i : Inst) (n : ℕ) → IsInstAt elf a i n → (rd : ℕ) (u : ℤ) → IsInstAt elf a (Lui rd u) 4 → u ≡ immediate i
  lui_is a i n at rd u full = grind (arith, common_steps, full_at, also_full, lui_imm, lui_of)

  low_is : (a : ℕ) (i : Inst) (n : ℕ) → IsInstAt elf a i n → (j : Inst) → TakesLower j → IsInstAt elf a j 4 →
      immediate j ≡ immediate i
  low_is a i n at j low full = grind (arith, common_steps, full_at, also_full, low_imm, low_of)

  low_small : (a : ℕ) (j : Inst) → TakesLower j → IsInstAt elf a j 4 → IsLower (immediate j)
  low_small a j low full = grind (arith, common_steps, full_at, low_imm, low_field_lower)

  part_small : (q : Relocation) (hi : ℕ) (imm : ℤ) → PcrelLo elf q hi imm → IsLower imm
  part_small q hi imm part = grind (arith, common_steps, imm_of, immediate, low_small, low_immediate)

  jalr_small : (q : Relocation) (c : CallPair elf q) → IsLower c.lower
  jalr_small q c = low_small (q.place + 4) (Jalr c.link c.base c.lower) tt c.jalr.is_inst

module _ (elf : Elf) (tabled : List (ℕ × ℕ)) (code : ProgramCode) (is : IsCodeOf elf tabled code)
    (no_fault : IsFree (HasCodeFault elf tabled)) (p : Placed) (is_in : Contains (insts_of code.funcs) p) where
  -- the instruction at its relocation's place
  at_place : (a : ℕ) → p.addr ≡ a → IsInstAt elf a p.inst p.len
  at_place a at = subst (λ (n : ℕ). IsInstAt elf n p.inst p.len) at (inst_at elf tabled code is p is_in).inst

  -- the upper immediate of a call of a weak symbol is 0
  weak_zero : (q : Relocation) (pair : CallPair elf q) → pair.base ≡ 0 → pair.upper ≡ pos 0
  weak_zero q pair zero_is =
      same_int pair.upper (pos 0)
      (λ n. fits elf tabled code is no_fault q pair.counts
      (IsMisfit.call (faults.IsBadCall.pair pair.is_call (λ c. by n c.0 c.1))))
    where
      by : (pair.upper ≢ pos 0) → (c : CallPair elf q) →
          ((c.base ≡ c.rd) × (c.base ≢ 0)) ⊎ ((c.base ≡ 0) × (c.upper ≡ pos 0) × ((c.rd ≡ 0) ⊎ (c.lower ≡ pos 0))) → ⊥
      by n c (inl x) = x.1 (sym (same_call elf q q pair c refl).bases ∙ zero_is)
      by n c (inr x) = n ((same_call elf q q pair c refl).uppers ∙ x.1)

  of : (part : Role) (has : HasRole elf p.addr part) → Claims elf has.relocation p.addr has.key part →
      made_anew (λ a. a) p.addr part p.inst ≡ p.inst
  of part has (claims.call_hi t call at k e) =
      let q = has.relocation in
      rw (e, at) (set_same p.inst (hi20 (distance t q.place)) (
      upper_is t q.place call.pair.upper call.pair.lower (jalr_small elf q call.pair) call.target_is
      ∙ auipc_is elf q.place p.inst p.len (at_place q.place at) call.pair.rd call.pair.upper call.pair.auipc.is_inst))
  of part has (claims.call_lo t call at k e) =
      let q = has.relocation in
      rw e (set_same p.inst (lo12 (distance t q.place)) (
      lower_is t q.place call.pair.upper call.pair.lower (jalr_small elf q call.pair) call.target_is
      ∙ low_is elf (q.place + 4) p.inst p.len (at_place (q.place + 4) at)
      (Jalr call.pair.link call.pair.base call.pair.lower) tt
      call.pair.jalr.is_inst))
  of part has (claims.weak_call pair zero_is at k e) =
      let q = has.relocation in
      rw (e, at) (set_same p.inst (hi20 (distance q.place q.place)) (
      zero_upper q.place ∙ sym (weak_zero q pair zero_is)
      ∙ auipc_is elf q.place p.inst p.len (at_place q.place at) pair.rd pair.upper pair.auipc.is_inst))
  of part has (claims.hi t upper at k e) =
      let q = has.relocation in
      rw (e, at) (set_same p.inst (hi20 (distance t q.place)) (
      upper_is t q.place upper.upper upper.lower (part_small elf upper.low q.place upper.lower upper.part) upper.target_is
      ∙ auipc_is elf q.place p.inst p.len (at_place q.place at) upper.rd upper.upper upper.auipc.has.is_inst))
  of part has (claims.lo hi t lower at k e) =
      let q = has.relocation in
      let low = low_immediate q.kind lower.part.inst lower.lower lower.part.immediate in
      rw e (set_same p.inst (lo12 (distance t hi)) (
      lower_is t hi lower.upper lower.lower (part_small elf q hi lower.lower lower.part) lower.target_is
      ∙ sym (imm_of q.kind lower.part.inst lower.lower lower.part.immediate)
      ∙ low_is elf q.place p.inst p.len (at_place q.place at) lower.part.inst low lower.part.there.has.is_inst))
  of part has (claims.abs_hi t part' kind_is rd imm full at k e) =
      rw e (set_same p.inst (hi20 (pos t)) (
      same_int (hi20 (pos t)) (immediate p.inst) (λ n. fits elf tabled code is no_fault q part'.counts
      (IsMisfit.absolute (record { target = t; part = part'; absolute = inl kind_is; unfit = λ h. n (of_part h) })))))
    where
      q : Relocation
      q = has.relocation

      of_part : HasAbsolute elf q t → hi20 (pos t) ≡ immediate p.inst
      of_part (faults.HasAbsolute.upper kind_is rd there) =
          lui_is elf q.place p.inst p.len (at_place q.place at) rd (hi20 (pos t)) there.has.is_inst
      of_part (faults.HasAbsolute.lower low inst there imm_is) = absurd (kinds_differ q.kind kind_is low)
  of part has (claims.abs_lo t part' low inst full imm at k e) =
      rw e (set_same p.inst (lo12 (pos t)) (
      same_int (lo12 (pos t)) (immediate p.inst) (λ n. fits elf tabled code is no_fault q part'.counts
      (IsMisfit.absolute (record { target = t; part = part'; absolute = inr low; unfit = λ h. n (of_part h) })))))
    where
      q : Relocation
      q = has.relocation

      of_part : HasAbsolute elf q t → lo12 (pos t) ≡ immediate p.inst
      of_part (faults.HasAbsolute.upper kind_is rd there) = absurd (kinds_differ q.kind kind_is low)
      of_part (faults.HasAbsolute.lower low inst there imm_is) =
          sym (imm_of q.kind inst (lo12 (pos t)) imm_is)
          ∙ low_is elf q.place p.inst p.len (at_place q.place at) inst (low_immediate q.kind inst (lo12 (pos t)) imm_is)
          there.has.is_inst

  pub anew : made_anew (λ a. a) p.addr p.role p.inst ≡ p.inst
  anew = by (inst_at elf tabled code is p is_in).role
    where
      by : RoleIs elf p.addr p.role → made_anew (λ a. a) p.addr p.role p.inst ≡ p.inst
      by (inl has) = of p.role has has.claims
      by (inr n) = rw n.1 refl
