-- The claims of calls.
use Rattle.std.proofs.Common.{◌≡◌, ◌∙◌, sym, subst, ap, refl, ℕ, ◌+◌, ℤ, pos, inl, inr, IsTrue, arith}
use Rattle.std.specs.List.{Contains}
use Rattle.rv_code.specs.declared.placed.Role.{Role}
use Rattle.rv_code.specs.declared.placed.Role.TheVariants.{CallHi, CallLo}
use Rattle.elf_image.specs.declared.elf.Elf.{Elf}
use Rattle.elf_code.specs.Relocations.{Relocation, relocations, is_call_pair}
use Rattle.elf_code.specs.Roles.{Claims, CallPair, CallTo, pair_target}
use Rattle.elf_code.specs.ReferenceFaults.{IsAddress, IsBadCall}
use Rattle.rv_reloc.specs.declared.calls.CallInsts.{CallInsts}
use Rattle.rv_reloc.specs.Calls.{IsCallAt, IsThrough, GoesTo, Names}
use Rattle.rv_reloc.specs.Claims.{IsClaimOf}
use Rattle.rv_reloc.proofs.CallFaults.{call_of, pair_call, call_pair}
use Rattle.rv_reloc.proofs.TypeGroups.{call_kind, hi_kind, lo_kind, low_kind}

same_number : (n m : ℕ) (z : ℤ) → pos n ≡ z → pos m ≡ z → n ≡ m
same_number n m z is is' = let e : pos n ≡ pos m = is ∙ sym is' in cc

-- The call of a relocation at an address.
pub same_call : (elf : Elf) (q : Relocation) (a : ℕ) (c : CallInsts) → ((d : CallInsts) → IsCallAt elf a d → c ≡ d) →
    (pair : CallPair elf q) → a ≡ q.place → c ≡ call_of pair
same_call elf q a c only pair here =
    only (call_of pair) (subst (λ (n : ℕ). IsCallAt elf n (call_of pair)) (sym here) (pair_call elf q pair))

-- The targets are the same.
goes_same : (elf : Elf) (q : Relocation) (a : ℕ) (c : CallInsts) (t target : ℕ) →
    ((d : CallInsts) → IsCallAt elf a d → c ≡ d) → GoesTo a c t → CallTo elf q (pos target) → a ≡ q.place → target ≡ t
goes_same elf q a c t target only goes to here =
    let e = same_call elf q a c only to.pair here in
    let there : pos target ≡ pair_target a c.auipc.imm c.jalr.imm =
    to.target_is ∙ ap (λ (n : ℕ). pair_target n to.pair.upper to.pair.lower) (sym here)
    ∙ ap (λ (d : CallInsts). pair_target a d.auipc.imm d.jalr.imm) (sym e) in
    same_number target t (pair_target a c.auipc.imm c.jalr.imm) there goes.1

-- The role of the AUIPC.
pub hi_role : (elf : Elf) (q : Relocation) (a key : ℕ) (c : CallInsts) (t : ℕ) (role : Role) → IsTrue (is_call_pair q.kind) →
    ((d : CallInsts) → IsCallAt elf a d → c ≡ d) → Names a c t → key ≡ a → Claims elf q a key role → role ≡ CallHi t
hi_role elf q a key c t role is only (inl goes) same (Claims.call_hi target to here key_is role_is) =
    role_is ∙ ap CallHi (goes_same elf q a c t target only goes to here)
hi_role elf q a key c t role is only (inr (zero, own)) same (Claims.call_hi target to here key_is role_is) =
    absurd (to.not_zero (sym (ap (λ (d : CallInsts). d.jalr.base) (same_call elf q a c only to.pair here)) ∙ zero))
hi_role elf q a key c t role is only named same (Claims.call_lo target to here key_is role_is) = absurd (omega arith)
hi_role elf q a key c t role is only (inl goes) same (Claims.weak_call pair zero here key_is role_is) =
    absurd (goes.0.1 (ap (λ (d : CallInsts). d.jalr.base) (same_call elf q a c only pair here) ∙ zero))
hi_role elf q a key c t role is only (inr (zero', own)) same (Claims.weak_call pair zero here key_is role_is) =
    role_is ∙ ap CallHi (sym here ∙ sym own)
hi_role elf q a key c t role is only named same (Claims.hi target to here key_is role_is) =
    let x = call_kind q.kind is in let y = hi_kind q.kind to.is_hi in absurd (omega arith)
hi_role elf q a key c t role is only named same (Claims.lo hi target to here key_is role_is) =
    let x = call_kind q.kind is in let y = lo_kind q.kind to.part.is_low in absurd (omega arith)
hi_role elf q a key c t role is only named same (Claims.abs_hi target to kind rd imm full here key_is role_is) =
    let x = call_kind q.kind is in absurd (omega arith)
hi_role elf q a key c t role is only named same (Claims.abs_lo target to kind inst full some here key_is role_is) =
    let x = call_kind q.kind is in let y = low_kind q.kind kind in absurd (omega arith)

pub hi_key : (elf : Elf) (r : Relocation) (key : ℕ) (role : Role) → IsTrue (is_call_pair r.kind) → Claims elf r r.place key role →
    key ≡ r.place
hi_key elf r key role is (Claims.call_hi target to here key_is role_is) = key_is
hi_key elf r key role is (Claims.call_lo target to here key_is role_is) = absurd (omega arith)
hi_key elf r key role is (Claims.weak_call pair zero here key_is role_is) = key_is
hi_key elf r key role is (Claims.hi target to here key_is role_is) = key_is
hi_key elf r key role is (Claims.lo hi target to here key_is role_is) =
    let x = call_kind r.kind is in let y = lo_kind r.kind to.part.is_low in absurd (omega arith)
hi_key elf r key role is (Claims.abs_hi target to kind rd imm full here key_is role_is) =
    let x = call_kind r.kind is in absurd (omega arith)
hi_key elf r key role is (Claims.abs_lo target to kind inst full some here key_is role_is) =
    let x = call_kind r.kind is in let y = low_kind r.kind kind in absurd (omega arith)

hi_claims : (elf : Elf) (r : Relocation) (c : CallInsts) (t : ℕ) → Contains (relocations elf) r → IsTrue (is_call_pair r.kind) →
    IsCallAt elf r.place c → Names r.place c t → Claims elf r r.place r.place (CallHi t)
hi_claims elf r c t counts is call (inl goes) =
    Claims.call_hi t
    (record { pair = call_pair elf r c counts is call; through = goes.0.0; not_zero = goes.0.1; target_is = goes.1 })
    refl refl refl
hi_claims elf r c t counts is call (inr (zero, own)) =
    Claims.weak_call (call_pair elf r c counts is call) zero refl refl (ap CallHi own)

pub hi-claim : (elf : Elf) (r : Relocation) (c : CallInsts) (t : ℕ) → Contains (relocations elf) r →
    IsTrue (is_call_pair r.kind) →
    IsCallAt elf r.place c → ((d : CallInsts) → IsCallAt elf r.place d → c ≡ d) → Names r.place c t →
    IsClaimOf elf r r.place (record { at = r.place; kind = r.kind; key = r.place; role = CallHi t })
hi-claim elf r c t counts is call only named = record {
  at_is = refl;
  kind_is = refl;
  claims = hi_claims elf r c t counts is call named;
  sure = λ q role kind claims. hi_role elf q r.place r.place c t role
      (subst (λ (n : ℕ). IsTrue (is_call_pair n)) (sym kind) is) only named refl claims;
}

-- The role of the JALR.
pub lo_role : (elf : Elf) (q : Relocation) (a key : ℕ) (c : CallInsts) (t : ℕ) (role : Role) → IsTrue (is_call_pair q.kind) →
    ((d : CallInsts) → IsCallAt elf a d → c ≡ d) → GoesTo a c t → key ≡ a → Claims elf q (a + 4) key role → role ≡ CallLo a t
lo_role elf q a key c t role is only goes same (Claims.call_hi target to here key_is role_is) = absurd (omega arith)
lo_role elf q a key c t role is only goes same (Claims.call_lo target to here key_is role_is) =
    let there : a ≡ q.place = omega arith in
    role_is ∙ (let e = goes_same elf q a c t target only goes to there in λ i. CallLo (sym there i) (e i))
lo_role elf q a key c t role is only goes same (Claims.weak_call pair zero here key_is role_is) = absurd (omega arith)
lo_role elf q a key c t role is only goes same (Claims.hi target to here key_is role_is) = absurd (omega arith)
lo_role elf q a key c t role is only goes same (Claims.lo hi target to here key_is role_is) =
    let x = call_kind q.kind is in let y = lo_kind q.kind to.part.is_low in absurd (omega arith)
lo_role elf q a key c t role is only goes same (Claims.abs_hi target to kind rd imm full here key_is role_is) =
    let x = call_kind q.kind is in absurd (omega arith)
lo_role elf q a key c t role is only goes same (Claims.abs_lo target to kind inst full some here key_is role_is) =
    let x = call_kind q.kind is in let y = low_kind q.kind kind in absurd (omega arith)

-- A claim at the address after a relocation's place is for a JALR.
pub lo_view : (elf : Elf) (r : Relocation) (key : ℕ) (role : Role) → Claims elf r (r.place + 4) key role → (key ≡ r.place)
    × ((target : ℕ) × CallTo elf r (pos target))
lo_view elf r key role (Claims.call_hi target to here key_is role_is) = absurd (omega arith)
lo_view elf r key role (Claims.call_lo target to here key_is role_is) = (key_is, (target, to))
lo_view elf r key role (Claims.weak_call pair zero here key_is role_is) = absurd (omega arith)
lo_view elf r key role (Claims.hi target to here key_is role_is) = absurd (omega arith)
lo_view elf r key role (Claims.lo hi target to here key_is role_is) = absurd (omega arith)
lo_view elf r key role (Claims.abs_hi target to kind rd imm full here key_is role_is) = absurd (omega arith)
lo_view elf r key role (Claims.abs_lo target to kind inst full some here key_is role_is) = absurd (omega arith)

pub lo-claim : (elf : Elf) (r : Relocation) (c : CallInsts) (t : ℕ) → Contains (relocations elf) r →
    IsTrue (is_call_pair r.kind) →
    IsCallAt elf r.place c → ((d : CallInsts) → IsCallAt elf r.place d → c ≡ d) → GoesTo r.place c t →
    IsClaimOf elf r (r.place + 4) (record { at = r.place + 4; kind = r.kind; key = r.place; role = CallLo r.place t })
lo-claim elf r c t counts is call only goes = record {
  at_is = refl;
  kind_is = refl;
  claims = Claims.call_lo t
      (record { pair = call_pair elf r c counts is call; through = goes.0.0; not_zero = goes.0.1; target_is = goes.1 })
      refl refl refl;
  sure = λ q role kind claims. lo_role elf q r.place r.place c t role
      (subst (λ (n : ℕ). IsTrue (is_call_pair n)) (sym kind) is) only goes refl claims;
}

-- There is no claim if the target of the call isn't an address.

pub no_target : (elf : Elf) (r : Relocation) (c : CallInsts) (target : ℕ) → (IsBadCall elf r → ⊥) →
    ((d : CallInsts) → IsCallAt elf r.place d → c ≡ d) →
    (IsThrough c → IsAddress (pair_target r.place c.auipc.imm c.jalr.imm) → ⊥) →
    CallTo elf r (pos target) → ⊥
no_target elf r c target fits only none to =
    let e = same_call elf r r.place c only to.pair refl in
    fits (IsBadCall.address (pos target) to (λ address.
    none (
      ap (λ (d : CallInsts). d.jalr.base) e ∙ to.through
          ∙ sym (ap (λ (d : CallInsts). d.auipc.rd) e),
      λ zero. to.not_zero (sym (ap (λ (d : CallInsts). d.jalr.base) e) ∙ zero),
    )
    (subst IsAddress (to.target_is ∙ ap (λ (d : CallInsts). pair_target r.place d.auipc.imm d.jalr.imm) (sym e)) address)))
