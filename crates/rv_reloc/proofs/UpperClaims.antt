-- The claims of upper and lower parts of distances.
use Rattle.std.proofs.Common.{◌≡◌, ◌≢◌, ◌∙◌, sym, subst, ap, refl, ℕ, ℤ, pos, ⊎_elim, IsTrue, Some, arith}
use Rattle.std.specs.List.{Contains}
use Rattle.rv_code.specs.declared.placed.Role.{Role}
use Rattle.rv_code.specs.declared.placed.Role.TheVariants.{Hi, Lo}
use Rattle.elf_image.specs.declared.elf.Elf.{Elf}
use Rattle.elf_code.specs.Relocations.{Relocation, relocations, symbol_value, is_pcrel_hi, is_pcrel_lo}
use Rattle.elf_code.specs.Roles.{Claims, IsFullAt, PcrelLo, PcrelHiTo, PcrelLoTo, lower_immediate}
use Rattle.elf_code.specs.ReferenceFaults.{IsAddress, IsMisfit, IsBadPair, IsBadLower, IsLoMismatch}
use Rattle.rv_reloc.specs.declared.lows.Low.{Low}
use Rattle.rv_reloc.specs.Claims.{IsClaimOf}
use Rattle.rv_reloc.specs.Lows.{IsLowOf, IsLowPart}
use Rattle.rv_reloc.specs.Pairs.{IsTargetOf}
use Rattle.rv_reloc.proofs.Differing.{same_or_not}
use Rattle.rv_reloc.proofs.TypeGroups.{call_kind, hi_kind, lo_kind, low_kind}
use Rattle.rv_reloc.proofs.PairTargets.{low_of_upper, upper_low, upper_target, target_upper, lower_target, target_lower}

-- Upper parts.

-- A claim of an upper part.
pub upper_view : (elf : Elf) (q : Relocation) (a key : ℕ) (role : Role) → IsTrue (is_pcrel_hi q.kind) → Claims elf q a key role →
    (target : ℕ) × PcrelHiTo elf q (pos target) × (a ≡ q.place) × (key ≡ q.place) × (role ≡ Hi target)
upper_view elf q a key role is (Claims.call_hi target to here key_is role_is) =
    let x = hi_kind q.kind is in let y = call_kind q.kind to.pair.is_call in absurd (omega arith)
upper_view elf q a key role is (Claims.call_lo target to here key_is role_is) =
    let x = hi_kind q.kind is in let y = call_kind q.kind to.pair.is_call in absurd (omega arith)
upper_view elf q a key role is (Claims.weak_call pair zero here key_is role_is) =
    let x = hi_kind q.kind is in let y = call_kind q.kind pair.is_call in absurd (omega arith)
upper_view elf q a key role is (Claims.hi target to here key_is role_is) = (target, to, here, key_is, role_is)
upper_view elf q a key role is (Claims.lo hi target to here key_is role_is) =
    let x = hi_kind q.kind is in let y = lo_kind q.kind to.part.is_low in absurd (omega arith)
upper_view elf q a key role is (Claims.abs_hi target to kind rd imm full here key_is role_is) =
    let x = hi_kind q.kind is in absurd (omega arith)
upper_view elf q a key role is (Claims.abs_lo target to kind inst full some here key_is role_is) =
    let x = hi_kind q.kind is in let y = low_kind q.kind kind in absurd (omega arith)

-- All lower parts of one AUIPC are the same.
same_low : (elf : Elf) (l m : Low) → ((place : ℕ) → IsLoMismatch elf place → ⊥) → IsLowPart elf l →
    IsLowPart elf m → l.hi ≡ m.hi → l ≡ m
same_low elf l m alike one other here =
    ⊎_elim
    (λ (same : l.imm ≡ m.imm). λ i. record { hi = here i; imm = same i })
    (λ (differ : l.imm ≢ m.imm). absurd (alike m.hi (record {
      low = one.source;
      imm = l.imm;
      part = subst (λ (n : ℕ). PcrelLo elf one.source n l.imm) here one.part;
      low' = other.source;
      imm' = m.imm;
      part' = other.part;
      differ = differ;
    })))
    (same_or_not l.imm m.imm)

-- The target of an upper part is that of a lower part.
upper_same : (elf : Elf) (q : Relocation) (a : ℕ) (l : Low) (z : ℤ) →
    ((place : ℕ) → IsLoMismatch elf place → ⊥) → IsLowPart elf l → l.hi ≡ a → a ≡ q.place → PcrelHiTo elf q z → IsTargetOf elf l z
upper_same elf q a l z alike low here there to =
    let same = same_low elf (low_of_upper to) l alike (upper_low elf q z to) low (sym there ∙ sym here) in
    subst (λ (m : Low). IsTargetOf elf m z) same (upper_target elf q z to)

pos_same : (n m : ℕ) → pos n ≡ pos m → n ≡ m
pos_same n m e = cc

pub upper-claim : (elf : Elf) (r : Relocation) (l : Low) (t : ℕ) → ((place : ℕ) → IsLoMismatch elf place → ⊥) →
    Contains (relocations elf) r → IsTrue (is_pcrel_hi r.kind) → IsLowPart elf l → l.hi ≡ r.place → IsTargetOf elf l (pos t) →
    ((z : ℤ) → IsTargetOf elf l z → z ≡ pos t) →
    IsClaimOf elf r r.place (record { at = r.place; kind = r.kind; key = r.place; role = Hi t })
upper-claim elf r l t alike counts is low here target once = record {
  at_is = refl;
  kind_is = refl;
  claims = Claims.hi t (target_upper elf r l (pos t) counts is low target (sym here)) refl refl refl;
  sure = λ q role kind claims.
      let (target', to, there, key_is, role_is) =
      upper_view elf q r.place r.place role (subst (λ (n : ℕ). IsTrue (is_pcrel_hi n)) (sym kind) is) claims in
      role_is
      ∙ ap Hi (pos_same target' t (once (pos target') (upper_same elf q r.place l (pos target') alike low here there to)));
}

-- The target is an address.
pub upper-address : (elf : Elf) (r : Relocation) (l : Low) (z : ℤ) →
    ((place : ℕ) → IsLoMismatch elf place → ⊥) → (IsMisfit elf r → ⊥) →
    IsLowPart elf l → l.hi ≡ r.place → PcrelHiTo elf r z → (IsTargetOf elf l z → IsAddress z → ⊥) → ⊥
upper-address elf r l z alike fits low here to none =
    fits (IsMisfit.pair (IsBadPair.address z to (none (upper_same elf r r.place l z alike low here refl to))))

-- Lower parts.

pub lower_view : (elf : Elf) (q : Relocation) (a key : ℕ) (role : Role) → IsTrue (is_pcrel_lo q.kind) → Claims elf q a key role →
    (hi : ℕ) × (target : ℕ) × PcrelLoTo elf q hi (pos target) × (a ≡ q.place) × (key ≡ hi) × (role ≡ Lo hi target)
lower_view elf q a key role is (Claims.call_hi target to here key_is role_is) =
    let x = lo_kind q.kind is in let y = call_kind q.kind to.pair.is_call in absurd (omega arith)
lower_view elf q a key role is (Claims.call_lo target to here key_is role_is) =
    let x = lo_kind q.kind is in let y = call_kind q.kind to.pair.is_call in absurd (omega arith)
lower_view elf q a key role is (Claims.weak_call pair zero here key_is role_is) =
    let x = lo_kind q.kind is in let y = call_kind q.kind pair.is_call in absurd (omega arith)
lower_view elf q a key role is (Claims.hi target to here key_is role_is) =
    let x = lo_kind q.kind is in let y = hi_kind q.kind to.is_hi in absurd (omega arith)
lower_view elf q a key role is (Claims.lo hi target to here key_is role_is) = (hi, target, to, here, key_is, role_is)
lower_view elf q a key role is (Claims.abs_hi target to kind rd imm full here key_is role_is) =
    let x = lo_kind q.kind is in absurd (omega arith)
lower_view elf q a key role is (Claims.abs_lo target to kind inst full some here key_is role_is) =
    let x = lo_kind q.kind is in let y = low_kind q.kind kind in absurd (omega arith)

-- The lower part of a relocation of the same type at the same place is the same.
lower_of : (elf : Elf) (r q : Relocation) (hi : ℕ) (lower : ℤ) → q.kind ≡ r.kind → r.place ≡ q.place → symbol_value elf r ≡ hi →
    PcrelLo elf q hi lower → IsLowOf elf r (record { hi = hi; imm = lower })
lower_of elf r q hi lower kind here names part = record {
  is_low = subst (λ (n : ℕ). IsTrue (is_pcrel_lo n)) kind part.is_low;
  names = names;
  inst = part.inst;
  there = subst (λ (n : ℕ). IsFullAt elf n part.inst) (sym here) part.there;
  immediate = subst (λ (n : ℕ). lower_immediate n part.inst ≡ Some lower) kind part.immediate;
}

pub part_low : (elf : Elf) (r : Relocation) (hi : ℕ) (lower : ℤ) → PcrelLo elf r hi lower →
    IsLowOf elf r (record { hi = hi; imm = lower })
part_low elf r hi lower part =
    record { is_low = part.is_low; names = part.names; inst = part.inst; there = part.there; immediate = part.immediate }

low_part : (elf : Elf) (r : Relocation) (l : Low) → Contains (relocations elf) r → IsLowOf elf r l → PcrelLo elf r l.hi l.imm
low_part elf r l counts low =
    record {
      counts = counts;
      is_low = low.is_low;
      names = low.names;
      inst = low.inst;
      there = low.there;
      immediate = low.immediate;
    }

pub lower-claim : (elf : Elf) (r : Relocation) (l : Low) (t : ℕ) → Contains (relocations elf) r → IsTrue (is_pcrel_lo r.kind) →
    IsLowOf elf r l → ((m : Low) → IsLowOf elf r m → l ≡ m) → IsTargetOf elf l (pos t) →
    ((z : ℤ) → IsTargetOf elf l z → z ≡ pos t) →
    IsClaimOf elf r r.place (record { at = r.place; kind = r.kind; key = l.hi; role = Lo l.hi t })
lower-claim elf r l t counts is low only target once = record {
  at_is = refl;
  kind_is = refl;
  claims = Claims.lo l.hi t (target_lower elf r l (pos t) (low_part elf r l counts low) target) refl refl refl;
  sure = λ q role kind claims.
      let (hi, target', to, here, key_is, role_is) =
      lower_view elf q r.place l.hi role (subst (λ (n : ℕ). IsTrue (is_pcrel_lo n)) (sym kind) is) claims in
      let same =
      only (record { hi = hi; imm = to.lower }) (lower_of elf r q hi to.lower kind here (low.names ∙ key_is) to.part) in
      let there : target' ≡ t =
      pos_same target' t
      (once (pos target')
      (subst (λ (m : Low). IsTargetOf elf m (pos target')) (sym same) (lower_target elf q hi (pos target') to))) in
      role_is ∙ (λ i. Lo (sym key_is i) (there i));
}

-- The target is an address.
pub lower-address : (elf : Elf) (r : Relocation) (l : Low) (z : ℤ) →
    ((q : Relocation) → Contains (relocations elf) q → IsMisfit elf q → ⊥) → Contains (relocations elf) r →
    IsTrue (is_pcrel_lo r.kind) → IsLowOf elf r l → IsTargetOf elf l z → (IsAddress z → ⊥) → ⊥
lower-address elf r l z fits counts is low target none =
    fits r counts (IsMisfit.lower (IsBadLower.no_upper is (λ upper.
    let q = upper.upper.relocation in
    let place : q.place ≡ l.hi = upper.upper.place_is ∙ low.names in
    fits q upper.upper.counts (IsMisfit.pair (IsBadPair.address z
    (target_upper elf q l z upper.upper.counts upper.upper.is
    (record { source = r; part = low_part elf r l counts low }) target place) none)))))
