-- The claims of parts of absolute addresses.
use Rattle.std.proofs.Common.{◌≡◌, ◌∙◌, sym, subst, ap, refl, ℕ, inl, inr, Bool, cond, IsTrue, arith, eq-eqb}
use Rattle.std.proofs.lemmas.Bool.{ne_eqb}
use Rattle.rv_code.specs.declared.placed.Role.{Role}
use Rattle.rv_code.specs.declared.placed.Role.TheVariants.{AbsHi, AbsLo}
use Rattle.elf_image.specs.declared.elf.Elf.{Elf}
use Rattle.elf_image.specs.declared.relocation.TheConstants.{R_RISCV_HI20}
use Rattle.elf_code.specs.Relocations.{Relocation, is_absolute}
use Rattle.elf_code.specs.Roles.{Claims, AbsoluteTo, IsAbsoluteLow}
use Rattle.elf_code.specs.ReferenceFaults.{HasAbsolute, IsAbsoluteKind}
use Rattle.rv_reloc.specs.Claims.{IsClaimOf, absolute_role}
use Rattle.rv_reloc.proofs.Absolutes.{absolute_kind, low_differs, immediate_some}
use Rattle.rv_reloc.proofs.TypeGroups.{Between, call_kind, hi_kind, lo_kind}

between : (kind : ℕ) → IsAbsoluteKind kind → Between 26 28 kind
between kind (inl e) = (omega arith, omega arith)
between kind (inr (inl e)) = (omega arith, omega arith)
between kind (inr (inr e)) = (omega arith, omega arith)

role_hi : (kind target : ℕ) → kind ≡ R_RISCV_HI20 → AbsHi target ≡ absolute_role kind target
role_hi kind target is = sym (ap (λ (b : Bool). cond b (AbsHi target) (AbsLo target)) (eq-eqb kind R_RISCV_HI20 is))

role_lo : (kind target : ℕ) → IsAbsoluteLow kind → AbsLo target ≡ absolute_role kind target
role_lo kind target is =
    sym (ap (λ (b : Bool). cond b (AbsHi target) (AbsLo target)) (ne_eqb kind R_RISCV_HI20 (low_differs kind is)))

pub absolute_view : (elf : Elf) (q : Relocation) (a key : ℕ) (role : Role) → IsTrue (is_absolute q.kind) →
    Claims elf q a key role → AbsoluteTo elf q key × (role ≡ absolute_role q.kind key)
absolute_view elf q a key role is (Claims.call_hi target to here key_is role_is) =
    let x = between q.kind (absolute_kind q.kind is) in let y = call_kind q.kind to.pair.is_call in absurd (omega arith)
absolute_view elf q a key role is (Claims.call_lo target to here key_is role_is) =
    let x = between q.kind (absolute_kind q.kind is) in let y = call_kind q.kind to.pair.is_call in absurd (omega arith)
absolute_view elf q a key role is (Claims.weak_call pair zero here key_is role_is) =
    let x = between q.kind (absolute_kind q.kind is) in let y = call_kind q.kind pair.is_call in absurd (omega arith)
absolute_view elf q a key role is (Claims.hi target to here key_is role_is) =
    let x = between q.kind (absolute_kind q.kind is) in let y = hi_kind q.kind to.is_hi in absurd (omega arith)
absolute_view elf q a key role is (Claims.lo hi target to here key_is role_is) =
    let x = between q.kind (absolute_kind q.kind is) in let y = lo_kind q.kind to.part.is_low in absurd (omega arith)
absolute_view elf q a key role is (Claims.abs_hi target to kind rd imm full here key_is role_is) =
    (subst (AbsoluteTo elf q) (sym key_is) to, role_is ∙ ap AbsHi (sym key_is) ∙ role_hi q.kind key kind)
absolute_view elf q a key role is (Claims.abs_lo target to kind inst full some here key_is role_is) =
    (subst (AbsoluteTo elf q) (sym key_is) to, role_is ∙ ap AbsLo (sym key_is) ∙ role_lo q.kind key kind)

absolute_claims : (elf : Elf) (r : Relocation) (t : ℕ) → AbsoluteTo elf r t → HasAbsolute elf r t →
    Claims elf r r.place t (absolute_role r.kind t)
absolute_claims elf r t to (HasAbsolute.upper kind rd full) =
    Claims.abs_hi t to kind rd _ full refl refl (sym (role_hi r.kind t kind))
absolute_claims elf r t to (HasAbsolute.lower kind inst full imm) =
    Claims.abs_lo t to kind inst full (immediate_some _ _ imm) refl refl (sym (role_lo r.kind t kind))

pub absolute-claim : (elf : Elf) (r : Relocation) (t : ℕ) (role : Role) → role ≡ absolute_role r.kind t →
    IsTrue (is_absolute r.kind) →
    AbsoluteTo elf r t → HasAbsolute elf r t →
    IsClaimOf elf r r.place (record { at = r.place; kind = r.kind; key = t; role = role })
absolute-claim elf r t role role_is is to has = record {
  at_is = refl;
  kind_is = refl;
  claims = subst (Claims elf r r.place t) (sym role_is) (absolute_claims elf r t to has);
  sure = λ q role' kind claims.
      (absolute_view elf q r.place t role' (subst (λ (n : ℕ). IsTrue (is_absolute n)) (sym kind) is) claims).1
      ∙ ap (λ (n : ℕ). absolute_role n t) kind ∙ sym role_is;
}
