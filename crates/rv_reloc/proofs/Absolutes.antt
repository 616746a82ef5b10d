-- Relocations for parts of absolute addresses.
use Rattle.std.proofs.Common.{is_some, IsSome, ◌≡◌, ◌≢◌, sym, subst, ap, refl, ℕ, ℤ, pos, inl, inr, ⊎_elim, ◌↔◌, Bool, true}
use Rattle.std.proofs.Common.{false, not, ◌||◌, ◌==◌, IsTrue, arith, Option, Some}
use Rattle.std.proofs.lemmas.Bool.{or_cases, eqb-true}
use Rattle.rv_code.specs.isa.HiLo.{hi20, lo12}
use Rattle.rv_code.specs.declared.inst.Inst.{Inst}
use Rattle.rv_code.specs.declared.inst.Inst.TheVariants.{Lui}
use Rattle.elf_image.specs.declared.elf.Elf.{Elf}
use Rattle.elf_image.specs.declared.relocation.TheConstants.{R_RISCV_HI20}
use Rattle.elf_code.specs.Relocations.{Relocation, is_absolute}
use Rattle.elf_code.specs.Roles.{IsFullAt, AbsoluteTo, IsAbsoluteLow, lower_immediate}
use Rattle.elf_code.specs.ReferenceFaults.{HasAbsolute, IsAbsoluteKind, IsBadAbsolute}
use Rattle.rv_reloc.specs.Instructions.{lui_of, HasUpper, HasPart}

-- Types.

pub absolute_kind : (kind : ℕ) → IsTrue (is_absolute kind) → IsAbsoluteKind kind
absolute_kind kind is =
    ⊎_elim
    (λ a. ⊎_elim (λ b. inl (eqb-true kind 26 b)) (λ b. inr (inl (eqb-true kind 27 b))) (or_cases (kind == 26) (kind == 27) a))
    (λ a. inr (inr (eqb-true kind 28 a)))
    (or_cases (kind == 26 || kind == 27) (kind == 28) is)

pub kind_absolute : (kind : ℕ) → IsAbsoluteKind kind → IsTrue (is_absolute kind)
kind_absolute kind (inl is) = subst (λ (n : ℕ). IsTrue (is_absolute n)) (sym is) refl
kind_absolute kind (inr (inl is)) = subst (λ (n : ℕ). IsTrue (is_absolute n)) (sym is) refl
kind_absolute kind (inr (inr is)) = subst (λ (n : ℕ). IsTrue (is_absolute n)) (sym is) refl

low_kind : (kind : ℕ) → IsAbsoluteKind kind → kind ≢ R_RISCV_HI20 → IsAbsoluteLow kind
low_kind kind (inl is) differ = absurd (differ is)
low_kind kind (inr low) differ = low

pub low_differs : (kind : ℕ) → IsAbsoluteLow kind → kind ≢ R_RISCV_HI20
low_differs kind (inl is) e = omega arith
low_differs kind (inr is) e = omega arith

-- Instructions.

as_upper : (inst : Inst) (target : ℕ) → HasUpper (lui_of inst) target → (rd : ℕ) × (inst ≡ Lui rd (hi20 (pos target)))
as_upper (Lui rd imm) target is = (rd, ap (Lui rd) is)
as_upper inst target is = absurd (is)

pub has-absolute : (elf : Elf) (r : Relocation) (target : ℕ) (inst : Inst) → IsTrue (is_absolute r.kind) →
    IsFullAt elf r.place inst → HasPart r.kind inst target → HasAbsolute elf r target
has-absolute elf r target inst is full (inl (hi, upper)) =
    let (rd, same) = as_upper inst target upper in
    HasAbsolute.upper hi rd (subst (IsFullAt elf r.place) same full)
has-absolute elf r target inst is full (inr (differ, lower)) =
    HasAbsolute.lower (low_kind r.kind (absolute_kind r.kind is) differ) inst full lower

pub absolute-part : (elf : Elf) (r : Relocation) (target : ℕ) (inst : Inst) → ((i : Inst) → IsFullAt elf r.place i → inst ≡ i) →
    HasAbsolute elf r target → HasPart r.kind inst target
absolute-part elf r target inst only (HasAbsolute.upper hi rd full) =
    inl (hi, subst (λ (i : Inst). HasUpper (lui_of i) target) (sym (only _ full)) refl)
absolute-part elf r target inst only (HasAbsolute.lower low i full lower) =
    inr
    (low_differs r.kind low, subst (λ (j : Inst). lower_immediate r.kind j ≡ Some (lo12 (pos target))) (sym (only i full)) lower)

pub absolute-full : (elf : Elf) (r : Relocation) (target : ℕ) → HasAbsolute elf r target →
    (inst : Inst) × IsFullAt elf r.place inst
absolute-full elf r target (HasAbsolute.upper hi rd full) = (_, full)
absolute-full elf r target (HasAbsolute.lower low i full lower) = (i, full)

-- A part that doesn't fit.
pub bad-absolute : (elf : Elf) (r : Relocation) (target : ℕ) (has : Bool) → IsTrue (is_absolute r.kind) →
    AbsoluteTo elf r target →
    ((t : ℕ) → AbsoluteTo elf r t → target ≡ t) → IsTrue has ↔ HasAbsolute elf r target → IsTrue (not has) ↔ IsBadAbsolute elf r
bad-absolute elf r target true is part only tells = (
  λ no. let e : false ≡ true = no in absurd (cc),
  λ bad. absurd (bad.unfit (subst (HasAbsolute elf r) (only bad.target bad.part) (tells.0 refl))),
)
bad-absolute elf r target false is part only tells = (
  λ _. record {
    target = target;
    part = part;
    absolute = absolute_kind r.kind is;
    unfit = λ has. let e : false ≡ true = tells.1 has in cc;
  },
  λ _. refl,
)

pub immediate_some : (o : Option ℤ) (imm : ℤ) → o ≡ Some imm → IsSome o
immediate_some o imm is = ap is_some is
