-- Relocations for upper and lower parts that don't fit.
use Rattle.std.proofs.Common.{◌≡◌, sym, subst, refl, ℕ, ℤ, ◌↔◌, Bool, true, false, not, ◌&&◌, IsTrue, IsSome, List, Option, Some, None}
use Rattle.std.specs.List.{Contains}
use Rattle.elf_image.specs.declared.elf.Elf.{Elf}
use Rattle.elf_code.specs.Relocations.{Relocation, HasRelocation, symbol_value, is_pcrel_hi, is_pcrel_lo, is_call_pair}
use Rattle.elf_code.specs.Roles.{lower_immediate}
use Rattle.elf_code.specs.ReferenceFaults.{HasAuipc, IsUpper, IsBadUpper, IsBadLower}
use Rattle.rv_reloc.specs.declared.lows.Low.{Low}
use Rattle.rv_reloc.specs.Lows.{IsLowOf}
use Rattle.rv_reloc.specs.NamedAddresses.{AreNamed}
use Rattle.rv_reloc.proofs.Absolutes.{immediate_some}

-- Upper parts.

pub bad-is_hi : (elf : Elf) (r : Relocation) → IsBadUpper elf r → IsTrue (is_pcrel_hi r.kind)
bad-is_hi elf r (IsBadUpper.no_auipc is refuted) = is
bad-is_hi elf r (IsBadUpper.alone is refuted) = is

pub bad-no_auipc : (elf : Elf) (r : Relocation) → IsTrue (is_pcrel_hi r.kind) → (HasAuipc elf r.place → ⊥) → IsBadUpper elf r
bad-no_auipc elf r is none = IsBadUpper.no_auipc is none

pub bad-auipc : (elf : Elf) (r : Relocation) (named : List ℕ) (here : Bool) → AreNamed elf named → IsTrue (is_pcrel_hi r.kind) →
    HasAuipc elf r.place → IsTrue here ↔ Contains named r.place → IsTrue (not here) ↔ IsBadUpper elf r
bad-auipc elf r named true are is auipc tells = (λ refuted. let e : false ≡ true = refuted in absurd (cc), λ bad. absurd (by bad))
  where
    by : IsBadUpper elf r → ⊥
    by (IsBadUpper.no_auipc _ refuted) = refuted auipc
    by (IsBadUpper.alone _ refuted) = refuted ((are.all r.place).0 (tells.0 refl))
bad-auipc elf r named false are is auipc tells = (
  λ _. IsBadUpper.alone is (λ some. let e : false ≡ true = tells.1 ((are.all r.place).1 some) in cc),
  λ _. refl,
)

pub upper-auipc : (elf : Elf) (a : ℕ) (upper call : Bool) → HasAuipc elf a →
    IsTrue upper ↔ HasRelocation elf (λ r. IsTrue (is_pcrel_hi r.kind)) a →
    IsTrue call ↔ HasRelocation elf (λ r. IsTrue (is_call_pair r.kind)) a → IsTrue (upper && not call) ↔ IsUpper elf a
upper-auipc elf a false call auipc is_upper is_call = (
  λ is. let e : false ≡ true = is in absurd (cc),
  λ upper. is_upper.1 upper.upper,
)
upper-auipc elf a true true auipc is_upper is_call = (
  λ is. let e : false ≡ true = is in absurd (cc),
  λ upper. absurd (upper.no_call (is_call.0 refl)),
)
upper-auipc elf a true false auipc is_upper is_call = (
  λ _. record { auipc = auipc; upper = is_upper.0 refl; no_call = λ has. let e : false ≡ true = is_call.1 has in cc },
  λ _. refl,
)

-- Lower parts.

pub bad-is_lo : (elf : Elf) (r : Relocation) → IsBadLower elf r → IsTrue (is_pcrel_lo r.kind)
bad-is_lo elf r (IsBadLower.no_lower is refuted) = is
bad-is_lo elf r (IsBadLower.no_upper is refuted) = is

some_immediate : (o : Option ℤ) → IsSome o → (imm : ℤ) × (o ≡ Some imm)
some_immediate None is = let e : false ≡ true = is in absurd (cc)
some_immediate (Some imm) is = (imm, refl)

pub bad-no_low : (elf : Elf) (r : Relocation) → IsTrue (is_pcrel_lo r.kind) → ((l : Low) → IsLowOf elf r l → ⊥) → IsBadLower elf r
bad-no_low elf r is none = IsBadLower.no_lower is (λ (inst, there, some).
    let (imm, immediate) = some_immediate (lower_immediate r.kind inst) some in
    none (record { hi = symbol_value elf r; imm = imm })
    (record { is_low = is; names = refl; inst = inst; there = there; immediate = immediate }))

pub bad-low : (elf : Elf) (r : Relocation) (l : Low) (upper : Bool) → IsTrue (is_pcrel_lo r.kind) → IsLowOf elf r l →
    IsTrue upper ↔ IsUpper elf l.hi → IsTrue (not upper) ↔ IsBadLower elf r
bad-low elf r l true is low tells = (λ refuted. let e : false ≡ true = refuted in absurd (cc), λ bad. absurd (by bad))
  where
    by : IsBadLower elf r → ⊥
    by (IsBadLower.no_lower _ refuted) =
        refuted (low.inst, low.there, immediate_some (lower_immediate r.kind low.inst) l.imm low.immediate)
    by (IsBadLower.no_upper _ refuted) = refuted (subst (IsUpper elf) (sym low.names) (tells.0 refl))
bad-low elf r l false is low tells = (
  λ _. IsBadLower.no_upper is (λ upper. let e : false ≡ true = tells.1 (subst (IsUpper elf) low.names upper) in cc),
  λ _. refl,
)
