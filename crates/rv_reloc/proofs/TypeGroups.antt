-- Groups of types are disjoint.
use Rattle.std.proofs.Common.{◌≡◌, ℕ, ◌≤◌, ◌⊎◌, inl, inr, ⊎_elim, ◌==◌, ◌||◌, IsTrue, arith}
use Rattle.std.proofs.lemmas.Bool.{or_cases, eqb-true}
use Rattle.elf_code.specs.Relocations.{is_call_pair, is_pcrel_hi, is_pcrel_lo}

-- A range of types.
abbrev pub Between : ℕ → ℕ → ℕ → Type 0
Between low high kind = (low ≤ kind) × (kind ≤ high)

pub call_kind : (kind : ℕ) → IsTrue (is_call_pair kind) → Between 18 19 kind
call_kind kind is =
    ⊎_elim
    (λ a. let e = eqb-true kind 18 a in (omega arith, omega arith))
    (λ a. let e = eqb-true kind 19 a in (omega arith, omega arith))
    (or_cases (kind == 18) (kind == 19) is)

pub hi_kind : (kind : ℕ) → IsTrue (is_pcrel_hi kind) → Between 20 23 kind
hi_kind kind is =
    ⊎_elim
    (λ a. ⊎_elim
    (λ b. ⊎_elim
    (λ d. let e = eqb-true kind 20 d in (omega arith, omega arith))
    (λ d. let e = eqb-true kind 21 d in (omega arith, omega arith))
    (or_cases (kind == 20) (kind == 21) b))
    (λ b. let e = eqb-true kind 22 b in (omega arith, omega arith))
    (or_cases (kind == 20 || kind == 21) (kind == 22) a))
    (λ a. let e = eqb-true kind 23 a in (omega arith, omega arith))
    (or_cases (kind == 20 || kind == 21 || kind == 22) (kind == 23) is)

pub lo_kind : (kind : ℕ) → IsTrue (is_pcrel_lo kind) → Between 24 25 kind
lo_kind kind is =
    ⊎_elim
    (λ a. let e = eqb-true kind 24 a in (omega arith, omega arith))
    (λ a. let e = eqb-true kind 25 a in (omega arith, omega arith))
    (or_cases (kind == 24) (kind == 25) is)

pub low_kind : (kind : ℕ) → (kind ≡ 27) ⊎ (kind ≡ 28) → Between 27 28 kind
low_kind kind (inl e) = (omega arith, omega arith)
low_kind kind (inr e) = (omega arith, omega arith)
