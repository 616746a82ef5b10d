-- If no role is the first, none is claimed.
use Rattle.std.proofs.Common.{ℕ, zero, suc, ◌<◌, ◌≤◌, inl, inr, ⊎_elim, arith}
use Rattle.std.proofs.lemmas.Bool.{cases_lt}
use Rattle.rv_code.specs.declared.placed.Role.{Role}
use Rattle.elf_image.specs.declared.elf.Elf.{Elf}
use Rattle.elf_code.specs.Relocations.{Relocation}
use Rattle.elf_code.specs.Roles.{Claims, HasRole, HasNoRole}

-- No claim of a type below n.
NoneBelow : Elf → ℕ → ℕ → Type 0
NoneBelow elf a n = (r : Relocation) (key : ℕ) (role : Role) → r.kind < n → Claims elf r a key role → ⊥

none_by_key : (elf : Elf) (a n m : ℕ) → ((role : Role) → HasRole elf a role → ⊥) → NoneBelow elf a n →
    (r : Relocation) (key : ℕ) (role : Role) → r.kind ≤ n → key < m → Claims elf r a key role → ⊥
unfolding NoneBelow
none_by_key elf a n zero none lower r key role upto below claims = absurd (omega arith)
none_by_key elf a n (suc m) none lower r key role upto below claims = none role (record {
  relocation = r;
  key = key;
  claims = claims;
  first = λ r' key' role' other. ⊎_elim
      (λ (less : r.kind < r'.kind). inl less)
      (λ (more : r'.kind ≤ r.kind). ⊎_elim
      (λ (lesser : r'.kind < r.kind). absurd (lower r' key' role' (omega arith) other))
      (λ (not_lesser : r.kind ≤ r'.kind). ⊎_elim
      (λ (early : key' < key). absurd (none_by_key elf a n m none lower r' key' role' (omega arith) (omega arith) other))
      (λ (late : key ≤ key'). inr (omega arith, late))
      (cases_lt key' key))
      (cases_lt r'.kind r.kind))
      (cases_lt r.kind r'.kind);
})

none_by_kind : (elf : Elf) (a n : ℕ) → ((role : Role) → HasRole elf a role → ⊥) → NoneBelow elf a n
unfolding NoneBelow
none_by_kind elf a zero none r key role below claims = absurd (omega arith)
none_by_kind elf a (suc n) none r key role below claims =
    none_by_key elf a n (suc key) none (none_by_kind elf a n none) r key role (omega arith) (omega arith) claims

pub HasNoRole-none : (elf : Elf) (a : ℕ) → ((role : Role) → HasRole elf a role → ⊥) → HasNoRole elf a
unfolding NoneBelow
HasNoRole-none elf a none r key role claims = none_by_kind elf a (suc r.kind) none r key role (omega arith) claims
