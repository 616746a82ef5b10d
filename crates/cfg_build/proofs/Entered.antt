-- The addresses at which blocks start since something refers to them, as the code collects them.
use Rattle.std.proofs.Common.{◌≡◌, sym, subst, ℕ, zero, suc, ◌⊎◌, inl, inr, ⊎_elim, List, [], ◌∷◌, Some, arith}
use Rattle.std.specs.Prelude.{◌↔◌, Any, Contains}
use Rattle.rv_code.specs.declared.placed.Func.{Func}
use Rattle.rv_code.specs.layout.Flow.{target_of}
use Rattle.rv_code.specs.layout.ProgramCode.{RoleNames, CellNames, IsTarget, IsHeld, by_role, by_cell, by_entry}
use Rattle.rv_reloc.specs.declared.refs.Refs.{Refs}
use Rattle.rb_bytes.specs.Lists.{Gains}
use Rattle.rb_bytes.proofs.Gains.{gains_both}
use Rattle.rb_bytes.proofs.ListLemmas.{from_flat, in_flat}
use Rattle.code_starts.specs.declared.address_set.AddressSet.{AddressSet}
use Rattle.cfg_build.specs.NamedAddresses.{code_of, AreEntered, IsMember}

-- A branch or jump of a function has the target `a`.
abbrev pub IsGoal : List Func → ℕ → Type 0
IsGoal funcs a = Any (λ f. Any (λ p. target_of p ≡ Some a) f.insts.items) funcs

pub IsTarget-functions : (funcs : List Func) (a : ℕ) → IsGoal funcs a ↔ IsTarget funcs a
IsTarget-functions funcs a = (
  (λ (k, f, within, is, (j, p, inside, there, goes)).
      let (m, low, at) = in_flat (λ f. f.insts.items) funcs f p (k, within, is) (j, inside, there) in
      (m, p, low, at, goes)),
  (λ (m, p, low, at, goes).
      let (f, (k, within, is), (j, inside, there)) = from_flat (λ f. f.insts.items) funcs p (m, low, at) in
      (k, f, within, is, (j, p, inside, there, goes))),
)

abbrev HasRole : Refs → ℕ → Type 0
HasRole refs a = Any (λ r. RoleNames r.1 a) refs.roles.items

abbrev HasCell : Refs → ℕ → Type 0
HasCell refs a = Any (λ c. CellNames c a) refs.cells.items

only_entry : (entry a : ℕ) → Contains (entry ∷ []) a → entry ≡ a
only_entry entry a (zero, within, is) = is
only_entry entry a (suc k, within, is) = absurd (omega arith)

pub AreEntered-lists : (funcs : List Func) (refs : Refs) (entry : ℕ) (one two three four : List ℕ) (set : AddressSet) →
    one ≡ entry ∷ [] → Gains one two (IsGoal funcs) → Gains two three (λ a. Any (λ r. RoleNames r.1 a) refs.roles.items) →
    Gains three four (λ a. Any (λ c. CellNames c a) refs.cells.items) → ((a : ℕ) → IsMember set a ↔ Contains four a) →
    AreEntered (code_of funcs refs entry) set
AreEntered-lists funcs refs entry one two three four set first jumps roles cells same a = (out, back)
  where
    all : Contains four a ↔ (Contains one a ⊎ ((IsGoal funcs a ⊎ HasRole refs a) ⊎ HasCell refs a))
    all = gains_both one three four (λ a. IsGoal funcs a ⊎ HasRole refs a) (HasCell refs)
        (gains_both one two three (IsGoal funcs) (HasRole refs) jumps roles) cells a

    out : IsMember set a → IsTarget funcs a ⊎ IsHeld (code_of funcs refs entry) a
    out listed = ⊎_elim
        (λ in_one. inr (by_entry (only_entry entry a (subst (λ (xs : List ℕ). Contains xs a) first in_one))))
        (λ either. ⊎_elim
        (λ inner. ⊎_elim (λ goes. inl ((IsTarget-functions funcs a).0 goes)) (λ role. inr (by_role role)) inner)
        (λ cell. inr (by_cell cell))
        either)
        (all.0 ((same a).0 listed))

    held : IsHeld (code_of funcs refs entry) a → IsMember set a
    held (by_role role) = (same a).1 (all.1 (inr (inl (inr role))))
    held (by_cell cell) = (same a).1 (all.1 (inr (inr cell)))
    held (by_entry is) =
        (same a).1 (all.1 (inl (subst (λ (xs : List ℕ). Contains xs a) (sym first) (0, omega arith, is))))

    back : IsTarget funcs a ⊎ IsHeld (code_of funcs refs entry) a → IsMember set a
    back either = ⊎_elim (λ goes. (same a).1 (all.1 (inr (inl (inl ((IsTarget-functions funcs a).1 goes)))))) held either
