-- Collecting the addresses at which control comes into functions from outside.
use Rattle.std.proofs.Common.{◌≡◌, sym, subst, ℕ, ◌⊎◌, inl, inr, ⊎_elim, List, [], ◌∷◌, arith}
use Rattle.std.specs.Prelude.{◌↔◌, Any, Contains}
use Rattle.rv_code.specs.declared.placed.Func.{Func}
use Rattle.rv_code.specs.layout.ProgramCode.{RoleNames, CellNames, IsHeld, by_role, by_cell, by_entry}
use Rattle.rv_reloc.specs.declared.refs.Refs.{Refs}
use Rattle.rb_bytes.specs.Lists.{Gains}
use Rattle.rb_bytes.proofs.Gains.{gains_both}
use Rattle.rb_bytes.proofs.ListLemmas.{only_one}
use Rattle.cfg_build.specs.NamedAddresses.{code_of}
use Rattle.flow_infer.specs.Links.{IsFarTarget}
use Rattle.flow_infer.specs.Sources.{AreEntries}

abbrev HasRole : Refs → ℕ → Type 0
HasRole refs a = Any (λ r. RoleNames r.1 a) refs.roles.items

abbrev HasCell : Refs → ℕ → Type 0
HasCell refs a = Any (λ c. CellNames c a) refs.cells.items

pub entries_listed : (funcs : List Func) (refs : Refs) (entry : ℕ) (one two three four last : List ℕ) → one ≡ entry ∷ [] →
    Gains one two (IsFarTarget funcs) → Gains two three (λ a. Any (λ r. RoleNames r.1 a) refs.roles.items) →
    Gains three four (λ a. Any (λ c. CellNames c a) refs.cells.items) → ((a : ℕ) → Contains last a ↔ Contains four a) →
    AreEntries (code_of funcs refs entry) last
entries_listed funcs refs entry one two three four last first jumps roles cells same a = (out, back)
  where
    all : Contains four a ↔ (Contains one a ⊎ ((IsFarTarget funcs a ⊎ HasRole refs a) ⊎ HasCell refs a))
    all = gains_both one three four (λ a. IsFarTarget funcs a ⊎ HasRole refs a) (HasCell refs)
        (gains_both one two three (IsFarTarget funcs) (HasRole refs) jumps roles) cells a

    out : Contains last a → IsHeld (code_of funcs refs entry) a ⊎ IsFarTarget funcs a
    out listed = ⊎_elim
        (λ in_one. inl (by_entry (only_one entry a (subst (λ (xs : List ℕ). Contains xs a) first in_one))))
        (λ either. ⊎_elim
        (λ inner. ⊎_elim (λ goes. inr goes) (λ role. inl (by_role role)) inner)
        (λ cell. inl (by_cell cell))
        either)
        (all.0 ((same a).0 listed))

    held : IsHeld (code_of funcs refs entry) a → Contains last a
    held (by_role role) = (same a).1 (all.1 (inr (inl (inr role))))
    held (by_cell cell) = (same a).1 (all.1 (inr (inr cell)))
    held (by_entry is) =
        (same a).1 (all.1 (inl (subst (λ (xs : List ℕ). Contains xs a) (sym first) (0, omega arith, is))))

    back : IsHeld (code_of funcs refs entry) a ⊎ IsFarTarget funcs a → Contains last a
    back either = ⊎_elim held (λ goes. (same a).1 (all.1 (inr (inl (inl goes))))) either
