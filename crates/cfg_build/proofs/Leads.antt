-- The targets of the end of a block, as the code collects them.
use Rattle.std.proofs.Common.{[], arith, ◌≡◌, sym, subst, ℕ, ◌+◌, ◌⊎◌, inl, inr, ⊎_elim, Bool, List, Option, Some, IsTrue}
use Rattle.std.proofs.Common.{ap, refl, true, false, None}
use Rattle.std.specs.Prelude.{◌↔◌, Contains, if◌then◌else◌}
use Rattle.std.proofs.lemmas.Option.{same_Some}
use Rattle.rv_code.specs.declared.placed.Placed.{Placed}
use Rattle.rv_code.specs.declared.placed.Func.{Func}
use Rattle.rv_code.specs.layout.Blocks.{inst_at, EndsBlock}
use Rattle.rv_code.specs.layout.Edges.{LeadsTo, jumps, falls_into, by_table}
use Rattle.rv_code.specs.layout.Flow.{fall_target, falls_at, target_of}
use Rattle.rb_bytes.specs.Lists.{Gains}
use Rattle.rb_bytes.proofs.Gains.{gains_both, gains_same}
use Rattle.cfg_build.specs.EdgeLists.{LeadsFrom}
use Rattle.rb_bytes.proofs.Options.{some_and, of_some}

abbrev JumpsTo : Placed → ℕ → Type 0
JumpsTo p a = EndsBlock p × (target_of p ≡ Some a)

abbrev FallsTo : Func → ℕ → Placed → ℕ → Type 0
FallsTo func i p a = IsTrue (falls_at func i p) × (p.addr + p.len ≡ a)

module _ (targets : List (ℕ × ℕ)) (func : Func) (i : ℕ) (p : Placed) (at : inst_at func i ≡ Some p) where
  leads_by : (a : ℕ) →
      (JumpsTo p a ⊎ FallsTo func i p a) ⊎ Contains targets (p.addr, a) →
      LeadsFrom targets func i a
  leads_by a either = some_and (λ p. LeadsTo (Contains targets) func i p a) (inst_at func i) p at (⊎_elim
      (λ inner. ⊎_elim (λ (ends, goes). jumps ends goes) (λ (falls, next). falls_into falls next) inner)
      (λ table. by_table table)
      either)

  leads_from : (a : ℕ) → LeadsFrom targets func i a →
      (JumpsTo p a ⊎ FallsTo func i p a) ⊎ Contains targets (p.addr, a)
  leads_from a leads = by (of_some (λ p. LeadsTo (Contains targets) func i p a) (inst_at func i) p at leads)
    where
      by : LeadsTo (Contains targets) func i p a →
          (JumpsTo p a ⊎ FallsTo func i p a) ⊎ Contains targets (p.addr, a)
      by (jumps ends goes) = inl (inl (ends, goes))
      by (falls_into falls next) = inl (inr (falls, next))
      by (by_table table) = inr table

  pub leads_gained : (one two three four : List ℕ) (jump fall : Option ℕ) → ((a : ℕ) → (jump ≡ Some a) ↔ JumpsTo p a) →
      fall ≡ fall_target func i p → Gains one two (λ a. jump ≡ Some a) → Gains two three (λ a. fall ≡ Some a) →
      Gains three four (λ a. Contains targets (p.addr, a)) → Gains one four (LeadsFrom targets func i)
  leads_gained one two three four jump fall jump_is fall_is jumped fallen tables =
      gains_same one four
      (λ a. (JumpsTo p a ⊎ FallsTo func i p a) ⊎ Contains targets (p.addr, a))
      (LeadsFrom targets func i) (λ a. (leads_by a, leads_from a))
      (gains_both one three four
      (λ a. JumpsTo p a ⊎ FallsTo func i p a)
      (λ a. Contains targets (p.addr, a))
      (gains_both one two three (λ a. JumpsTo p a) (λ a. FallsTo func i p a)
      (gains_same one two (λ a. jump ≡ Some a) (λ a. JumpsTo p a) jump_is jumped)
      (gains_same two three (λ a. fall ≡ Some a) (λ a. FallsTo func i p a) falls_there fallen))
      tables)
    where
      some_where : (b : Bool) (n a : ℕ) → ((if b then Some n else None) ≡ Some a) ↔ (IsTrue b × (n ≡ a))
      some_where true n a = ((λ is. (refl, same_Some n a is)), (λ (_, same). ap (λ (x : ℕ). Some x) same))
      some_where false n a = ((λ is. absurd (cc)), (λ (is, _). absurd (cc)))

      falls_there : (a : ℕ) → (fall ≡ Some a) ↔ FallsTo func i p a
      falls_there a = subst (λ (o : Option ℕ). (o ≡ Some a) ↔ FallsTo func i p a) (sym fall_is)
          (some_where (falls_at func i p) (p.addr + p.len) a)

-- The list is cleared before the addresses are collected, and sorted after that.
pub leads_all : (Is : ℕ → Type 0) (cleared now last leads : List ℕ) → cleared ≡ [] → Gains cleared now Is →
    ((a : ℕ) → Contains last a ↔ Contains now a) → leads ≡ last → (a : ℕ) → Contains leads a ↔ Is a
leads_all Is cleared now last leads none gains same is a = (
  (λ listed. ⊎_elim
      (λ was. absurd (let (k, within, there) = subst (λ (xs : List ℕ). Contains xs a) none was in omega arith))
      (λ new. new)
      ((gains a).0 ((same a).0 (subst (λ (xs : List ℕ). Contains xs a) is listed)))),
  (λ new. subst (λ (xs : List ℕ). Contains xs a) (sym is) ((same a).1 ((gains a).1 (inr new)))),
)
