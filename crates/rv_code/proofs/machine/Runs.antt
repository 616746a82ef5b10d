-- Runs of any machine.
use Rattle.std.proofs.Common.{ℕ, suc, ◌+◌, List, [], ◌++◌, sym, subst, arith, append_assoc}
use Rattle.std.proofs.lemmas.List.{append-nil}
use Rattle.rv_code.specs.machine.Machine.{Event, events, Outcome, SoFar, starts, more}

-- Steps followed by other steps.
pub join : {S C : Type 0} {step : S → Outcome S C → Type 0} {a b c : S} {n k : ℕ} {x y : List Event} →
    SoFar step a n x b → SoFar step b k y c → SoFar step a (n + k) (x ++ y) c
join {S} {C} {step} {a} {b} {c} {n} {k} {x} {y} first starts =
    subst (λ (m : ℕ). SoFar step a m (x ++ []) b) (omega arith)
    (subst (λ (trace : List Event). SoFar step a n trace b) (sym (append-nil x)) first)
join {S} {C} {step} {a} {b} {c} {n} {k} {x} {y} first (more {n = j} {trace = trace} e rest last) =
    subst (λ (m : ℕ). SoFar step a m (x ++ (trace ++ events e)) c) (omega arith)
    (subst (λ (trace : List Event). SoFar step a (suc (n + j)) trace c) (append_assoc x trace (events e))
    (more e (join first rest) last))
