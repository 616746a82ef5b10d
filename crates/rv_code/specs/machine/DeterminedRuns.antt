-- Deterministic runs of any machine.
use Rattle.std.specs.Prelude.{◌≡◌, ℕ, ◌<◌, List}
use Rattle.rv_code.specs.machine.Machine.{Event, Outcome, Going, Ended, Halts, SoFar}

-- The step from state s has at most one outcome.
abbrev pub HasOneOutcome : {S C : Type 0} → (S → Outcome S C → Type 0) → S → Type 0
HasOneOutcome {S} {C} step s = (o p : Outcome S C) → step s o → step s p → o ≡ p

-- Each state that is reached from s by fewer than n steps has at most one outcome.
pub record IsDetermined {S C : Type 0} (step : S → Outcome S C → Type 0) (s : S) (n : ℕ) : Type 0 where
  pub one_outcome : (k : ℕ) → k < n → (trace : List Event) (t : S) → SoFar step s k trace t → HasOneOutcome step t

-- The outcome ends or halts the run.
abbrev pub IsStop : {S C : Type 0} → Outcome S C → Type 0
IsStop (Going t e) = ⊥
IsStop (Ended status) = Unit {0}
IsStop (Halts pc cause) = Unit {0}
