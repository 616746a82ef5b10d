-- A table of the written file answers at new code as the input's table did at the old code.
use Rattle.std.specs.Prelude.{ℕ, Option, Some, None, List, IsSome}
use Rattle.addr_map.specs.declared.span.Span.{Span}
use Rattle.addr_map.specs.Spans.{owner}
use Rattle.answer_runs.specs.AnswerRuns.{carried}

-- Both are present and related by `R`, or both are absent.
abbrev pub Agree : {A : Type 0} → (A → A → Type 0) → Option A → Option A → Type 0
Agree R None None = Unit {0}
Agree R (Some x) (Some y) = R x y
Agree R None (Some y) = ⊥
Agree R (Some x) None = ⊥

-- A table that was read without a fault answers at each byte of new code as wanted, up to `R`.
abbrev pub IsCarried : {A : Type 0} → (A → A → Type 0) → List Span → (ℕ → Option A) → Option (ℕ → Option A) → Type 0
IsCarried R spans wanted None = ⊥
IsCarried R spans wanted (Some at) = (p : ℕ) → IsSome (owner spans p) → Agree R (wanted p) (at p)

-- A table that was read without a fault answers at each byte of new code as the old table does at the byte's owner, up
-- to `R`.
abbrev pub IsCarriedFrom : {A : Type 0} → (A → A → Type 0) → List Span → (ℕ → Option A) → Option (ℕ → Option A) → Type 0
IsCarriedFrom R spans old new = IsCarried R spans (carried old spans) new
