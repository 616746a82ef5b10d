-- A table with no answers has no runs.
use Rattle.std.proofs.Common.{ℕ, List, [], Option, Some, None, ◌≡◌, refl, sym, arith}
use Rattle.std.specs.Prelude.{option_and_then}
use Rattle.addr_map.specs.declared.span.Span.{Span}
use Rattle.addr_map.specs.Spans.{owner}
use Rattle.answer_runs.specs.AnswerRuns.{carried, AreRunsOf}

none_then : {A : Type 0} (at : ℕ → Option A) → ((a : ℕ) → at a ≡ None) → (o : Option ℕ) → option_and_then at o ≡ None
none_then at silent None = refl
none_then at silent (Some a) = silent a

pub no_runs : {A : Type 0} (at : ℕ → Option A) (spans : List Span) → ((a : ℕ) → at a ≡ None) → AreRunsOf (carried at spans) []
no_runs at spans silent = record {
  end = 0;
  within = omega arith;
  answered = λ p. sym (none_then at silent (owner spans p));
  longest = tt;
}
