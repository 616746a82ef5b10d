-- The weight is unique.
use Rattle.std.proofs.Common.{ℕ, ◌+◌, ◌≡◌, Option, sym, ◌∙◌, ap}
use Rattle.std.specs.Prelude.{sum_by}
use Rattle.answer_runs.specs.Weights.{IsWeightOf, run_weight}
use Rattle.answer_runs.proofs.OnlyRuns.{only_runs}

pub only_weight : {A : Type 0} (w : A → ℕ) (answers : ℕ → Option A) (n m : ℕ) → IsWeightOf w answers n → IsWeightOf w answers m → n ≡ m
only_weight w answers n m x y =
    x.sum ∙ ap (sum_by (λ r. run_weight + w r.answer)) (only_runs answers x.runs y.runs x.are_runs y.are_runs) ∙ sym y.sum
