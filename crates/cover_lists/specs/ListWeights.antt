-- The weights of the runs of location lists.
use Rattle.std.specs.Prelude.{◌+◌, ℕ, List, length, sum_by, [], ◌∷◌}
use Rattle.std.specs.Global.{Vec}
use Rattle.addr_map.specs.declared.span.Span.{Span}
use Rattle.answer_runs.specs.declared.run.Run.{Run}
use Rattle.answer_runs.specs.AnswerRuns.{carried}
use Rattle.answer_runs.specs.Choices.{unless_empty}
use Rattle.answer_runs.specs.Weights.{run_weight, IsWeightOf}

-- The sum of weights, one for each element.
pub data IsSumOf {X : Type 0} (Weighs : X → ℕ → Type 0) : List X → ℕ → Type 0 where
  none : IsSumOf Weighs [] 0
  more : (x : X) (xs : List X) (n m : ℕ) → Weighs x n → IsSumOf Weighs xs m → IsSumOf Weighs (x ∷ xs) (n + m)

-- The weight of an expression is 16 plus its length.
abbrev pub expressions_weight : List (List ℕ) → ℕ
expressions_weight xs = sum_by (λ x. 16 + length x) xs

abbrev pub copies_weight : List (Vec ℕ) → ℕ
copies_weight xs = sum_by (λ (v : Vec ℕ). 16 + length v.items) xs

-- The weight of the runs of a list.
abbrev pub list_weight : List (Run (Vec (Vec ℕ))) → ℕ
list_weight runs = sum_by (λ (r : Run (Vec (Vec ℕ))). run_weight + copies_weight r.answer.items) runs

-- The weight of the runs of all lists.
abbrev pub total_weight : List (Vec (Run (Vec (Vec ℕ)))) → ℕ
total_weight lists = sum_by (λ (v : Vec (Run (Vec (Vec ℕ)))). list_weight v.items) lists

-- The weight of a list's expressions at the owners of new bytes.
abbrev pub IsSaidWeight : List Span → (ℕ → List (List ℕ)) → ℕ → Type 0
IsSaidWeight spans says weight = IsWeightOf expressions_weight (carried (λ a. unless_empty (says a)) spans) weight
