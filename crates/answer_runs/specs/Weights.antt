-- Weights: bounds on the sizes of written tables, as sums over the runs that they consist of.
use Rattle.std.specs.Prelude.{◌≡◌, ◌+◌, ◌==◌, ℕ, List, [], ◌∷◌, if◌then◌else◌, Option, sum_by}
use Rattle.std.specs.List.{list_any}
use Rattle.answer_runs.specs.declared.run.Run.{Run}
use Rattle.answer_runs.specs.AnswerRuns.{AreRunsOf}

-- The least weight of a run, whatever its answer.
abbrev pub run_weight : ℕ
run_weight = 32

-- The limit of a weight.
abbrev pub weight_limit : ℕ
weight_limit = 4000000000

-- The weight of the runs of some answers. Each answer adds its own weight to that of its run.
pub record IsWeightOf {A : Type 0} (answer_weight : A → ℕ) (answers : ℕ → Option A) (weight : ℕ) : Type 0 where
  pub runs : List (Run A)
  pub are_runs : AreRunsOf answers runs
  pub sum : weight ≡ sum_by (λ r. run_weight + answer_weight r.answer) runs

-- The list without duplicates.
abbrev pub distinct : List ℕ → List ℕ
distinct [] = []
distinct (n ∷ ns) = if list_any (λ m. m == n) ns then distinct ns else n ∷ distinct ns
