use Rattle.std.proofs.Common.{◌≡◌, ◌+◌, ◌*◌, ◌-◌, ◌^◌, length, take}
use Rattle.std.specs.Prelude.{min, sum_by}
use Rattle.answer_runs.specs.Weights.{run_weight}
use Rattle.line_rewrite.specs.Tables.{row_weight}
use Rattle.line_rewrite.proofs.weight.runs_weight.Given as goal

abbrev pub invariant-loop-run : goal.invariant-loop-run
invariant-loop-run l =
    l.weight ≡ min (sum_by (λ r. run_weight + row_weight * length r.answer.rows) (take l.run-index l.runs)) (2 ^ 64 - 1)
