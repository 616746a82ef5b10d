use Rattle.std.proofs.Common.{◌≡◌, ◌∙◌, ◌+◌, ◌-◌, ◌*◌, ◌^◌, ℕ, sym, ap, arith, rules, min, take, get_or, length}
use Rattle.std.specs.Prelude.{sum_by}
use Rattle.std.proofs.lemmas.List.Sums.{sum_by_more}
use Rattle.answer_runs.specs.declared.run.Run.{Run}
use Rattle.answer_runs.specs.Weights.{run_weight}
use Rattle.line_rewrite.specs.LineAnswers.{LineSaid}
use Rattle.line_rewrite.specs.Tables.{row_weight}
use Rattle.line_rewrite.proofs.weight.runs_weight.Goals as goal

summed : (sum rows limit : ℕ) → min (min sum limit + min (min (rows * 96) limit + 32) limit) limit ≡ min (sum + (32 + 96 * rows)) limit
summed sum rows limit = omega arith

pub loop-run-preserved : goal.loop-run-preserved
loop-run-preserved c =
    let weight : Run LineSaid → ℕ = λ r. run_weight + row_weight * length r.answer.rows in
    let run : Run LineSaid = c.run-item.result in
    let limit : ℕ = 2 ^ 64 - 1 in
    let sum : ℕ = sum_by weight (take c.loop-run.run-index c.args.runs.now) in
    let rows : c.len.result ≡ length run.answer.rows = search rules in
    let item : get_or c.args.runs.now c.loop-run.run-index run ≡ run = sym c.run-item.is in
    c.saturating_add-weight.ensures
    ∙ ap (λ (n : ℕ). min (n + c.saturating_add.result) limit) c.loop-run.invariant
    ∙ ap (λ (n : ℕ). min (min sum limit + n) limit)
    (c.saturating_add.ensures ∙ ap (λ (n : ℕ). min (n + 32) limit) (c.saturating_mul-rows.ensures
    ∙ ap (λ (n : ℕ). min (n * 96) limit) rows))
    ∙ summed sum (length run.answer.rows) limit
    ∙ ap (λ (n : ℕ). min n limit)
    (sym (sum_by_more weight c.args.runs.now c.loop-run.run-index run c.loop-run-test.true
    ∙ ap (λ (r : Run LineSaid). sum + weight r) item))
