use Rattle.std.proofs.Common.{◌∙◌, ◌+◌, ◌-◌, ◌*◌, ◌^◌, refl, sym, ap, ℕ, List, length, min}
use Rattle.std.specs.Prelude.{sum_by}
use Rattle.answer_runs.specs.AnswerRuns.{said_runs}
use Rattle.answer_runs.specs.Weights.{run_weight}
use Rattle.answer_runs.specs.declared.run.Run.{Run}
use Rattle.addr_rewrite.proofs.ArangesLaw.{weight_is}
use Rattle.addr_rewrite.proofs.unit_ranges.Aranges.weight.Goals as goal

pub returns : goal.returns
returns c =
    let runs : List (Run ℕ) = c.in_ok-runs.runs.items in
    let said : List (Run ℕ) = said_runs (λ (a : ℕ). a) runs in (
      sum_by (λ (r : Run ℕ). run_weight + 0) said,
      record { runs = said; are_runs = c.in_ok-runs.ensures.runs; sum = refl },
      c.weight_of.ensures
          ∙ ap (λ (n : ℕ). min n (2 ^ 64 - 1)) (ap (λ (l : List (Run ℕ)). run_weight * length l) c.deref.ensures.value
          ∙ sym (weight_is runs)),
    )
