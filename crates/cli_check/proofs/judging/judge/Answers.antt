use Rattle.std.proofs.Common.{ℕ, IfOk, List, refl, subst}
use Rattle.program.specs.Refusals.{IsRefusalFor}
use Rattle.cli_base.specs.ProgramFiles.{IsNoProgram}
use Rattle.cli_check.specs.Judged.{IsJudged}
use Rattle.cli_check.specs.VerifiedFiles.{by_input}
use Rattle.cli_check.proofs.judging.judge.Goals as goal

pub returns-in_ok-fault_of-in-Err : goal.returns-in_ok-fault_of-in-Err
returns-in_ok-fault_of-in-Err c = λ input output map of.
    by_input (subst (IsRefusalFor (IsNoProgram input)) c.in_ok-fault_of-in-Err.ensures (c.in-Err.ensures.refused input of.of_input)) refl

pub returns-in-Ok : goal.returns-in-Ok
returns-in-Ok c = λ input output map of.
    subst (λ (f : List ℕ). IfOk c.judge_output.result (IsJudged f output map)) (c.in-Ok.ensures.same input of.of_input)
    (c.judge_output.ensures output map of.of_output of.of_map)
