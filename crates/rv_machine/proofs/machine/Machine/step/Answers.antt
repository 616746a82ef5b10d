use Rattle.std.proofs.Common.{Bool, subst}
use Rattle.rv_code.specs.machine.Step.{Steps}
use Rattle.run_core.specs.Inputs.{Outside}
use Rattle.rv_machine.specs.StepResults.{StepAnswers}
use Rattle.rv_machine.proofs.machine.Machine.step.Goals as goal

pub returns-clause-answer : goal.returns-clause-answer
returns-clause-answer g c =
    let before : Outside = record { input = g.I.Source.seen c.args.input.now; output = g.O.Sink.seen c.args.out.now } in
    let after : Outside =
    record { input = g.I.Source.seen c.step_known.new.input; output = g.O.Sink.seen c.step_known.new.out } in
    let ends : Bool = c.step_known.new.input_end.reached in (
      ends,
      subst (λ (ended : Bool). StepAnswers Steps c.step_known.result c.args.self.now c.step_known.new.self ended ends before
          after) c.new-input_end.ensures c.step_known.ensures.answer,
    )
