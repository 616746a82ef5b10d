use Rattle.std.proofs.Common.{Bool, subst}
use Rattle.run_core.specs.Inputs.{Outside}
use Rattle.sym_machine.specs.SymStep.{SymSteps}
use Rattle.sym_machine.specs.MachineState.{StepAnswers, funcs_of}
use Rattle.sym_machine.proofs.machine.SymMachine.step.Goals as goal

pub returns-clause-answer : goal.returns-clause-answer
returns-clause-answer g c =
    let before : Outside = record { input = g.I.Source.seen c.args.input.now; output = g.O.Sink.seen c.args.out.now } in
    let after : Outside = record { input = g.I.Source.seen c.step_on.new.input; output = g.O.Sink.seen c.step_on.new.out } in
    let ends : Bool = c.step_on.new.input_end.reached in (
      ends,
      subst (λ (ended : Bool). StepAnswers (SymSteps (funcs_of c.args.self.now)) c.step_on.result c.args.self.now
          c.step_on.new.self ended ends before after) c.new-input_end.ensures c.step_on.ensures.answer,
    )
