-- Results of the byte machine in the terms of `run_core`, which are for any machine.
use Rattle.std.specs.Prelude.{ℕ, List, Bool}
use Rattle.rv_code.specs.declared.cause.Cause.{Cause}
use Rattle.rv_code.specs.machine.Step.{ByteState, ByteOutcome}
use Rattle.run_core.specs.Answers.{Answer}
use Rattle.run_core.specs.Answers as answer
use Rattle.run_core.specs.Inputs.{Outside}
use Rattle.run_core.specs.States as core
use Rattle.run_core.specs.StepAnswers as core_step
use Rattle.rv_machine.specs.declared.machine.Machine.{Machine}
use Rattle.rv_machine.specs.declared.stepped.Stepped.{Stepped}
use Rattle.rv_machine.specs.declared.stepped.Stepped.TheVariants as stepped
use Rattle.rv_machine.specs.State.{state_of}

abbrev pub answered : Stepped → Answer Cause
answered stepped.Going = answer.Going
answered (stepped.Ended status) = answer.Ended status
answered (stepped.Trap pc cause) = answer.Halted pc cause
answered stepped.ReadFault = answer.ReadFault
answered stepped.WriteFault = answer.WriteFault
answered stepped.Memory = answer.Memory

-- a step with this outcome has the result `result`, and leaves the machine `new` with this input
abbrev pub Becomes : ByteOutcome → Stepped → Machine → Machine → List ℕ → Type 0
Becomes outcome result old new input = core.Becomes state_of outcome (answered result) old new input

-- what holds after a step, by its result: `ended` and `ends` say if the end of the input was found before and after it
abbrev pub StepAnswers : (ByteState → ByteOutcome → Type 0) → Stepped → Machine → Machine → Bool → Bool → Outside →
    Outside
    → Type 0
StepAnswers step result old new ended ends before after =
    core_step.StepAnswers state_of step (answered result) old new ended ends before after
