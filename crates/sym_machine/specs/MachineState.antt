-- The state that a `SymMachine` represents, and its results in the terms of `run_core`, which are for any machine.
use Rattle.std.specs.Prelude.{ℕ, List, Bool, Result, Ok, Err, slice_index_or}
use Rattle.rv_code.specs.declared.placed.Func.{Func}
use Rattle.rv_code.specs.machine.Machine.{Halts}
use Rattle.rv_memory.specs.Memory.{space_in}
use Rattle.run_core.specs.Answers.{Answer}
use Rattle.run_core.specs.Answers as answer
use Rattle.run_core.specs.Inputs.{Outside}
use Rattle.run_core.specs.States as core
use Rattle.run_core.specs.StepAnswers as core_step
use Rattle.sym_machine.specs.declared.machine.SymMachine.{SymMachine}
use Rattle.sym_machine.specs.declared.machine.Change.{Change}
use Rattle.sym_machine.specs.declared.outcome.Reason.{Reason}
use Rattle.sym_machine.specs.declared.outcome.SymStepped.{SymStepped}
use Rattle.sym_machine.specs.declared.outcome.SymStepped.TheVariants as stepped
use Rattle.sym_machine.specs.declared.value.Value.{Value}
use Rattle.sym_machine.specs.declared.value.Value.TheVariants.{Num}
use Rattle.sym_machine.specs.SymStep.{SymState, SymOutcome, writes_register}
use Rattle.sym_machine.specs.internal.Memory.{memory_at}

abbrev pub funcs_of : SymMachine → List Func
funcs_of m = m.code.funcs.now

abbrev pub registers_of : SymMachine → ℕ → Value
registers_of m r = slice_index_or m.registers r (Num 0)

-- the state of machine m with `input` as the bytes that are still to be read
abbrev pub state_of : SymMachine → List ℕ → SymState
state_of m input = record {
  pc = m.pc;
  registers = registers_of m;
  memory = memory_at m.memory;
  space = space_in m.memory.bytes;
  program_break = m.memory.bytes.program_break;
  input = input;
}

abbrev pub answered : SymStepped → Answer Reason
answered stepped.Going = answer.Going
answered (stepped.Ended status) = answer.Ended status
answered (stepped.Stuck pc why) = answer.Halted pc why
answered stepped.ReadFault = answer.ReadFault
answered stepped.WriteFault = answer.WriteFault
answered stepped.Memory = answer.Memory

-- a step with this outcome has the result `result`, and leaves the machine `new` with this input
abbrev pub Becomes : SymOutcome → SymStepped → SymMachine → SymMachine → List ℕ → Type 0
Becomes outcome result old new input = core.Becomes state_of outcome (answered result) old new input

-- what holds after a step, by its result: `ended` and `ends` say if the end of the input was found before and after it
abbrev pub StepAnswers : (SymState → SymOutcome → Type 0) → SymStepped → SymMachine → SymMachine → Bool → Bool → Outside
    → Outside → Type 0
StepAnswers step result old new ended ends before after =
    core_step.StepAnswers state_of step (answered result) old new ended ends before after

-- the outcome of a change of registers, or of a reason to be stuck
abbrev pub changes : SymState → Result Change Reason → SymOutcome
changes s (Ok change) = writes_register s change.next change.rd change.value
changes s (Err why) = Halts s.pc why
