-- Results of runs with a limit of steps, for any machine.
use Rattle.std.specs.Prelude.{◌≡◌, ℕ, ◌<◌, ◌≤◌, List, []}
use Rattle.rv_code.specs.machine.Machine.{State, Event, Outcome, SoFar, Run, HaltsAfter}
use Rattle.cli_base.specs.Lines.{ended_line, trapped_line, stuck_line, out_of_steps_line}
use Rattle.cli_base.specs.declared.status.Status.{Status}
use Rattle.cli_base.specs.declared.status.Status.TheVariants as status

-- The result of a run: it ends with a status, the machine halts at a pc for a cause, or the limit of steps is reached.
pub data Ending (C : Type 0) : Type 0 where
  Ends : ℕ → Ending C
  HaltsAt : ℕ → C → Ending C
  RunsOn : Ending C

-- A machine with a program: the outcomes of steps from its states, its state before the first step for each input, and
-- the answer that reports that it halted.
pub record Loaded (V X C : Type 0) : Type 1 where
  pub step : State V X → Outcome (State V X) C → Type 0
  pub start : List ℕ → State V X
  pub halted : ℕ → C → Status

-- the line that shows the result of a run, after `steps` steps; other answers have no line
abbrev pub closing_line : Status → ℕ → List ℕ
closing_line (status.Ended value) steps = ended_line value steps
closing_line (status.Trapped pc cause) steps = trapped_line pc cause steps
closing_line (status.Stuck pc reason) steps = stuck_line pc reason steps
closing_line status.OutOfSteps steps = out_of_steps_line steps
closing_line _ steps = []

module _ {V X C : Type 0} (machine : Loaded V X C) where
  -- the answer that reports the result of a run
  abbrev pub answer_of : Ending C → Status
  answer_of (Ends value) = status.Ended value
  answer_of (HaltsAt pc cause) = machine.halted pc cause
  answer_of RunsOn = status.OutOfSteps

  -- The run with `input` has this result after n steps, made the calls of `trace`, and leaves `rest` of its input. A
  -- step that ends is counted and one that halts isn't, but both are among the first `limit`.
  abbrev pub RunsTo : List ℕ → ℕ → Ending C → ℕ → List Event → List ℕ → Type 0
  RunsTo input limit (Ends value) n trace rest =
      (n ≤ limit) × ((run : Run machine.step (machine.start input) n trace value) × (run.state.input ≡ rest))
  RunsTo input limit (HaltsAt pc cause) n trace rest =
      (n < limit) × ((run : HaltsAfter machine.step (machine.start input) n trace pc cause) × (run.state.input ≡ rest))
  RunsTo input limit RunsOn n trace rest =
      (n ≡ limit)
      × ((state : State V X) × (SoFar machine.step (machine.start input) n trace state × (state.input ≡ rest)))
