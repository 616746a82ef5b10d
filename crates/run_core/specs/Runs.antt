-- The result of a run with a limited number of steps.
use Rattle.std.specs.Prelude.{◌≡◌, ℕ, ◌+◌, ◌<◌, ◌≤◌, List}
use Rattle.std.specs.Io.KnownBytes.{append_known}
use Rattle.rb_io.specs.FaultCounts.{Rose}
use Rattle.rv_code.specs.machine.DeterminedRuns.{IsDetermined}
use Rattle.rv_code.specs.machine.Machine.{Event, output, Outcome, SoFar, Run, HaltsAfter}
use Rattle.run_core.specs.Answers.{Answer}
use Rattle.run_core.specs.Answers as answer
use Rattle.run_core.specs.Inputs.{AreSomeBytes, Outside, as_told}
use Rattle.run_core.specs.StepAnswers.{AsksInput, GivesOutput}

-- The number of steps done, if the step after the first n has this result. A step that ends the program counts, and one
-- that halts or fails doesn't.
abbrev pub steps_done : {C : Type 0} → Answer C → ℕ → ℕ
steps_done answer.Going n = n
steps_done (answer.Ended status) n = n + 1
steps_done (answer.Halted pc cause) n = n
steps_done answer.ReadFault n = n
steps_done answer.WriteFault n = n
steps_done answer.Memory n = n

-- The number of first steps that are deterministic. There are no steps after an exit or a halt.
abbrev pub determined_steps : {C : Type 0} → Answer C → ℕ → ℕ → ℕ
determined_steps answer.Going limit n = limit
determined_steps (answer.Ended status) limit n = limit
determined_steps (answer.Halted pc cause) limit n = limit
determined_steps answer.ReadFault limit n = n + 1
determined_steps answer.WriteFault limit n = n + 1
determined_steps answer.Memory limit n = n + 1

-- A fault of the source or the sink, or no memory.
abbrev pub IsInterrupted : {C : Type 0} → Answer C → Type 0
IsInterrupted answer.Going = ⊥
IsInterrupted (answer.Ended status) = ⊥
IsInterrupted (answer.Halted pc cause) = ⊥
IsInterrupted answer.ReadFault = Unit {0}
IsInterrupted answer.WriteFault = Unit {0}
IsInterrupted answer.Memory = Unit {0}

-- The result of the first `limit` steps from a state by the definition, with the number of steps that count and their
-- calls.
abbrev pub StateRunsTo : {S C : Type 0} → (S → Outcome S C → Type 0) → Answer C → ℕ → ℕ → S → List Event → Type 0
StateRunsTo {S} step answer.Going limit n s trace = (n ≡ limit) × (t : S) × SoFar step s n trace t
StateRunsTo step (answer.Ended status) limit n s trace = (n ≤ limit) × Run step s n trace status
StateRunsTo step (answer.Halted pc cause) limit n s trace = (n < limit) × HaltsAfter step s n trace pc cause
StateRunsTo step answer.ReadFault limit n s trace = ⊥
StateRunsTo step answer.WriteFault limit n s trace = ⊥
StateRunsTo step answer.Memory limit n s trace = ⊥

-- `state_of` gives the state of a machine of type M with the remaining input. `step` relates a state to the outcomes of
-- a step.
module _ {M S C : Type 0} (state_of : M → List ℕ → S) (step : S → Outcome S C → Type 0) where
  -- n steps, none of which ended or halted, reached the machine's state. The source has the rest of the input left, and
  -- the sink took the output of the calls.
  pub record RunComesTo (old now : M) (input : List ℕ) (n : ℕ) (before after : Outside) : Type 0 where
    pub rest : List ℕ
    pub trace : List Event
    pub so_far : SoFar step (state_of old input) n trace (state_of now rest)
    pub left_is : after.input.left ≡ as_told before.input.left rest
    pub taken_is : after.output.taken ≡ append_known before.output.taken (output trace)

  -- The program ended at the last of these steps. The machine is in the state before that step.
  pub record HasEnded (status : ℕ) (old now : M) (input : List ℕ) (n : ℕ) (before after : Outside) : Type 0 where
    pub rest : List ℕ
    pub trace : List Event
    pub run : Run step (state_of old input) n trace status
    pub state_is : run.state ≡ state_of now rest
    pub left_is : after.input.left ≡ as_told before.input.left rest
    pub taken_is : after.output.taken ≡ append_known before.output.taken (output trace)

  -- The next step halts. The machine is in the state before that step.
  pub record HasHalted (pc : ℕ) (cause : C) (old now : M) (input : List ℕ) (n : ℕ)
      (before after : Outside) : Type 0 where
    pub rest : List ℕ
    pub trace : List Event
    pub halts : HaltsAfter step (state_of old input) n trace pc cause
    pub state_is : halts.state ≡ state_of now rest
    pub left_is : after.input.left ≡ as_told before.input.left rest
    pub taken_is : after.output.taken ≡ append_known before.output.taken (output trace)

  -- The next step reads input, and the read failed.
  pub record HasFailedToRead (old : M) (input : List ℕ) (n : ℕ) (before after : Outside) : Type 0 where
    pub cause : Rose before.input.faults after.input.faults
    pub trace : List Event
    pub state : S
    pub so_far : SoFar step (state_of old input) n trace state
    pub asks : AsksInput step state
    pub taken_is : after.output.taken ≡ append_known before.output.taken (output trace)

  -- The next step writes, and the sink only took a proper prefix of its bytes.
  pub record HasFailedToWrite (old : M) (input : List ℕ) (n : ℕ) (before after : Outside) : Type 0 where
    pub cause : Rose before.output.faults after.output.faults
    pub trace : List Event
    pub state : S
    pub so_far : SoFar step (state_of old input) n trace state
    pub gives : GivesOutput step (append_known before.output.taken (output trace)) after.output.taken state

  -- A step that ends the program counts, and one that halts or fails doesn't, but it is among the first `limit` steps.
  -- Going means that the steps are used up.
  abbrev pub MachineRunAnswers : Answer C → ℕ → ℕ → M → M → List ℕ → Outside → Outside → Type 0
  MachineRunAnswers answer.Going limit n old now input before after = (n ≡ limit)
      × RunComesTo old now input n before after
  MachineRunAnswers (answer.Ended status) limit n old now input before after =
      (n ≤ limit) × HasEnded status old now input n before after
  MachineRunAnswers (answer.Halted pc cause) limit n old now input before after =
      (n < limit) × HasHalted pc cause old now input n before after
  MachineRunAnswers answer.ReadFault limit n old now input before after =
      (n < limit) × HasFailedToRead old input n before after
  MachineRunAnswers answer.WriteFault limit n old now input before after =
      (n < limit) × HasFailedToWrite old input n before after
  MachineRunAnswers answer.Memory limit n old now input before after = (n < limit)
      × RunComesTo old now input n before after

  -- For some input (the source's own if it is transparent) the run has this result. With this input no other result is
  -- possible, except for faults and running out of memory.
  pub record RunsSomeInput (answer : Answer C) (limit n : ℕ) (old now : M) (before after : Outside) : Type 0 where
    pub input : List ℕ
    pub input_is : before.input.left ≡ as_told before.input.left input
    pub input_bytes : AreSomeBytes before.input.left input
    pub answers : MachineRunAnswers answer limit n old now input before after
    pub determined : IsDetermined step (state_of old input) (determined_steps answer limit n)
