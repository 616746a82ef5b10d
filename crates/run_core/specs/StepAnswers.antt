-- The result of a step, with its effect on a machine, the source and the sink.
use Rattle.std.specs.Prelude.{◌≡◌, ℕ, ◌<◌, All, List, [], ◌∷◌, ◌++◌, Bool, true, Option, Some}
use Rattle.std.specs.Io.KnownBytes.{append_known, prepend_known}
use Rattle.rb_io.specs.FaultCounts.{Rose}
use Rattle.rb_io.specs.TakenText.{TakesPrefix}
use Rattle.rv_code.specs.machine.Machine.{Event, events, output, Outcome, Going, Ended, Halts}
use Rattle.run_core.specs.Answers.{Answer}
use Rattle.run_core.specs.Answers as answer
use Rattle.run_core.specs.Inputs.{Outside, MayCome, IsRightly}

-- `step` relates a state to the outcomes of a step from it.
module _ {S C : Type 0} (step : S → Outcome S C → Type 0) where
  -- The step is a read of standard input of at least one byte.
  pub record AsksInput (s : S) : Type 0 where
    pub next : S
    pub event : Event
    pub address : ℕ
    pub count : ℕ
    pub comes_to : step s (Going next (Some event))
    pub number_is : event.number ≡ 63
    pub used_is : event.used ≡ 0 ∷ address ∷ count ∷ []
    pub some : 0 < count

  -- The step is a write, of which the sink took a proper prefix.
  pub record GivesOutput (taken now : Option (List ℕ)) (s : S) : Type 0 where
    pub next : S
    pub event : Event
    pub comes_to : step s (Going next (Some event))
    pub number_is : event.number ≡ 64
    pub front : TakesPrefix taken now event.moved

-- `state_of` gives the state of a machine of type M with the input that is still to come.

module _ {M S : Type 0} (state_of : M → List ℕ → S) where
  -- Memory ran out, and nothing was done.
  pub record RanOut (old new : M) (before after : Outside) : Type 0 where
    pub state_is : (input : List ℕ) → state_of new input ≡ state_of old input
    pub left_is : after.input.left ≡ before.input.left
    pub taken_is : after.output.taken ≡ before.output.taken

module _ {M S C : Type 0} (state_of : M → List ℕ → S) (step : S → Outcome S C → Type 0) where
  -- With this input the machine goes on to a state with the rest of the input, and the sink took what the step wrote.
  pub record StepGoesOn (old new : M) (input rest : List ℕ) (before after : Outside) : Type 0 where
    pub event : Option Event
    pub comes_to : step (state_of old input) (Going (state_of new rest) event)
    pub taken_is : after.output.taken ≡ append_known before.output.taken (output (events event))

  -- The machine goes on, whatever comes after the bytes that it read from the source. A source whose end was found
  -- isn't read again.
  pub record StepGoes (old new : M) (ended ends : Bool) (before after : Outside) : Type 0 where
    pub read : List ℕ
    pub bytes : All (λ b. b < 256) read
    pub goes_on : (rest : List ℕ) → MayCome ends rest → StepGoesOn old new (read ++ rest) rest before after
    pub read_is : before.input.left ≡ prepend_known read after.input.left
    pub end_kept : ended ≡ true → (ends ≡ true) × (read ≡ [])
    pub end_is : IsRightly ended before.input.left → IsRightly ends after.input.left

  -- The step has an outcome that leaves machine, source and sink unchanged.
  pub record StepStops (outcome : Outcome S C) (old new : M) (before after : Outside) : Type 0 where
    pub comes_to : (input : List ℕ) → step (state_of old input) outcome
    pub state_is : (input : List ℕ) → state_of new input ≡ state_of old input
    pub left_is : after.input.left ≡ before.input.left
    pub taken_is : after.output.taken ≡ before.output.taken

  pub record FailsToRead (old : M) (before after : Outside) : Type 0 where
    pub cause : Rose before.input.faults after.input.faults
    pub asks : (input : List ℕ) → AsksInput step (state_of old input)
    pub taken_is : after.output.taken ≡ before.output.taken

  pub record FailsToWrite (old : M) (before after : Outside) : Type 0 where
    pub cause : Rose before.output.faults after.output.faults
    pub gives : (input : List ℕ) → GivesOutput step before.output.taken after.output.taken (state_of old input)
    pub left_is : after.input.left ≡ before.input.left

  -- The meaning of a step's result. `ended` and `ends` say whether the end of the source was found before and after it.
  abbrev pub StepAnswers : Answer C → M → M → Bool → Bool → Outside → Outside → Type 0
  StepAnswers answer.Going old new ended ends before after = StepGoes old new ended ends before after
  StepAnswers (answer.Ended status) old new ended ends before after = StepStops (Ended status) old new before after
  StepAnswers (answer.Halted pc cause) old new ended ends before after = StepStops (Halts pc cause) old new before after
  StepAnswers answer.ReadFault old new ended ends before after = FailsToRead old before after
  StepAnswers answer.WriteFault old new ended ends before after = FailsToWrite old before after
  StepAnswers answer.Memory old new ended ends before after = RanOut state_of old new before after
