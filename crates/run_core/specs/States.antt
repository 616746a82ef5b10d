-- The effect on a machine of a step that neither reads nor writes.
use Rattle.std.specs.Prelude.{◌≡◌, ℕ, List, [], Option, None, Some}
use Rattle.rv_code.specs.machine.Machine.{State, Event, Outcome, Going, Ended, Halts}
use Rattle.run_core.specs.Answers.{Answer}
use Rattle.run_core.specs.Answers as answer

-- Two states are equal at each register and at each address.
pub record Same {V X : Type 0} (s t : State V X) : Type 0 where
  pub pc_is : s.pc ≡ t.pc
  pub registers_are : (r : ℕ) → s.registers r ≡ t.registers r
  pub memory_is : (a : ℕ) → s.memory a ≡ t.memory a
  pub space_is : s.space ≡ t.space
  pub break_is : s.program_break ≡ t.program_break
  pub input_is : s.input ≡ t.input

-- The system call, if there was one, moved no bytes.
abbrev pub MovesNothing : Option Event → Type 0
MovesNothing None = Unit {0}
MovesNothing (Some e) = e.moved ≡ []

-- `state_of` gives the state of a machine of type M with this input.
module _ {M V X C : Type 0} (state_of : M → List ℕ → State V X) where
  -- A step with the outcome has this result, and leaves the machine in the corresponding state.
  abbrev pub Becomes : Outcome (State V X) C → Answer C → M → M → List ℕ → Type 0
  Becomes (Going s e) answer.Going old new input = MovesNothing e × Same s (state_of new input)
  Becomes (Ended n) (answer.Ended status) old new input = (n ≡ status) × Same (state_of old input) (state_of new input)
  Becomes (Halts at why) (answer.Halted pc cause) old new input =
      (at ≡ pc) × (why ≡ cause) × Same (state_of old input) (state_of new input)
  -- Memory may run out in place of any outcome.
  Becomes _ answer.Memory old new input = Same (state_of old input) (state_of new input)
  Becomes _ _ old new input = ⊥
