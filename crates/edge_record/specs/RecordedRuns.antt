-- The result of a recorded run.
use Rattle.std.specs.Prelude.{◌≡◌, ℕ, ◌-◌, ◌≤◌, List, []}
use Rattle.std.specs.Io.KnownBytes.{append_known}
use Rattle.rv_code.specs.declared.cause.Cause.{Cause}
use Rattle.rv_code.specs.declared.placed.Func.{Func}
use Rattle.rv_code.specs.declared.placed.Block.{Block}
use Rattle.rv_code.specs.machine.Machine.{Event, output, SoFar}
use Rattle.rv_code.specs.machine.Step.{ByteState, Steps}
use Rattle.elf_image.specs.declared.elf.Elf.{Elf}
use Rattle.run_core.specs.Answers.{Answer}
use Rattle.run_core.specs.Answers as answer
use Rattle.run_core.specs.Inputs.{AreSomeBytes, Outside, as_told}
use Rattle.run_core.specs.Runs.{RunsSomeInput}
use Rattle.rv_machine.specs.State.{state_of}
use Rattle.rv_machine.specs.declared.machine.Machine.{Machine}
use Rattle.edge_text.specs.EdgeText.{IsEdgeText}
use Rattle.edge_record.specs.Moves.{Move, Moves}
use Rattle.edge_record.specs.MoveCounts.{taken}

-- the number of counted steps that go on: all except one that ends the program
abbrev pub steps_gone : Answer Cause → ℕ → ℕ
steps_gone (answer.Ended status) n = n - 1
steps_gone _ n = n

-- Steps of the byte machine make these moves.
abbrev pub ByteMoves : ByteState → ℕ → List Move → ByteState → Type 0
ByteMoves s n moves t = Moves Steps (λ u. u.pc) s n moves t

-- A machine that starts in the state `start input`, for any input, and does at most `limit` steps.
module _ (start : List ℕ → ByteState) (limit : ℕ) (before after : Outside) where
  -- Some of the steps were done, possibly all, and their output was written.
  pub record RecordStops : Type 0 where
    pub input : List ℕ
    pub input_is : before.input.left ≡ as_told before.input.left input
    pub input_bytes : AreSomeBytes before.input.left input
    pub steps : ℕ
    pub within : steps ≤ limit
    pub trace : List Event
    pub state : ByteState
    pub so_far : SoFar Steps (start input) steps trace state
    pub left_is : after.input.left ≡ as_told before.input.left state.input
    pub taken_is : after.output.taken ≡ append_known before.output.taken (output trace)

  -- The run ends with this answer after n steps, as a run of the byte machine does.
  pub record RunsFromStart (answer : Answer Cause) (n : ℕ) : Type 0 where
    pub machine : Machine
    pub ends_as : Machine
    pub starts : (input : List ℕ) → state_of machine input ≡ start input
    pub runs : RunsSomeInput state_of Steps answer limit n machine ends_as before after

  -- If the run ends, traps or reaches the limit, the text has the counts of its moves. After a read or write error, and
  -- if memory ran out, the text is empty.
  module _ (elf : Elf) (funcs : List Func) (blocks : List Block) (n : ℕ) (text : List ℕ) where
    pub record IsRecorded (answer : Answer Cause) : Type 0 where
      pub run : RunsFromStart answer n
      pub moves : List Move
      pub state : ByteState
      pub gone : ByteMoves (start run.runs.input) (steps_gone answer n) moves state
      pub text_is : IsEdgeText elf funcs (taken funcs blocks moves) text

    abbrev pub Records : Answer Cause → Type 0
    Records answer.Going = IsRecorded answer.Going
    Records (answer.Ended status) = IsRecorded (answer.Ended status)
    Records (answer.Halted pc cause) = IsRecorded (answer.Halted pc cause)
    Records answer.ReadFault = RunsFromStart answer.ReadFault n × (text ≡ [])
    Records answer.WriteFault = RunsFromStart answer.WriteFault n × (text ≡ [])
    Records answer.Memory = RecordStops × (text ≡ [])
