-- What holds at the end of a run, by its answer. The statements on its steps are about some input of bytes: the input
-- of standard input, if this is transparent.
use Rattle.std.specs.Prelude.{◌≡◌, ◌⊎◌, ℕ, ◌<◌, ◌≤◌, List, Option, Some, IsTrue, IsSomeAnd}
use Rattle.std.specs.Io.KnownBytes.{append_known}
use Rattle.rb_io.specs.FaultCounts.{Rose}
use Rattle.rb_io.specs.Names.{Unchanged}
use Rattle.rb_io.specs.TakenText.{TakesAll, TakesPrefix}
use Rattle.rb_bytes.specs.declared.fault.Fault.{Fault}
use Rattle.rv_code.specs.machine.Machine.{State, Event, output, SoFar}
use Rattle.run_core.specs.Inputs.{AreSomeBytes, Outside, as_told, outside_of}
use Rattle.run_core.specs.StepAnswers.{AsksInput, GivesOutput}
use Rattle.cli_base.specs.Lines.{refused_line}
use Rattle.cli_base.specs.Served.{IsServed}
use Rattle.cli_base.specs.PrintedLines.{PrintsOnly, IsSilent, FailsAtLine}
use Rattle.cli_run.specs.run.RunOutcomes.{Ending, Loaded, answer_of, closing_line, RunsTo}
use Rattle.cli_run.specs.run.Modes.{Mode}
use Rattle.cli_args.specs.Args.{RunArgs}
use Rattle.cli_base.specs.World.{World, ReadRose}
use Rattle.cli_base.specs.declared.status.Status.{Status}
use Rattle.cli_base.specs.declared.status.Status.TheVariants as status

-- how much of a text was written, given the output before and after it
abbrev pub Taking : Type 1
Taking = Option (List ℕ) → Option (List ℕ) → List ℕ → Type 0

-- A machine with a program, which does at most `limit` steps.
module _ {V X C : Type 0} (machine : Loaded V X C) (limit : ℕ) (before after : Outside) where
  -- The whole run has this result. Its output was written, and then as much of the closing line as `Takes` says; and
  -- the rest of the input is what the run leaves.
  pub record ComesOut (Takes : Taking) (ending : Ending C) : Type 0 where
    pub input : List ℕ
    pub input_is : before.input.left ≡ as_told before.input.left input
    pub input_bytes : AreSomeBytes before.input.left input
    pub steps : ℕ
    pub trace : List Event
    pub rest : List ℕ
    pub runs : RunsTo machine input limit ending steps trace rest
    pub line : Takes (append_known before.output.taken (output trace)) after.output.taken
        (closing_line (answer_of machine ending) steps)
    pub left_is : after.input.left ≡ as_told before.input.left rest

  -- The first steps of a run, such that P holds for their number, their output and the state after them.
  pub record FirstSteps (P : ℕ → List ℕ → State V X → Type 0) : Type 0 where
    pub input : List ℕ
    pub input_is : before.input.left ≡ as_told before.input.left input
    pub input_bytes : AreSomeBytes before.input.left input
    pub steps : ℕ
    pub trace : List Event
    pub state : State V X
    pub so_far : SoFar machine.step (machine.start input) steps trace state
    pub fits : P steps (output trace) state

  -- The next step asks for input. The output before it was written.
  abbrev pub StopsAtRead : Type 0
  StopsAtRead = FirstSteps
      (λ steps printed state. (steps < limit) × TakesAll before.output.taken after.output.taken printed
      × AsksInput machine.step state)

  -- The next step writes. The output before it was written, and a proper prefix of its own output.
  abbrev pub StopsAtWrite : Type 0
  StopsAtWrite = FirstSteps
      (λ steps printed state. (steps < limit)
      × GivesOutput machine.step (append_known before.output.taken printed) after.output.taken state)

  -- The output of the first steps was written; these may be all steps of the run.
  abbrev pub StopsAnywhere : Type 0
  StopsAnywhere = FirstSteps
      (λ steps printed state. (steps ≤ limit) × TakesAll before.output.taken after.output.taken printed
      × (after.input.left ≡ as_told before.input.left state.input))

  -- the possible answers of a run that was interrupted
  pub data StopsRun (answer : Status) : Type 0 where
    at_input : answer ≡ status.ReadFault → Rose before.input.faults after.input.faults → StopsAtRead → StopsRun answer
    at_output : answer ≡ status.WriteFault → Rose before.output.faults after.output.faults → StopsAtWrite →
        StopsRun answer
    out_of_memory : answer ≡ status.NoMemory → StopsAnywhere → StopsRun answer

  -- the possible answers of a run that started
  pub data AnswersRun (answer : Status) : Type 0 where
    came_out : (ending : Ending C) → answer ≡ answer_of machine ending → ComesOut TakesAll ending → AnswersRun answer
    at_closing : answer ≡ status.WriteFault → Rose before.output.faults after.output.faults → (ending : Ending C)
        → ComesOut TakesPrefix ending → AnswersRun answer
    stopped : StopsRun answer → AnswersRun answer

abbrev pub outside : World → Outside
outside w = outside_of w.input w.output

module _ {P V X C : Type 0} (mode : Mode P V X C) (args : RunArgs) where
  -- the file has the fault, if files are transparent
  abbrev pub HasRunFault : World → Fault → Type 0
  HasRunFault w fault = IsTrue w.files.told → IsSomeAnd (w.files.content args.file) (λ file. mode.CannotRun file fault)

  -- The file was read, it can be run, no file was written, and the run of its program has this answer.
  pub record IsUnderWay (old new : World) (answer : Status) : Type 0 where
    pub file : List ℕ
    pub file_is : IsTrue old.files.told → old.files.content args.file ≡ Some file
    pub unwritten : Unchanged old.files.content new.files.content
    pub program : P
    pub program_is : mode.IsProgram file program
    pub run : AnswersRun (mode.machine program args.args) args.limit (outside old) (outside new) answer

  -- If nothing is run, standard input is unchanged. U holds for a run that started.
  pub data FileAnswers (U : Type 0) (old new : World) (answer : Status) : Type 0 where
    under_way : U → FileAnswers U old new answer
    refused : (fault : Fault) → answer ≡ status.Refused fault → HasRunFault old fault →
        PrintsOnly (refused_line fault) old new
        → new.input ≡ old.input → FileAnswers U old new answer
    at_refusal : (fault : Fault) → answer ≡ status.WriteFault → HasRunFault old fault →
        FailsAtLine (refused_line fault) old new
        → new.input ≡ old.input → FileAnswers U old new answer
    at_file : answer ≡ status.ReadFault → ReadRose old new args.file → IsSilent old new → new.input ≡ old.input
        → FileAnswers U old new answer
    before_run : answer ≡ status.NoMemory → IsSilent old new → new.input ≡ old.input → FileAnswers U old new answer

  abbrev pub RunAnswers : World → World → Status → Type 0
  RunAnswers old new answer = FileAnswers (IsUnderWay old new answer) old new answer

-- an I/O error interrupted the command, or memory ran out
pub data IsCutShort (answer : Status) : Type 0 where
  read_fault : answer ≡ status.ReadFault → IsCutShort answer
  write_fault : answer ≡ status.WriteFault → IsCutShort answer
  no_memory : answer ≡ status.NoMemory → IsCutShort answer

-- the answer is the result of a run, or that memory ran out
abbrev pub IsRunAnswer : Status → Type 0
IsRunAnswer (status.Ended value) = Unit {0}
IsRunAnswer (status.Trapped pc cause) = Unit {0}
IsRunAnswer (status.Stuck pc reason) = Unit {0}
IsRunAnswer status.OutOfSteps = Unit {0}
IsRunAnswer status.NoMemory = Unit {0}
IsRunAnswer _ = ⊥

-- if the input is transparent, the answer is the result of the run, unless it was interrupted
abbrev pub IsExact : {V X C : Type 0} → Loaded V X C → ℕ → Option (List ℕ) → Status → Type 0
IsExact {C = C} machine limit left answer = (input : List ℕ) → left ≡ Some input →
    (ending : Ending C) (steps : ℕ) (trace : List Event) (rest : List ℕ) →
    RunsTo machine input limit ending steps trace rest →
    (answer ≡ answer_of machine ending) ⊎ IsCutShort answer

-- the answer of a run that started, and that it is exact
pub record IsAnsweredRun {V X C : Type 0} (machine : Loaded V X C) (limit : ℕ) (before after : Outside)
    (answer : Status) :
    Type 0 where
  pub answers : AnswersRun machine limit before after answer
  pub exact : IsExact machine limit before.input.left answer

-- No count of faults rose: of the file, of standard input and of standard output.
pub record NoRunErrors (args : RunArgs) (old new : World) : Type 0 where
  pub file : ReadRose old new args.file → ⊥
  pub input : Rose old.input.faults new.input.faults → ⊥
  pub out : Rose old.output.faults new.output.faults → ⊥

-- A file that can be run: if no I/O errors occurred, the answer is the result of a run. It is exact for the machine
-- with the file's program, unless the run was interrupted.
pub record IsComplete {P V X C : Type 0} (mode : Mode P V X C) (args : RunArgs) (file : List ℕ) (left : Option (List ℕ))
    (answer : Status) (NoErrors : Type 0) : Type 0 where
  pub some : NoErrors → IsRunAnswer answer
  pub exactly : IsCutShort answer
      ⊎ ((program : P) × (mode.IsProgram file program × IsExact (mode.machine program args.args) args.limit left
      answer))

-- the completeness of `run`, for the I/O errors of `NoRunErrors`
abbrev pub RunCompletes : {P V X C : Type 0} → Mode P V X C → RunArgs → List ℕ → Status → World → World → Type 0
RunCompletes mode args file answer old new = IsComplete mode args file old.input.left answer (NoRunErrors args old new)

-- a file that can be run is run completely
abbrev pub CompletesRun : {P V X C : Type 0} → Mode P V X C → RunArgs → Status → World → World → Type 0
CompletesRun mode args answer old new =
    IsTrue old.files.told → (file : List ℕ) → old.files.content args.file ≡ Some file → mode.CanRun file →
    RunCompletes mode args file answer old new

-- the command `run` in a mode
abbrev pub RunServes : {P V X C : Type 0} → Mode P V X C → RunArgs → Status → World → World → Type 0
RunServes mode args answer old new =
    IsServed (RunAnswers mode args old new answer) (CompletesRun mode args answer old new) old new
