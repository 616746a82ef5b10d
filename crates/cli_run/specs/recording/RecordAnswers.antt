-- What holds at the end of a recorded run, by its answer.
use Rattle.std.specs.Prelude.{◌≡◌, ℕ, List, Some, IsTrue}
use Rattle.rb_io.specs.FaultCounts.{Rose}
use Rattle.rb_io.specs.Names.{Unchanged, UnchangedBut}
use Rattle.rb_io.specs.TakenText.{TakesAll, TakesPrefix}
use Rattle.rv_code.specs.declared.cause.Cause.{Cause}
use Rattle.rv_code.specs.machine.Step.{ByteState}
use Rattle.edge_text.specs.EdgeText.{IsEdgeText}
use Rattle.edge_record.specs.Moves.{Move}
use Rattle.edge_record.specs.RecordedRuns.{ByteMoves}
use Rattle.edge_record.specs.MoveCounts.{taken}
use Rattle.program.specs.Program.{Program}
use Rattle.cli_run.specs.recording.RecordRuns.{record_machine, record_mode, moving_steps}
use Rattle.cli_run.specs.run.RunOutcomes.{Ending, answer_of}
use Rattle.cli_run.specs.run.RunAnswers.{Taking, ComesOut, StopsRun, FileAnswers, IsComplete, IsExact, NoRunErrors}
use Rattle.cli_run.specs.run.RunAnswers.{outside}
use Rattle.cli_base.specs.ProgramFiles.{IsFileProgram}
use Rattle.cli_args.specs.Args.{RecordArgs}
use Rattle.cli_base.specs.Served.{IsServed}
use Rattle.cli_base.specs.World.{World, WriteRose}
use Rattle.cli_base.specs.WrittenFiles.{HoldsFile}
use Rattle.cli_base.specs.declared.status.Status.{Status}
use Rattle.cli_base.specs.declared.status.Status.TheVariants as status

-- nothing of the line was written
abbrev pub TakesNone : Taking
TakesNone before after line = after ≡ before

module _ (program : Program) (args : RecordArgs) (old new : World) where
  -- The run has this result, and the text is the profile of its moves: a line for each pair that was taken. Read as a
  -- profile of the file, the text says exactly how often each pair was taken.
  pub record IsProfiled (Takes : Taking) (ending : Ending Cause) (text : List ℕ) : Type 0 where
    pub comes_out :
        ComesOut (record_machine program args.run.args) args.run.limit (outside old) (outside new) Takes ending
    pub moves : List Move
    pub state : ByteState
    pub gone : ByteMoves ((record_machine program args.run.args).start comes_out.input)
        (moving_steps ending comes_out.steps)
        moves state
    pub text_is : IsEdgeText program.elf program.code.funcs (taken program.code.funcs program.blocks moves) text

  -- the possible answers of a run that started
  pub data RecordsRun (answer : Status) : Type 0 where
    recorded : (ending : Ending Cause) (text : List ℕ) →
        answer ≡ answer_of (record_machine program args.run.args) ending
        → IsProfiled TakesAll ending text → HoldsFile args.out text old new → RecordsRun answer
    at_profile : (ending : Ending Cause) → answer ≡ status.WriteFault → WriteRose old new args.out
        → ComesOut (record_machine program args.run.args) args.run.limit (outside old) (outside new) TakesNone ending
        → UnchangedBut args.out old.files.content new.files.content → RecordsRun answer
    at_closing : (ending : Ending Cause) (text : List ℕ) → answer ≡ status.WriteFault
        → Rose old.output.faults new.output.faults → IsProfiled TakesPrefix ending text
        → HoldsFile args.out text old new → RecordsRun answer
    stopped : StopsRun (record_machine program args.run.args) args.run.limit (outside old) (outside new) answer
        → Unchanged old.files.content new.files.content → RecordsRun answer

-- the answer of a recorded run that started, and that it is exact
pub record IsAnsweredRecording (program : Program) (args : RecordArgs) (old new : World)
    (answer : Status) : Type 0 where
  pub records : RecordsRun program args old new answer
  pub exact : IsExact (record_machine program args.run.args) args.run.limit old.input.left answer

-- the file was read and has no fault, and the run of its program has this answer
pub record IsRecording (args : RecordArgs) (old new : World) (answer : Status) : Type 0 where
  pub file : List ℕ
  pub file_is : IsTrue old.files.told → old.files.content args.run.file ≡ Some file
  pub program : Program
  pub program_is : IsFileProgram file program
  pub run : RecordsRun program args old new answer

abbrev pub RecordAnswers : RecordArgs → World → World → Status → Type 0
RecordAnswers args old new answer = FileAnswers record_mode args.run (IsRecording args old new answer) old new answer

-- no count of faults rose, also of the file that is written
pub record NoneRoseRecording (args : RecordArgs) (old new : World) : Type 0 where
  pub others : NoRunErrors args.run old new
  pub out : WriteRose old new args.out → ⊥

-- the answer for a file that can be run
abbrev pub RecordCompletes : RecordArgs → Status → World → World → Type 0
RecordCompletes args answer old new =
    IsTrue old.files.told → (file : List ℕ) → old.files.content args.run.file ≡ Some file → record_mode.CanRun file →
    IsComplete record_mode args.run file old.input.left answer (NoneRoseRecording args old new)

-- the command `record`
abbrev pub RecordServes : RecordArgs → Status → World → World → Type 0
RecordServes args answer old new =
    IsServed (RecordAnswers args old new answer) (RecordCompletes args answer old new) old new
