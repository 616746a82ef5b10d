-- The command `record` serves.
use Rattle.std.proofs.Common.{◌≡◌, ◌∙◌, ◌≤◌, refl, subst, sym, ℕ, List, Some, IsTrue}
use Rattle.rb_io.specs.Names.{Unchanged}
use Rattle.rb_io.specs.Views.{FilesGoOn, FilesSeen, SinkSeen}
use Rattle.rb_bytes.specs.declared.fault.Fault.{Fault}
use Rattle.program.specs.Program.{Program}
use Rattle.cli_base.specs.Served.{IsInputKept}
use Rattle.cli_base.specs.WrittenFiles.{HoldsFile}
use Rattle.cli_run.specs.recording.RecordAnswers.{IsRecording, RecordAnswers, RecordServes, RecordsRun, NoneRoseRecording, recorded}
use Rattle.cli_run.specs.recording.RecordAnswers.{at_profile, at_closing, stopped}
use Rattle.cli_run.specs.recording.RecordRuns.{record_machine, record_mode}
use Rattle.cli_run.specs.run.RunOutcomes.{Ends, HaltsAt, RunsOn}
use Rattle.cli_run.specs.run.RunAnswers.{at_input, at_output, out_of_memory, under_way, IsRunAnswer, IsExact}
use Rattle.cli_base.specs.ProgramFiles.{IsFileProgram, too_long}
use Rattle.cli_args.specs.Args.{RecordArgs}
use Rattle.cli_base.specs.World.{World}
use Rattle.cli_base.specs.declared.status.Status.{Status}
use Rattle.cli_base.specs.declared.status.Status.TheVariants as status
use Rattle.cli_base.proofs.FaultCounts.{rose_after}
use Rattle.cli_run.proofs.RunAnswering.{IsLawful, IsFileServed, ending_said, stop_said, some_said, other_exact}
use Rattle.cli_run.proofs.SymbolRunAnswering.{not_both}

-- the profile still has its text, and the other files are unchanged
still_holds : (out text : List ℕ) (old new : World) (files : FilesSeen) → Unchanged old.files.content files.content
    → FilesGoOn old.files files
    → HoldsFile out text (record { files = files; input = old.input; output = old.output }) new → HoldsFile out text old new
still_holds out text old new files same go_on holds = record {
  text_is = λ told. holds.text_is (go_on.told_kept ∙ told);
  others = record { others = λ name apart. holds.others.others name apart ∙ same.each name };
}

-- a run that started isn't refused, so it may have read its input
module _ (program : Program) (args : RecordArgs) (old_world new_world : World) (answer : Status) where
  not_refused : (fault : Fault) → RecordsRun program args old_world new_world answer → answer ≡ status.Refused fault → ⊥
  not_refused fault (recorded (Ends value) text so profiled holds) same = absurd (cc)
  not_refused fault (recorded (HaltsAt pc why) text so profiled holds) same = absurd (cc)
  not_refused fault (recorded RunsOn text so profiled holds) same = absurd (cc)
  not_refused fault (at_profile ending so rose out others) same = absurd (cc)
  not_refused fault (at_closing ending text so rose profiled holds) same = absurd (cc)
  not_refused fault (stopped (at_input so rose stops) kept) same = absurd (cc)
  not_refused fault (stopped (at_output so rose stops) kept) same = absurd (cc)
  not_refused fault (stopped (out_of_memory so stops) kept) same = absurd (cc)

  pub keeps_input : {Input : Type 0} (old new : Input) → RecordsRun program args old_world new_world answer →
      IsInputKept ⊥ answer old new
  keeps_input old new run = record {
    refused = λ fault same. absurd (not_refused fault run same);
    untouched = λ touched. absurd touched;
  }

pub lawful : IsLawful record_mode
lawful = record {
  long_cannot = λ file long. too_long long refl;
  not_both = not_both;
  halts = λ program args pc cause. tt;
}

module _ (args : RecordArgs) (old new : World) where
  -- a run that started
  goes_under_way : (answer : Status) (file : List ℕ) (program : Program)
      → (IsTrue old.files.told → old.files.content args.run.file ≡ Some file) → IsFileProgram file program
      → RecordsRun program args old new answer → RecordAnswers args old new answer
  goes_under_way answer file program is program_is run =
      under_way (record { file = file; file_is = is; program = program; program_is = program_is; run = run })

  -- facts of the world after the file was read, if nothing was printed, are facts of the world before
  after_reading : (program : Program) (files : FilesSeen) (answer : Status) → Unchanged old.files.content files.content
      → FilesGoOn old.files files
      → RecordsRun program args (record { files = files; input = old.input; output = old.output }) new answer
      → RecordsRun program args old new answer
  after_reading program files answer same go_on (recorded ending text so profiled holds) =
      recorded ending text so (record {
        comes_out = profiled.comes_out;
        moves = profiled.moves;
        state = profiled.state;
        gone = profiled.gone;
        text_is = profiled.text_is;
      })
      (still_holds args.out text old new files same go_on holds)
  after_reading program files answer same go_on (at_profile ending so rose out others) =
      at_profile ending so (rose_after _ _ _ (go_on.writes.each args.out) rose) out
      (record { others = λ name apart. others.others name apart ∙ same.each name })
  after_reading program files answer same go_on (at_closing ending text so rose profiled holds) =
      at_closing ending text so rose (record {
        comes_out = profiled.comes_out;
        moves = profiled.moves;
        state = profiled.state;
        gone = profiled.gone;
        text_is = profiled.text_is;
      })
      (still_holds args.out text old new files same go_on holds)
  after_reading program files answer same go_on (stopped stops kept) =
      stopped stops (record { each = λ name. kept.each name ∙ same.each name })

  -- If there are no errors, the answer of a run that started is its result.
  module _ (file : List ℕ) (told : IsTrue old.files.told) (is : old.files.content args.run.file ≡ Some file)
      (can : record_mode.CanRun file) (quiet : NoneRoseRecording args old new) (answer : Status) where
    recorded_said : (program : Program) → RecordsRun program args old new answer → IsRunAnswer answer
    recorded_said program (recorded ending text so profiled holds) =
        subst IsRunAnswer (sym so) (ending_said record_mode args.run old new lawful file told is can program ending)
    recorded_said program (at_profile ending so rose out others) = absurd (quiet.out rose)
    recorded_said program (at_closing ending text so rose profiled holds) = absurd (quiet.others.out rose)
    recorded_said program (stopped stops kept) =
        stop_said record_mode args.run old new lawful file told is can program answer quiet.others stops

    said : RecordAnswers args old new answer → IsRunAnswer answer
    said done =
        some_said record_mode args.run old new lawful file told is can (IsRecording args old new answer) answer
        (λ way. recorded_said way.program way.run) quiet.others done

  pub after_read : (program : Program) (files : FilesSeen) (output : SinkSeen) (answer : Status)
      → Unchanged old.files.content files.content → FilesGoOn old.files files → output ≡ old.output
      → RecordsRun program args (record { files = files; input = old.input; output = output }) new answer
      → RecordsRun program args old new answer
  after_read program files output answer same go_on unprinted run =
      after_reading program files answer same go_on
      (subst (λ (o : SinkSeen). RecordsRun program args (record { files = files; input = old.input; output = o }) new answer)
      unprinted run)

  abbrev pub IsRecordServed : Status → Type 0
  IsRecordServed answer =
      IsFileServed record_mode args.run (IsRecording args old new answer) (NoneRoseRecording args old new) old new answer

  pub run_recorded : (answer : Status) (file : List ℕ) (program : Program)
      → (IsTrue old.files.told → old.files.content args.run.file ≡ Some file) → IsFileProgram file program
      → RecordsRun program args old new answer
      → IsExact (record_machine program args.run.args) args.run.limit old.input.left answer → IsRecordServed answer
  run_recorded answer file program is program_is run exact =
      let done : RecordAnswers args old new answer = goes_under_way answer file program is program_is run in
      record {
        done = done;
        completes = λ told other other_is can. record {
          some = λ quiet. said other told other_is can quiet answer done;
          exactly = other_exact record_mode args.run old new answer file other program (is told) other_is program_is exact;
        };
      }

  -- all facts together, from what was done for the file
  pub serves : (answer : Status) → IsRecordServed answer → FilesGoOn old.files new.files
      → old.input.faults ≤ new.input.faults → old.output.faults ≤ new.output.faults → RecordServes args answer old new
  serves answer served go_on input output = record {
    answers = served.done;
    completes = served.completes;
    files_go_on = go_on;
    input_faults = input;
    output_faults = output;
  }
