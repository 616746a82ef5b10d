-- From the results of the steps of `repair` to its answers.
use Rattle.std.proofs.Common.{◌∙◌, ◌≤◌, ap, sym, subst, ℕ, List, IsTrue}
use Rattle.rb_bytes.specs.declared.fault.Fault.{Fault}
use Rattle.rb_io.specs.FaultCounts.{Rose}
use Rattle.rb_io.specs.TakenText.{TakesAll, TakesPrefix}
use Rattle.rb_io.specs.Views.{FilesGoOn, SinkSeen}
use Rattle.cli_base.specs.Inputs.{IsAccepted, IsOkOrNoMemory, IsTooLong, OfInputs}
use Rattle.cli_base.specs.World.{World}
use Rattle.cli_base.specs.WrittenFiles.{HoldsFile}
use Rattle.cli_base.specs.declared.status.Status.{Status}
use Rattle.cli_base.proofs.FaultCounts.{rose_after}
use Rattle.cli_base.proofs.InputAnswering.{IsBetween, stopped_completes}
use Rattle.cli_check.specs.Phases.{RepairWritten, all_written, fails_at_file, fails_at_lines}
use Rattle.cli_check.specs.RepairAnswers.{IsRepairOfFiles, NoneRoseRepairing, RepairAnswers, RepairServes, at_lines, at_out, done, stopped}
use Rattle.cli_args.specs.Args.{RepairNames}
use Rattle.cli_check.specs.RepairedFiles.{CannotRepair, too_long}

pub long_refused : (file profile : List ℕ) (fault : Fault) → IsTooLong file profile fault → CannotRepair file profile fault
long_refused file profile fault is = too_long is

-- the repair is written after both files were read
module _ (names : RepairNames) (written printed : List ℕ) (old mid new : World) (between : IsBetween old mid)
    (made : IsRepairOfFiles names.inputs old.files written printed) where
  holds : HoldsFile names.out written mid new → HoldsFile names.out written old new
  holds file = record {
    text_is = λ told. file.text_is (between.go_on.told_kept ∙ told);
    others = record { others = λ name apart. file.others.others name apart ∙ between.contents.each name };
  }

  pub ends : (answer : Status) → RepairWritten answer names.out written printed mid new → RepairAnswers names old new answer
  ends answer (all_written is file taken) = done is written printed made (holds file)
      (subst (λ (s : SinkSeen). TakesAll s.taken new.output.taken printed) between.output_is taken)
  ends answer (fails_at_file is rose quiet others) =
      at_out is written printed made (rose_after _ _ _ (between.go_on.writes.each names.out) rose)
      (quiet ∙ ap (λ (s : SinkSeen). s.taken) between.output_is)
      (record { others = λ name apart. others.others name apart ∙ between.contents.each name })
  ends answer (fails_at_lines is file print) =
      at_lines is written printed made (holds file) (record {
        cause = subst (λ (s : SinkSeen). Rose s.faults new.output.faults) between.output_is print.cause;
        front = subst (λ (s : SinkSeen). TakesPrefix s.taken new.output.taken printed) between.output_is print.front;
      })

-- Each answer other than Ok and running out of memory has a cause.
completes : (names : RepairNames) (old new : World) (answer : Status) → RepairAnswers names old new answer →
    IsTrue old.files.told → OfInputs old names.inputs (IsAccepted CannotRepair) → NoneRoseRepairing names old new →
    IsOkOrNoMemory answer
completes names old new answer (done is written printed made file taken) told accepted quiet = subst IsOkOrNoMemory (sym is) tt
completes names old new answer (at_out is written printed made rose silent others) told accepted quiet = absurd (quiet.out rose)
completes names old new answer (at_lines is written printed made file print) told accepted quiet = absurd (quiet.others.line print.cause)
completes names old new answer (stopped stops) told accepted quiet =
    stopped_completes CannotRepair names.inputs old new answer stops told accepted quiet.others

pub serves : (names : RepairNames) (answer : Status) (old new : World) → RepairAnswers names old new answer
    → FilesGoOn old.files new.files → old.input.faults ≤ new.input.faults → old.output.faults ≤ new.output.faults
    → RepairServes names answer old new
serves names answer old new answers go_on input output = record {
  answers = answers;
  completes = completes names old new answer answers;
  files_go_on = go_on;
  input_faults = input;
  output_faults = output;
}
