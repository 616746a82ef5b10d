-- What holds at the end of a repair, by its answer.
use Rattle.std.specs.Prelude.{◌≡◌, ℕ, List, IsTrue}
use Rattle.rb_io.specs.Names.{UnchangedBut}
use Rattle.rb_io.specs.TakenText.{TakesAll}
use Rattle.rb_io.specs.Views.{FilesSeen}
use Rattle.cli_base.specs.Inputs.{AreRead, IsAccepted, IsOkOrNoMemory, IsStopped, NoInputErrors, OfInputs}
use Rattle.cli_args.specs.Args.{InputNames, RepairNames}
use Rattle.cli_base.specs.PrintedLines.{FailsToPrint}
use Rattle.cli_base.specs.Served.{IsServed}
use Rattle.cli_base.specs.World.{World, WriteRose}
use Rattle.cli_base.specs.WrittenFiles.{HoldsFile}
use Rattle.cli_base.specs.declared.status.Status.{Status}
use Rattle.cli_base.specs.declared.status.Status.TheVariants as status
use Rattle.cli_check.specs.RepairedFiles.{CannotRepair, IsRepairOf}

-- both files were read, and this is a repair of them
pub record IsRepairOfFiles (names : InputNames) (files : FilesSeen) (written printed : List ℕ) : Type 0 where
  pub file : List ℕ
  pub profile : List ℕ
  pub are_read : IsTrue files.told → AreRead files.content names file profile
  pub repair : IsRepairOf file profile written printed

-- The profile was written and the lines printed; or a write fails: of the file, and only this file may have changed, or
-- of the lines; or nothing was written.
pub data RepairAnswers (names : RepairNames) (old new : World) (answer : Status) : Type 0 where
  done : answer ≡ status.Ok → (written printed : List ℕ) → IsRepairOfFiles names.inputs old.files written printed
      → HoldsFile names.out written old new → TakesAll old.output.taken new.output.taken printed
      → RepairAnswers names old new answer
  at_out : answer ≡ status.WriteFault → (written printed : List ℕ) → IsRepairOfFiles names.inputs old.files written printed
      → WriteRose old new names.out → new.output.taken ≡ old.output.taken
      → UnchangedBut names.out old.files.content new.files.content → RepairAnswers names old new answer
  at_lines : answer ≡ status.WriteFault → (written printed : List ℕ) → IsRepairOfFiles names.inputs old.files written printed
      → HoldsFile names.out written old new → FailsToPrint printed old new → RepairAnswers names old new answer
  stopped : IsStopped CannotRepair names.inputs old new answer → RepairAnswers names old new answer

-- no count of faults rose, also of the file that is written
pub record NoneRoseRepairing (names : RepairNames) (old new : World) : Type 0 where
  pub others : NoInputErrors names.inputs old new
  pub out : WriteRose old new names.out → ⊥

-- the command is done, or memory runs out, if there is no fault and no count rose
abbrev pub RepairCompletes : RepairNames → Status → World → World → Type 0
RepairCompletes names answer old new =
    IsTrue old.files.told → OfInputs old names.inputs (IsAccepted CannotRepair) → NoneRoseRepairing names old new →
    IsOkOrNoMemory answer

-- the command `repair`
abbrev pub RepairServes : RepairNames → Status → World → World → Type 0
RepairServes names answer old new =
    IsServed (RepairAnswers names old new answer) (RepairCompletes names answer old new) old new
