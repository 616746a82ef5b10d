-- The result of writing a repaired profile.
use Rattle.std.specs.Prelude.{◌≡◌, ℕ, List}
use Rattle.rb_io.specs.Names.{UnchangedBut}
use Rattle.rb_io.specs.TakenText.{TakesAll}
use Rattle.cli_base.specs.PrintedLines.{FailsToPrint}
use Rattle.cli_base.specs.World.{World, WriteRose}
use Rattle.cli_base.specs.WrittenFiles.{HoldsFile}
use Rattle.cli_base.specs.declared.status.Status.{Status}
use Rattle.cli_base.specs.declared.status.Status.TheVariants as status

-- The repaired profile was written, and then the lines printed; or writing the file fails, or printing the lines.
pub data RepairWritten (answer : Status) (out written printed : List ℕ) (old new : World) : Type 0 where
  all_written : answer ≡ status.Ok → HoldsFile out written old new → TakesAll old.output.taken new.output.taken printed
      → RepairWritten answer out written printed old new
  fails_at_file : answer ≡ status.WriteFault → WriteRose old new out → new.output.taken ≡ old.output.taken
      → UnchangedBut out old.files.content new.files.content → RepairWritten answer out written printed old new
  fails_at_lines : answer ≡ status.WriteFault → HoldsFile out written old new → FailsToPrint printed old new
      → RepairWritten answer out written printed old new
