-- The results of the last steps of a recorded run.
use Rattle.std.specs.Prelude.{◌≡◌, ℕ, List}
use Rattle.rb_io.specs.FaultCounts.{Rose}
use Rattle.rb_io.specs.Names.{Unchanged, UnchangedBut}
use Rattle.rb_io.specs.TakenText.{TakesAll, TakesPrefix}
use Rattle.rv_code.specs.declared.cause.Cause.{Cause}
use Rattle.run_core.specs.Answers.{Answer}
use Rattle.run_core.specs.Answers as answer
use Rattle.cli_run.specs.run.RunOutcomes.{closing_line}
use Rattle.cli_base.specs.World.{World, WriteRose}
use Rattle.cli_base.specs.WrittenFiles.{HoldsFile}
use Rattle.cli_base.specs.declared.status.Status.{Status}
use Rattle.cli_base.specs.declared.status.Status.TheVariants as status

-- The profile was written, then the line printed, and the answer is `came`; or writing the profile fails, or printing
-- the line; or neither was written, since memory ran out.
pub data ProfileWritten (result came : Status) (out text line : List ℕ) (old new : World) : Type 0 where
  written : result ≡ came → HoldsFile out text old new → TakesAll old.output.taken new.output.taken line
      → ProfileWritten result came out text line old new
  at_profile : result ≡ status.WriteFault → WriteRose old new out
      → UnchangedBut out old.files.content new.files.content → new.output.taken ≡ old.output.taken
      → ProfileWritten result came out text line old new
  at_line : result ≡ status.WriteFault → Rose old.output.faults new.output.faults → HoldsFile out text old new
      → TakesPrefix old.output.taken new.output.taken line → ProfileWritten result came out text line old new
  unwritten : result ≡ status.NoMemory → Unchanged old.files.content new.files.content
      → new.output.taken ≡ old.output.taken → ProfileWritten result came out text line old new

-- nothing was written, and the answer is `came`
pub record LeavesAll (result came : Status) (old new : World) : Type 0 where
  pub result_is : result ≡ came
  pub unwritten : Unchanged old.files.content new.files.content
  pub unprinted : new.output.taken ≡ old.output.taken

-- The profile is written after a run that wasn't interrupted. After an I/O error, or if memory ran out, nothing is
-- written.
module _ (result : Status) (out text : List ℕ) (steps : ℕ) (old new : World) where
  abbrev pub SaysProfile : Status → Type 0
  SaysProfile came = ProfileWritten result came out text (closing_line came steps) old new

  abbrev pub Finished : Answer Cause → Type 0
  Finished answer.Going = SaysProfile status.OutOfSteps
  Finished (answer.Ended value) = SaysProfile (status.Ended value)
  Finished (answer.Halted pc cause) = SaysProfile (status.Trapped pc cause)
  Finished answer.ReadFault = LeavesAll result status.ReadFault old new
  Finished answer.WriteFault = LeavesAll result status.WriteFault old new
  Finished answer.Memory = LeavesAll result status.NoMemory old new
