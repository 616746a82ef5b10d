-- The effect of a command that prints one line, or nothing, and writes no file.
use Rattle.std.specs.Prelude.{◌≡◌, ℕ, List}
use Rattle.rb_io.specs.FaultCounts.{Rose}
use Rattle.rb_io.specs.Names.{Unchanged}
use Rattle.rb_io.specs.TakenText.{TakesAll, TakesPrefix}
use Rattle.cli_base.specs.World.{World}

-- a line was printed, and no file was written
pub record PrintsOnly (line : List ℕ) (old new : World) : Type 0 where
  pub line_taken : TakesAll old.output.taken new.output.taken line
  pub unwritten : Unchanged old.files.content new.files.content

-- nothing was printed or written
pub record IsSilent (old new : World) : Type 0 where
  pub unprinted : new.output.taken ≡ old.output.taken
  pub unwritten : Unchanged old.files.content new.files.content

-- printing a line fails: a proper prefix of it was written
pub record FailsToPrint (line : List ℕ) (old new : World) : Type 0 where
  pub cause : Rose old.output.faults new.output.faults
  pub front : TakesPrefix old.output.taken new.output.taken line

-- printing a line fails, and no file was written
pub record FailsAtLine (line : List ℕ) (old new : World) : Type 0 where
  pub print : FailsToPrint line old new
  pub unwritten : Unchanged old.files.content new.files.content
