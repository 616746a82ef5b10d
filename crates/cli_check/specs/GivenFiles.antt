-- The result of reading the three files.
use Rattle.std.specs.Prelude.{ℕ, List, Option}
use Rattle.rb_io.specs.Views.{FilesSeen}
use Rattle.program.specs.Limits.{file_limit}
use Rattle.cli_base.specs.WithinLimit.{IsGiven, IsUnreadable}
use Rattle.cli_base.specs.declared.status.Status.{Status}
use Rattle.cli_args.specs.Args.{VerifyNames}
use Rattle.cli_check.specs.declared.given.Given.{Given}

-- the size limit of a map in bytes
abbrev pub map_limit : ℕ
map_limit = 200000000

pub record AreGiven (content : List ℕ → Option (List ℕ)) (names : VerifyNames) (given : Given) : Type 0 where
  pub input : IsGiven file_limit (content names.input) given.input
  pub output : IsGiven file_limit (content names.output) given.output
  pub map : IsGiven map_limit (content names.map) given.map

-- one of the three can't be read, or memory ran out
pub data IsUngiven (names : VerifyNames) (old new : FilesSeen) (answer : Status) : Type 0 where
  input : IsUnreadable names.input old new answer → IsUngiven names old new answer
  output : IsUnreadable names.output old new answer → IsUngiven names old new answer
  map : IsUnreadable names.map old new answer → IsUngiven names old new answer
