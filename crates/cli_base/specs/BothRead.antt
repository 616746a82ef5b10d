-- The result of reading an input and its profile, each within the size limit.
use Rattle.std.specs.Prelude.{ℕ, List, Option, Vec}
use Rattle.std.specs.declared.alloc.Global.{Global}
use Rattle.program.specs.Limits.{file_limit}
use Rattle.cli_args.specs.Args.{InputNames}
use Rattle.cli_base.specs.WithinLimit.{IsGiven}

pub record BothRead (content : List ℕ → Option (List ℕ)) (names : InputNames) (file profile : Option (Vec ℕ Global)) : Type 0 where
  pub file_given : IsGiven file_limit (content names.file) file
  pub profile_given : IsGiven file_limit (content names.profile) profile
