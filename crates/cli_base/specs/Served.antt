-- What each command keeps unchanged, in addition to its answers.
use Rattle.std.specs.Prelude.{◌≡◌, ◌≤◌}
use Rattle.rb_bytes.specs.declared.fault.Fault.{Fault}
use Rattle.rb_io.specs.Views.{FilesGoOn}
use Rattle.cli_base.specs.World.{World}
use Rattle.cli_base.specs.declared.status.Status.{Status}
use Rattle.cli_base.specs.declared.status.Status.TheVariants as status

-- A command was served: what holds by its answer, and which answers are possible if there is no fault.
pub record IsServed (Answers Completes : Type 0) (old new : World) : Type 0 where
  pub answers : Answers
  pub completes : Completes
  -- files stay transparent or opaque, and no count of faults falls
  pub files_go_on : FilesGoOn old.files new.files
  pub input_faults : old.input.faults ≤ new.input.faults
  pub output_faults : old.output.faults ≤ new.output.faults

-- Standard input itself is unchanged (not only what contracts see of it) after a refusal, and if a command doesn't use
-- it.
pub record IsInputKept {Input : Type 0} (Untouched : Type 0) (answer : Status) (old new : Input) : Type 0 where
  pub refused : (fault : Fault) → answer ≡ status.Refused fault → new ≡ old
  pub untouched : Untouched → new ≡ old
