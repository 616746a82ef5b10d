-- The command `sample` serves.
use Rattle.std.proofs.Common.{◌≤◌, sym, subst, ℕ, List}
use Rattle.rb_io.specs.Views.{FilesGoOn}
use Rattle.cli_base.specs.Inputs.{IsOkOrNoMemory}
use Rattle.cli_base.specs.World.{World}
use Rattle.cli_base.specs.declared.status.Status.{Status}
use Rattle.cli_look.specs.SampleAnswers.{NoneRoseSampling, SampleAnswers, SampleServes, SampleWritten}
use Rattle.cli_look.specs.SampleAnswers.{all_written, fails_at_file, fails_at_line, fails_at_profile, made, no_memory}
use Rattle.cli_args.specs.Args.{SampleArgs}

module _ (args : SampleArgs) (old new : World) (answer : Status) where
  written_completes : (file profile line : List ℕ) → SampleWritten args file profile old new line answer →
      NoneRoseSampling args old new → IsOkOrNoMemory answer
  written_completes file profile line (all_written is both taken) quiet = subst IsOkOrNoMemory (sym is) tt
  written_completes file profile line (fails_at_file is rose taken others) quiet = absurd (quiet.file rose)
  written_completes file profile line (fails_at_profile is rose taken holds others) quiet = absurd (quiet.profile rose)
  written_completes file profile line (fails_at_line is both print) quiet = absurd (quiet.line print.cause)

  completes : SampleAnswers args old new answer → NoneRoseSampling args old new → IsOkOrNoMemory answer
  completes (made file profile sample written) quiet = written_completes file profile _ written quiet
  completes (no_memory is silent) quiet = subst IsOkOrNoMemory (sym is) tt

  pub serves : SampleAnswers args old new answer → FilesGoOn old.files new.files → old.input.faults ≤ new.input.faults →
      old.output.faults ≤ new.output.faults → SampleServes args answer old new
  serves answers go_on input output = record {
    answers = answers;
    completes = completes answers;
    files_go_on = go_on;
    input_faults = input;
    output_faults = output;
  }
