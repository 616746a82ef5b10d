-- The result of checking the three files.
use Rattle.std.specs.Prelude.{ℕ, List}
use Rattle.rb_io.specs.Views.{SinkSeen}
use Rattle.program.specs.Limits.{file_limit}
use Rattle.cli_base.specs.Printing.{LinePrinted}
use Rattle.cli_base.specs.declared.status.Status.{Status}
use Rattle.cli_base.specs.declared.status.Status.TheVariants as status
use Rattle.cli_base.specs.Lines.{refused_line}
use Rattle.cli_base.specs.WithinLimit.{AreBytesGiven}
use Rattle.cli_check.specs.GivenFiles.{map_limit}
use Rattle.cli_check.specs.VerdictLines.{refused_output_line, status_of, verdict_line}
use Rattle.cli_check.specs.VerifiedFiles.{IsRefusedBy, IsVerdictOn}
use Rattle.cli_check.specs.declared.given.Given.{Given}
use Rattle.cli_check.specs.declared.judging.Judged.{Judged}
use Rattle.cli_check.specs.declared.judging.Judged.TheVariants as judged

-- `input`, `output` and `map` are the contents of the three files
pub record AreFilesGiven (given : Given) (input output map : List ℕ) : Type 0 where
  pub of_input : AreBytesGiven file_limit given.input input
  pub of_output : AreBytesGiven file_limit given.output output
  pub of_map : AreBytesGiven map_limit given.map map

abbrev pub IsJudged : List ℕ → List ℕ → List ℕ → Judged → Type 0
IsJudged input output map (judged.Verdict v) = IsVerdictOn input output map v
IsJudged input output map (judged.Refused fault) = IsRefusedBy input output map fault (refused_line fault)
IsJudged input output map (judged.RefusedOutput fault) = IsRefusedBy input output map fault (refused_output_line fault)

-- The line of the result was printed, or a prefix of it; or none of it, since memory ran out.
abbrev pub Announces : Judged → Status → SinkSeen → SinkSeen → Type 0
Announces (judged.Verdict v) answer before after = LinePrinted answer (status_of v) (verdict_line v) before after
Announces (judged.Refused fault) answer before after =
    LinePrinted answer (status.Refused fault) (refused_line fault) before after
Announces (judged.RefusedOutput fault) answer before after =
    LinePrinted answer (status.Refused fault) (refused_output_line fault) before after
