-- The results of the last steps of a command.
use Rattle.std.specs.Prelude.{◌≡◌, ℕ, List}
use Rattle.rb_io.specs.TakenText.{TakesAll}
use Rattle.addr_map.specs.MapText.{map_text}
use Rattle.cli_rewrite.specs.Lines.{summary_line}
use Rattle.cli_base.specs.World.{World}
use Rattle.cli_rewrite.specs.InputAnswers.{MadeRewrite}
use Rattle.cli_rewrite.specs.RewriteAnswers.{HoldBoth, StopsWriting}
use Rattle.cli_args.specs.Args.{RewriteNames}
use Rattle.cli_base.specs.declared.status.Status.{Status}
use Rattle.cli_base.specs.declared.status.Status.TheVariants as status
use Rattle.cli_rewrite.specs.declared.rewriting.Texts.{Texts}

-- the texts about a rewrite
pub record AreTextsOf (made : MadeRewrite) (texts : Texts) : Type 0 where
  pub map_is : texts.map.items ≡ map_text made.spans
  pub summary_is : texts.summary.items ≡ summary_line made.counts

-- an output, a map and a summary were written
pub record AllWritten (names : RewriteNames) (written map summary : List ℕ) (old new : World) : Type 0 where
  pub both : HoldBoth names written map old new
  pub line : TakesAll old.output.taken new.output.taken summary

abbrev pub OutputsWritten : Status → RewriteNames → List ℕ → List ℕ → List ℕ → World → World → Type 0
OutputsWritten status.Ok names written map summary old new = AllWritten names written map summary old new
OutputsWritten status.WriteFault names written map summary old new = StopsWriting names written map summary old new
OutputsWritten _ names written map summary old new = ⊥
