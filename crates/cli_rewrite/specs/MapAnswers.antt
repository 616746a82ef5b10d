-- What holds at the end of a command that prints the map of a rewrite, by its answer. It writes no file.
use Rattle.std.specs.Prelude.{◌≡◌, IsTrue}
use Rattle.addr_map.specs.MapText.{map_text}
use Rattle.cli_base.specs.declared.status.Status.{Status}
use Rattle.cli_base.specs.declared.status.Status.TheVariants as status
use Rattle.cli_base.specs.PrintedLines.{PrintsOnly, FailsAtLine}
use Rattle.bolt_core.specs.Refusals.{IsRefused}
use Rattle.cli_rewrite.specs.InputAnswers.{IsMadeOf, MadeRewrite}
use Rattle.cli_base.specs.Inputs.{IsAccepted, IsOkOrNoMemory, IsStopped, NoInputErrors, OfInputs}
use Rattle.cli_args.specs.Args.{InputNames}
use Rattle.cli_base.specs.Served.{IsServed}
use Rattle.cli_base.specs.World.{World}

pub data MapAnswers (names : InputNames) (old new : World) (answer : Status) : Type 0 where
  printed : answer ≡ status.Ok → (made : MadeRewrite) → IsMadeOf names old.files made →
      PrintsOnly (map_text made.spans) old new
      → MapAnswers names old new answer
  at_text : answer ≡ status.WriteFault → (made : MadeRewrite) → IsMadeOf names old.files made
      → FailsAtLine (map_text made.spans) old new → MapAnswers names old new answer
  stopped : IsStopped IsRefused names old new answer → MapAnswers names old new answer

-- the map is printed, or memory runs out, if there is no fault and no count rose
abbrev pub MapCompletes : InputNames → Status → World → World → Type 0
MapCompletes names answer old new =
    IsTrue old.files.told → OfInputs old names (IsAccepted IsRefused) → NoInputErrors names old new →
    IsOkOrNoMemory answer

-- the command `map`
abbrev pub MapServes : InputNames → Status → World → World → Type 0
MapServes names answer old new = IsServed (MapAnswers names old new answer) (MapCompletes names answer old new) old new
