-- What holds at the end of a rewrite, by its answer.
use Rattle.std.specs.Prelude.{◌≡◌, ◌≢◌, ℕ, List, Some, IsTrue}
use Rattle.rb_io.specs.Names.{UnchangedBut}
use Rattle.rb_io.specs.TakenText.{TakesAll}
use Rattle.addr_map.specs.MapText.{map_text}
use Rattle.cli_base.specs.declared.status.Status.{Status}
use Rattle.cli_base.specs.declared.status.Status.TheVariants as status
use Rattle.cli_rewrite.specs.Lines.{summary_line}
use Rattle.cli_base.specs.PrintedLines.{FailsToPrint}
use Rattle.bolt_core.specs.Refusals.{IsRefused}
use Rattle.cli_rewrite.specs.InputAnswers.{IsMadeOf, MadeRewrite}
use Rattle.cli_base.specs.Inputs.{IsAccepted, IsOkOrNoMemory, IsStopped, NoInputErrors, OfInputs}
use Rattle.cli_args.specs.Args.{RewriteNames}
use Rattle.cli_base.specs.Served.{IsServed}
use Rattle.cli_base.specs.World.{World, WriteRose}

-- all files other than the output and the map are unchanged
abbrev pub OthersKept : RewriteNames → World → World → Type 0
OthersKept names old new =
    (name : List ℕ) → name ≢ names.out → name ≢ names.map → new.files.content name ≡ old.files.content name

-- the output has these bytes, if files are transparent
abbrev pub HoldsOut : RewriteNames → List ℕ → World → World → Type 0
HoldsOut names written old new = IsTrue old.files.told → new.files.content names.out ≡ Some written

-- both files have their bytes, and no other file changed
pub record HoldBoth (names : RewriteNames) (written map : List ℕ) (old new : World) : Type 0 where
  pub out : HoldsOut names written old new
  pub map_is : IsTrue old.files.told → new.files.content names.map ≡ Some map
  pub others : OthersKept names old new

-- A write fails: of the output, and only this file may have changed; of the map, after the output; or of the summary,
-- after both.
pub data StopsWriting (names : RewriteNames) (written map summary : List ℕ) (old new : World) : Type 0 where
  at_out : WriteRose old new names.out → new.output.taken ≡ old.output.taken
      → UnchangedBut names.out old.files.content new.files.content → StopsWriting names written map summary old new
  at_map : WriteRose old new names.map → new.output.taken ≡ old.output.taken → HoldsOut names written old new
      → OthersKept names old new → StopsWriting names written map summary old new
  at_summary : HoldBoth names written map old new → FailsToPrint summary old new
      → StopsWriting names written map summary old new

-- the answers of a rewrite
pub data RewriteAnswers (names : RewriteNames) (old new : World) (answer : Status) : Type 0 where
  done : answer ≡ status.Ok → (made : MadeRewrite) → IsMadeOf names.inputs old.files made
      → HoldBoth names made.written (map_text made.spans) old new
      → TakesAll old.output.taken new.output.taken (summary_line made.counts) → RewriteAnswers names old new answer
  at_write : answer ≡ status.WriteFault → (made : MadeRewrite) → IsMadeOf names.inputs old.files made
      → StopsWriting names made.written (map_text made.spans) (summary_line made.counts) old new
      → RewriteAnswers names old new answer
  stopped : IsStopped IsRefused names.inputs old new answer → RewriteAnswers names old new answer

-- no count of faults rose, also of the files that are written
pub record NoneRoseWriting (names : RewriteNames) (old new : World) : Type 0 where
  pub others : NoInputErrors names.inputs old new
  pub out : WriteRose old new names.out → ⊥
  pub map : WriteRose old new names.map → ⊥

-- the command is done, or memory runs out, if there is no fault and no count rose
abbrev pub RewriteCompletes : RewriteNames → Status → World → World → Type 0
RewriteCompletes names answer old new =
    IsTrue old.files.told → OfInputs old names.inputs (IsAccepted IsRefused) → NoneRoseWriting names old new →
    IsOkOrNoMemory answer

-- the command `rewrite`
abbrev pub RewriteServes : RewriteNames → Status → World → World → Type 0
RewriteServes names answer old new =
    IsServed (RewriteAnswers names old new answer) (RewriteCompletes names answer old new) old new
