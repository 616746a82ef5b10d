-- Each answer of `rewrite` and `map` other than Ok and running out of memory has a cause: a fault that is present, or a count that rose.
use Rattle.std.proofs.Common.{◌≤◌, sym, subst, ℕ, List, IsTrue}
use Rattle.rb_io.specs.Views.{FilesGoOn}
use Rattle.bolt_core.specs.Refusals.{IsRefused}
use Rattle.cli_base.specs.declared.status.Status.{Status}
use Rattle.cli_base.specs.Inputs.{IsAccepted, IsOkOrNoMemory, NoInputErrors, OfInputs}
use Rattle.cli_args.specs.Args.{InputNames, RewriteNames}
use Rattle.cli_base.proofs.InputAnswering.{stopped_completes}
use Rattle.cli_rewrite.specs.MapAnswers.{MapAnswers, MapServes, at_text, printed}
use Rattle.cli_rewrite.specs.MapAnswers as map
use Rattle.cli_rewrite.specs.RewriteAnswers.{NoneRoseWriting, RewriteAnswers, StopsWriting, at_map, at_out, at_summary}
use Rattle.cli_rewrite.specs.RewriteAnswers.{RewriteServes, at_write, done}
use Rattle.cli_rewrite.specs.RewriteAnswers as rewrite
use Rattle.cli_base.specs.World.{World}

no_write_stops : (names : RewriteNames) (written map summary : List ℕ) (old new : World) →
    StopsWriting names written map summary old new → NoneRoseWriting names old new → ⊥
no_write_stops names written map summary old new (at_out rose taken others) quiet = quiet.out rose
no_write_stops names written map summary old new (at_map rose taken out others) quiet = quiet.map rose
no_write_stops names written map summary old new (at_summary both print) quiet = quiet.others.line print.cause

rewrite_completes : (names : RewriteNames) (old new : World) (answer : Status)
    → RewriteAnswers names old new answer → IsTrue old.files.told
    → OfInputs old names.inputs (IsAccepted IsRefused) → NoneRoseWriting names old new → IsOkOrNoMemory answer
rewrite_completes names old new answer (done is made of both line) told accepted quiet = subst IsOkOrNoMemory (sym is) tt
rewrite_completes names old new answer (at_write is made of stops) told accepted quiet =
    absurd (no_write_stops names _ _ _ old new stops quiet)
rewrite_completes names old new answer (rewrite.stopped stops) told accepted quiet =
    stopped_completes IsRefused names.inputs old new answer stops told accepted quiet.others

map_completes : (names : InputNames) (old new : World) (answer : Status) → MapAnswers names old new answer → IsTrue old.files.told
    → OfInputs old names (IsAccepted IsRefused) → NoInputErrors names old new → IsOkOrNoMemory answer
map_completes names old new answer (printed is made of prints) told accepted quiet = subst IsOkOrNoMemory (sym is) tt
map_completes names old new answer (at_text is made of fails) told accepted quiet = absurd (quiet.line fails.print.cause)
map_completes names old new answer (map.stopped stops) told accepted quiet =
    stopped_completes IsRefused names old new answer stops told accepted quiet

pub serves : (names : RewriteNames) (answer : Status) (old new : World) → RewriteAnswers names old new answer
    → FilesGoOn old.files new.files → old.input.faults ≤ new.input.faults → old.output.faults ≤ new.output.faults
    → RewriteServes names answer old new
serves names answer old new answers go_on input output = record {
  answers = answers;
  completes = rewrite_completes names old new answer answers;
  files_go_on = go_on;
  input_faults = input;
  output_faults = output;
}

pub serves_map : (names : InputNames) (answer : Status) (old new : World) → MapAnswers names old new answer
    → FilesGoOn old.files new.files → old.input.faults ≤ new.input.faults → old.output.faults ≤ new.output.faults
    → MapServes names answer old new
serves_map names answer old new answers go_on input output = record {
  answers = answers;
  completes = map_completes names old new answer answers;
  files_go_on = go_on;
  input_faults = input;
  output_faults = output;
}
