use Rattle.std.proofs.Common.{◌≡◌, ◌++◌, take, All}
use Rattle.std.specs.Prelude.{flat_map}
use Rattle.answer_runs.specs.AnswerRuns.{said_runs}
use Rattle.cover_lists.specs.ListRuns.{said}
use Rattle.list_writer.specs.WrittenLocations.{bounded}
use Rattle.list_writer.proofs.SpelledLocations.{run_bytes, Fits}
use Rattle.list_writer.proofs.location_spelling.put_list.Given as goal

abbrev pub invariant-loop-run : goal.invariant-loop-run
invariant-loop-run l =
    (l.out.items ≡ l.fn.out.items ++ flat_map run_bytes (take l.run-index l.runs))
    × All Fits (bounded (said_runs said (take l.run-index l.runs)))
