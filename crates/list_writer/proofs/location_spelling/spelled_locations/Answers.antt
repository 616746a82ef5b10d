use Rattle.std.proofs.Common.{◌∙◌, ◌++◌, ◌∷◌, [], sym, subst}
use Rattle.std.proofs.lemmas.List.{map_more}
use Rattle.list_writer.specs.WrittenLocations.{runs_bytes, CanBeWritten}
use Rattle.list_writer.proofs.SpelledLocations.{all_push}
use Rattle.list_writer.proofs.location_spelling.spelled_locations.Goals as goal

pub loop-runs-preserved : goal.loop-runs-preserved
loop-runs-preserved c = (
  c.in_ok-put_spelled.ensures.written ∙ (λ i. c.loop-runs.invariant.0 i ++ runs_bytes (c.runs-item.is i) ∷ [])
      ∙ sym (map_more runs_bytes c.args.lists.now c.loop-runs.runs-index c.runs-item.result c.loop-runs-test.true),
  all_push CanBeWritten c.args.lists.now c.loop-runs.runs-index c.runs-item.result c.loop-runs-test.true c.loop-runs.invariant.1
      (subst CanBeWritten c.runs-item.is c.in_ok-put_spelled.ensures.fits),
)
