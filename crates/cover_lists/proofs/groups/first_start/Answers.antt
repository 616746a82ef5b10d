use Rattle.cover_lists.proofs.FirstStarts.{first_step}
use Rattle.cover_lists.proofs.groups.first_start.Goals as goal

pub loop-place-preserved : goal.loop-place-preserved
loop-place-preserved c =
    first_step c.args.places.now c.loop-place.place-index _ c.loop-place.first c.start_of.result c.or-first.result c.loop-place-test.true
    c.loop-place.invariant c.start_of.ensures c.or-first.ensures
