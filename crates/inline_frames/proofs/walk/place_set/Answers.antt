use Rattle.std.proofs.Common.{get_or, refl, nat_cmp}
use Rattle.std.specs.Prelude.{◌==◌}
use Rattle.std.specs.BTreeSet.{contains}
use Rattle.inline_frames.proofs.Sets.{has_more}
use Rattle.inline_frames.proofs.walk.place_set.Goals as goal

pub loop-place-preserved : goal.loop-place-preserved
loop-place-preserved c = λ q.
    let places = c.args.places.now in
    let i = c.loop-place.place-index in
    has_more (λ m. m == q) places i 0 (contains nat_cmp c.loop-place.set q) c.loop-place-test.true (c.loop-place.invariant q) q
    (get_or places i 0) (contains nat_cmp c.insert.new.self q) refl (c.in_ok-insert.ensures.updates.0 q)
