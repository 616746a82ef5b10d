use Rattle.cover_lists.proofs.KeptListFacts.{covers_next, covers_done}
use Rattle.cover_lists.proofs.kept_lists.covers_of.Goals as goal

pub loop-number-preserved : goal.loop-number-preserved
loop-number-preserved c =
    covers_next c.args.places.now c.loop-number.number _ c.loop-number.covers.items c.put_cover.new.covers.items c.loop-number-test.true
    c.loop-number.invariant c.in_ok-put_cover.ensures

pub returns : goal.returns
returns c = covers_done c.args.places.now c.loop-number.number c.loop-number.covers.items c.loop-number-test.false c.loop-number.invariant
