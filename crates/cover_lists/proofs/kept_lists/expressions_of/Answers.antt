use Rattle.std.proofs.Common.{arith}
use Rattle.std.proofs.lemmas.Grind.{common_steps}
use Rattle.cover_lists.specs.KeptLists.{items_in}
use Rattle.cover_lists.proofs.KeptListFacts.{copied_more}
use Rattle.cover_lists.proofs.kept_lists.expressions_of.Goals as goal

pub loop-place-preserved : goal.loop-place-preserved
loop-place-preserved c =
    copied_more c.args.places.now c.loop-place.place-index _ (items_in c.loop-place.copies.items) (items_in c.put_copy.new.copies.items)
    c.loop-place-test.true c.loop-place.invariant c.in_ok-put_copy.ensures

pub returns : goal.returns
returns c = grind (arith, common_steps)
