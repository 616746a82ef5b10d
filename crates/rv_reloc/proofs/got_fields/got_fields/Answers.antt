use Rattle.std.proofs.Common.{ap, map, arith}
use Rattle.std.proofs.lemmas.List.{get_or_default}
use Rattle.rv_reloc.specs.CountedFields.{as_field}
use Rattle.rv_reloc.proofs.Finds.{map-pushed, AreFound-begin, AreFound-next, AreFound-all}
use Rattle.rv_reloc.proofs.got_fields.got_fields.Goals as goal

pub loop-low-init : goal.loop-low-init
loop-low-init c = AreFound-begin _ c.args.lows.now _ (ap (map as_field) c.new-slots.ensures.items)

pub loop-low-preserved : goal.loop-low-preserved
loop-low-preserved c =
    AreFound-next _ c.args.lows.now c.loop-low.low-index _ _ _ _ c.loop-low-test.true
    (get_or_default _ _ _ _ c.loop-low-test.true)
    (map-pushed as_field _ _ _ c.in_ok-push_some.ensures.is) c.slot_of.ensures.is c.slot_of.ensures.only c.loop-low.invariant

pub returns : goal.returns
returns c = AreFound-all _ c.args.lows.now c.loop-low.low-index _ (omega arith) c.loop-low.invariant
