use Rattle.std.proofs.Common.{arith}
use Rattle.std.proofs.lemmas.List.{get_or_default}
use Rattle.rv_reloc.proofs.Finds.{AreFound-begin, AreFound-next, AreFound-all}
use Rattle.rv_reloc.proofs.slots.read_labels.Goals as goal

pub loop-relocation-init : goal.loop-relocation-init
loop-relocation-init c = AreFound-begin _ c.args.records.now _ c.new-labels.ensures.items

pub loop-relocation-preserved : goal.loop-relocation-preserved
loop-relocation-preserved c = AreFound-next _ c.args.records.now c.loop-relocation.relocation-index _
    c.loop-relocation.labels.items _ c.slot_label.result c.loop-relocation-test.true (get_or_default _ _ _ _ c.loop-relocation-test.true)
    c.in_ok-push_some.ensures.is c.slot_label.ensures.is c.slot_label.ensures.only c.loop-relocation.invariant

pub returns : goal.returns
returns c = AreFound-all _ c.args.records.now c.loop-relocation.relocation-index _ (omega arith) c.loop-relocation.invariant
