use Rattle.rv_reloc.proofs.LabelLists.{AreSlotLabels-sorted}
use Rattle.rv_reloc.proofs.slots.slot_labels.Goals as goal

pub returns : goal.returns
returns c = AreSlotLabels-sorted c.args.elf.now c.args.records.now _ _ c.requires c.in_ok-labels.ensures
    c.in_ok-sort_labels.ensures.permutation c.in_ok-sort_labels.ensures.ordered
