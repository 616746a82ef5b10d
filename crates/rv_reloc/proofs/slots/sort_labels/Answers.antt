use Rattle.std.proofs.Common.{rules}
use Rattle.std.proofs.lemmas.List.Sorted.{answers_always}
use Rattle.rv_reloc.specs.declared.slots.SlotLabel.{SlotLabel}
use Rattle.rv_reloc.proofs.LabelOrder.{labels-sorted}
use Rattle.rv_reloc.proofs.slots.sort_labels.Goals as goal

pub returns-clause-ordered : goal.returns-clause-ordered
returns-clause-ordered c =
    labels-sorted _
    (c.in_ok-sort_by_key.ensures.sorted (λ (x : SlotLabel). (x.place, x.label))
    (answers_always _ _ _ (λ f a r f' k. search rules)))
