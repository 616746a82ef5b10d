use Rattle.std.proofs.Common.{take}
use Rattle.rv_reloc.specs.Finds.{AreFound}
use Rattle.rv_reloc.specs.Records.{seen}
use Rattle.rv_reloc.specs.Slots.{IsSlotLabelOf}
use Rattle.rv_reloc.proofs.slots.read_labels.Given as goal

abbrev pub invariant-loop-relocation : goal.invariant-loop-relocation
invariant-loop-relocation l = AreFound (λ r s. IsSlotLabelOf l.elf (seen r) s) (take l.relocation-index l.records) l.labels.items
