use Rattle.std.proofs.Common.{map, take}
use Rattle.rv_reloc.specs.Finds.{AreFound}
use Rattle.rv_reloc.specs.GotFields.{IsSlotOf}
use Rattle.rv_reloc.specs.CountedFields.{as_field}
use Rattle.rv_reloc.proofs.got_fields.got_fields.Given as goal

abbrev pub invariant-loop-low : goal.invariant-loop-low
invariant-loop-low l = AreFound (IsSlotOf l.elf) (take l.low-index l.lows) (map as_field l.slots.items)
