use Rattle.std.proofs.Common.{take}
use Rattle.rv_reloc.specs.Finds.{AreFound}
use Rattle.rv_reloc.specs.Lows.{IsLowOf}
use Rattle.rv_reloc.specs.Records.{seen}
use Rattle.rv_reloc.proofs.lows.read_lows.Given as goal

abbrev pub invariant-loop-record : goal.invariant-loop-record
invariant-loop-record l = AreFound (λ r low. IsLowOf l.elf (seen r) low) (take l.record-index l.records) l.lows.items
