use Rattle.std.proofs.Common.{take}
use Rattle.rv_reloc.specs.Finds.{AreFound}
use Rattle.rv_reloc.specs.NamedAddresses.{NamesUpper}
use Rattle.rv_reloc.specs.Records.{seen}
use Rattle.rv_reloc.proofs.named.read_named.Given as goal

abbrev pub invariant-loop-relocation : goal.invariant-loop-relocation
invariant-loop-relocation l = AreFound (λ r a. NamesUpper l.elf (seen r) a) (take l.relocation-index l.records) l.named.items
