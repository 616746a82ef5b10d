use Rattle.std.proofs.Common.{take}
use Rattle.elf_plan.specs.FirstNames.{AreFirstNames}
use Rattle.elf_plan.proofs.first_names.first_names.Given as goal

abbrev pub invariant-loop-symbol : goal.invariant-loop-symbol
invariant-loop-symbol l = AreFirstNames (take l.symbol-index l.symbols) l.names
