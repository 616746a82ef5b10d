use Rattle.elf_make.specs.SymbolTable.{Appends}
use Rattle.elf_make.proofs.SymbolsPut.{AreFirst}
use Rattle.elf_make.proofs.symbols.NewCode.put_symbols.Given as goal

abbrev pub invariant-loop-i : goal.invariant-loop-i
invariant-loop-i l = Appends (AreFirst l.self.funcs.now l.self.map.now l.self.section l.table l.first l.i l.symbols)
    l.initial.bytes.items l.bytes.items
