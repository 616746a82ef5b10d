use Rattle.std.proofs.Common.{◌≡◌, ◌++◌, List, take}
use Rattle.elf_image.specs.declared.symbol.Symbol.{Symbol}
use Rattle.elf_plan.specs.FirstNames.{AreFirstNames}
use Rattle.elf_plan.specs.NewNames.{cold_names}
use Rattle.elf_plan.specs.PairedLists.{GoTogether}
use Rattle.elf_make.specs.NewSymbols.{named_parts}
use Rattle.elf_make.specs.SymbolTable.{IsColdEntry}
use Rattle.elf_make.proofs.symbols.cold_symbols.Given as goal

abbrev pub invariant-loop-address : goal.invariant-loop-address
invariant-loop-address l =
    ((symbols : List Symbol) → AreFirstNames symbols l.names →
    l.table.bytes.items
    ≡ l.initial.table.bytes.items ++ cold_names symbols l.code.funcs.now (take l.address-index l.cold))
    × ((symbols : List Symbol) → AreFirstNames symbols l.names →
    GoTogether (IsColdEntry l.table.bytes.items symbols l.code.funcs.now l.code.map.now l.code.section)
    (named_parts symbols l.code.funcs.now (take l.address-index l.cold)) l.entries.items)
