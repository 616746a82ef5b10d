use Rattle.std.proofs.Common.{List}
use Rattle.elf_image.specs.declared.symbol.Symbol.{Symbol}
use Rattle.edge_profile.specs.FunctionNames.{AreValues}
use Rattle.edge_profile.specs.SymbolValues.{AreKnown}
use Rattle.edge_profile.proofs.function_names.values_by_name.Given as goal

abbrev pub invariant-loop-name : goal.invariant-loop-name
invariant-loop-name l = (symbols : List Symbol) → AreKnown l.ends.backward.items symbols l.known → AreValues symbols l.values
