use Rattle.std.proofs.Common.{◌≡◌, take}
use Rattle.edge_profile.specs.Names.{symbol_values}
use Rattle.edge_profile.specs.FunctionNames.{known_by}
use Rattle.edge_profile.proofs.function_names.value_among.Given as goal

abbrev pub invariant-loop-symbol : goal.invariant-loop-symbol
invariant-loop-symbol l = l.known ≡ known_by (symbol_values (take l.symbol-index l.symbols) l.name)
