use Rattle.std.proofs.Common.{take}
use Rattle.edge_profile.specs.SymbolValues.{AreKnown}
use Rattle.edge_profile.proofs.symbol_values.known_by_table.Given as goal

abbrev pub invariant-loop-index : goal.invariant-loop-index
invariant-loop-index l = AreKnown l.names.backward.items (take l.index l.symbols) l.known.items
