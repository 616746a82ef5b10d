use Rattle.std.proofs.Common.{◌≡◌, take, flat_map}
use Rattle.edge_text.specs.EdgeText.{edge_line}
use Rattle.edge_text.proofs.text.text_of.Given as goal

abbrev pub invariant-loop-pair : goal.invariant-loop-pair
invariant-loop-pair l = l.text.items ≡ flat_map (edge_line l.funcs) (take l.pair-index l.pairs)
