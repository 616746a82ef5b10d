use Rattle.std.proofs.Common.{◌<◌, ℕ, length, sym, subst}
use Rattle.flow_infer.proofs.Moves.{node_below}
use Rattle.flow_infer.proofs.nodes.at_node.Goals as goal

pub bounds-numbers-node : goal.bounds-numbers-node
bounds-numbers-node c = subst (λ (n : ℕ). n < length c.args.numbers.now) (sym c.node.ensures)
    (node_below c.args.first (length c.args.numbers.now) c.args.end c.requires.some c.requires.end)
