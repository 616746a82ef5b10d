use Rattle.std.proofs.Common.{◌≡◌, take}
use Rattle.flow_text.specs.RepairedCounts.{edge_flows}
use Rattle.flow_text.proofs.flows.edge_flows.Given as goal

abbrev pub invariant-loop-link : goal.invariant-loop-link
invariant-loop-link l = l.flows.items ≡ edge_flows l.funcs l.blocks (take l.link-index l.links)
