use Rattle.std.proofs.Common.{◌≡◌, ◌+◌, ◌<◌, ℕ, get_or, length, take}
use Rattle.flow_infer.specs.Flows.{inflow, outflow}
use Rattle.flow_infer.proofs.nodes.sum_flows.Given as goal

abbrev pub invariant-loop-link : goal.invariant-loop-link
invariant-loop-link l = (length l.into.items ≡ l.fn.nodes) × (length l.out_of.items ≡ l.fn.nodes)
    × ((k : ℕ) → k + 1 < l.fn.nodes → get_or l.into.items (k + 1) 0 ≡ inflow (take l.link-index l.links) (l.fn.first + k))
    × ((k : ℕ) → k + 1 < l.fn.nodes → get_or l.out_of.items (k + 1) 0 ≡ outflow (take l.link-index l.links) (l.fn.first + k))
