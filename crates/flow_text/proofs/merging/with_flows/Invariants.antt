use Rattle.std.proofs.Common.{◌≡◌, ◌++◌, AllPairs, drop}
use Rattle.edge_profile.specs.PairCounts.{IsCountedBefore}
use Rattle.flow_text.specs.MergedFlows.{with_flows}
use Rattle.flow_text.proofs.merging.with_flows.Given as goal

abbrev pub invariant-loop-flow : goal.invariant-loop-flow
invariant-loop-flow l = AllPairs IsCountedBefore l.rest
    × (l.out.items ++ with_flows (drop l.flow-index l.flows) l.rest ≡ with_flows l.flows l.pairs)
