use Rattle.std.proofs.Common.{get_or}
use Rattle.edge_profile.specs.PairCounts.{Counted}
use Rattle.flow_text.proofs.PlacedFlows.{flows_next, rest_up}
use Rattle.flow_text.proofs.merging.with_flows.Goals as goal

pub loop-flow-preserved : goal.loop-flow-preserved
loop-flow-preserved c =
    let none : Counted = (0, 0, 0) in (
      rest_up c.loop-flow.rest.now c.pairs_after-rest.result.now (get_or c.args.flows.now c.loop-flow.flow-index none)
          c.pairs_after-rest.ensures c.loop-flow.invariant.0,
      flows_next c.args.flows.now c.args.pairs.now c.loop-flow.rest.now c.pairs_after-rest.result.now c.loop-flow.out.items
          c.push_upto.new.out.items c.loop-flow.flow-index none c.loop-flow-test.true c.pairs_after-rest.ensures
          c.in_ok-push_upto.ensures c.loop-flow.invariant.1,
    )
