use Rattle.flow_text.proofs.FlowOrder.{flows_more}
use Rattle.flow_text.proofs.flows.edge_flows.Goals as goal

pub loop-link-preserved : goal.loop-link-preserved
loop-link-preserved c =
    flows_more c.args.funcs.now c.args.blocks.now c.args.links.now c.loop-link.link-index _ _ _ _ c.loop-link-test.true
    c.flow_between.ensures c.in_ok-push_some.ensures.is c.loop-link.invariant
