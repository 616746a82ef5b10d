use Rattle.std.proofs.Common.{arith}
use Rattle.cfg_build.proofs.Leads.{leads_gained}
use Rattle.cfg_build.proofs.Lookups.{at_index}
use Rattle.cfg_build.proofs.layout.FunctionInsts.{inst_lies_at}
use Rattle.cfg_build.proofs.edge_lists.push_leads.Goals as goal

pub fall_target-requires-clause-room : goal.fall_target-requires-clause-room
fall_target-requires-clause-room c =
    let func = c.args.func.now in
    let p = c.index.result.now in
    let to = (inst_lies_at func c.requires.laid_out c.args.i p
    (at_index func.insts.items c.args.i p c.requires.inside c.index.ensures)).to in
    let low = c.requires.low in
    omega arith

pub returns : goal.returns
returns c =
    let func = c.args.func.now in
    let p = c.index.result.now in
    leads_gained c.args.targets.now func c.args.i p (at_index func.insts.items c.args.i p c.requires.inside c.index.ensures)
    _ _ _ _ c.jump_target.result c.fall_target.result c.jump_target.ensures c.fall_target.ensures c.in_ok-push_some.ensures.gains
    c.in_ok-push_some-2.ensures.gains c.in_ok-push_table.ensures
