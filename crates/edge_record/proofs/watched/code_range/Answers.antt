use Rattle.std.proofs.Common.{◌<◌, length, rules}
use Rattle.edge_text.proofs.Starts.{range_order, in_range}
use Rattle.edge_record.proofs.watched.code_range.Goals as goal

pub overflow_sub-result : goal.overflow_sub-result
overflow_sub-result c =
    let some : 0 < length c.args.funcs.now = search rules in
    range_order c.args.funcs.now c.requires c.index-funcs-0.result c.index-funcs-funcs.result some

pub returns : goal.returns
returns c = λ k f within i p inside.
    in_range c.args.funcs.now c.requires c.index-funcs-0.result c.index-funcs-funcs.result k f i p within inside
