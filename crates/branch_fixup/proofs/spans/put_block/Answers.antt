use Rattle.std.proofs.Common.{arith}
use Rattle.branch_fixup.specs.BlockInsts.{seen}
use Rattle.branch_fixup.proofs.Appended.{block_spans, last_end, inner_ends}
use Rattle.branch_fixup.proofs.spans.put_block.Goals as goal

pub put_inner-requires : goal.put_inner-requires
put_inner-requires c =
    let e = inner_ends c.args.at (seen c.args.block.now) c.args.form in
    let low = c.requires.low in
    omega (arith, e, low)

pub overflow_add-result : goal.overflow_add-result
overflow_add-result c =
    let e = last_end c.args.at c.in_ok-last_at.last_at c.piece_length-len.result
    (seen c.args.block.now) c.args.form c.in_ok-last_at.ensures.end c.piece_length-len.ensures in
    let low = c.requires.low in
    omega (arith, e, low)

pub returns-clause-spans : goal.returns-clause-spans
returns-clause-spans c = block_spans c.args.spans.now.items c.put_inner.new.spans.items c.push.new.self.items c.args.at
    c.in_ok-last_at.last_at (seen c.args.block.now) c.args.form c.in_ok-last_at.ensures.spans
    c.in_ok-last_at.ensures.end c.piece_length-len.result c.piece_length-len.ensures c.in_ok-push.ensures.items

pub returns-clause-end : goal.returns-clause-end
returns-clause-end c = last_end c.args.at c.in_ok-last_at.last_at c.piece_length-len.result
    (seen c.args.block.now) c.args.form c.in_ok-last_at.ensures.end c.piece_length-len.ensures
