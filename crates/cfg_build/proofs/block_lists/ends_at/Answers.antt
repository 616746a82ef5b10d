use Rattle.cfg_build.proofs.Lookups.{at_index}
use Rattle.cfg_build.proofs.PushedBlocks.{ends_after, ends_before}
use Rattle.std.proofs.Common.{◌∙◌, sym, ◌+◌, arith}
use Rattle.cfg_build.proofs.block_lists.ends_at.Goals as goal

pub returns-then-ends_block : goal.returns-then-ends_block
returns-then-ends_block c = λ code entered.
    let p = c.index.result.now in
    ends_after code c.args.func.now c.args.i p c.if-func.false
    (at_index c.args.func.now.insts.items c.args.i p c.requires c.index.ensures)
    (c.ends_block.ensures.0 c.if-ends_block.true)

pub returns : goal.returns
returns c = λ code entered.
    let p = c.index.result.now in
    let q = c.index-2.result.now in
    ends_before code c.args.func.now c.args.i p q c.has.result c.args.entered.now (λ last. c.if-i-len.false (last
    ∙ sym (c.len.ensures ∙ c.args.func.now.insts.ok.0))) c.if-func.false
    (at_index c.args.func.now.insts.items c.args.i p c.requires c.index.ensures)
    (at_index c.args.func.now.insts.items (c.args.i + 1) q (omega arith) c.index-2.ensures)
    (λ ends. let h = c.ends_block.ensures.1 ends in let g = c.if-ends_block.false in absurd (cc)) c.has.ensures entered
