use Rattle.std.proofs.Common.{◌+◌, sym, subst, List, arith}
use Rattle.rv_code.specs.declared.placed.Block.{Block}
use Rattle.cfg_build.proofs.PushedBlocks.{Open, open_begin, open_on, open_next, open_end}
use Rattle.cfg_build.proofs.block_lists.push_blocks.Goals as goal

pub loop-last-init : goal.loop-last-init
loop-last-init c = λ code found entered were. open_begin code c.args.func.now c.args.place found c.args.blocks.now.items were

pub loop-last-preserved-then-not-ends_at : goal.loop-last-preserved-then-not-ends_at
loop-last-preserved-then-not-ends_at c = λ code found entered were.
    open_on code c.args.func.now c.args.place found c.loop-last.first c.loop-last.last c.loop-last.blocks.items
    (λ ends. let is = (c.ends_at.ensures code entered).1 ends in let not = c.if-not-ends_at.true in absurd (cc))
    (c.loop-last.invariant code found entered were)

pub loop-last-preserved : goal.loop-last-preserved
loop-last-preserved c = λ code found entered were.
    let func = c.args.func.now in
    subst (λ (bs : List Block). Open code func c.args.place (c.loop-last.last + 1) (c.loop-last.last + 1) bs)
    (sym c.in_ok-push.ensures.items)
    (open_next code func c.args.place found c.loop-last.first c.loop-last.last c.loop-last.blocks.items
    (let ok = func.insts.ok.0 in omega arith) ((c.ends_at.ensures code entered).0 c.if-not-ends_at.false)
    (c.loop-last.invariant code found entered were))

pub returns : goal.returns
returns c = λ code found entered were.
    let func = c.args.func.now in
    open_end code func c.args.place found c.loop-last.first c.loop-last.last c.loop-last.blocks.items
    (let ok = func.insts.ok.0 in let upto = c.loop-last.auto.last-end in omega arith)
    (c.loop-last.invariant code found entered were)
