use Rattle.std.proofs.Common.{◌∙◌, ap, arith}
use Rattle.std.proofs.lemmas.List.{get_or_default}
use Rattle.rv_code.specs.declared.placed.Block.{Block}
use Rattle.block_layout.proofs.Starting.{nothing, blocks_from, start_next}
use Rattle.block_layout.proofs.functions.end_of.Goals as goal

pub returns-else-blocks-end-clause-blocks : goal.returns-else-blocks-end-clause-blocks
returns-else-blocks-end-clause-blocks c =
    let i = c.loop-end.invariant in
    blocks_from c.args.blocks.now c.requires.blocks c.args.func c.args.start c.loop-end.end c.requires.start i.0 i.1 i.2
    (λ d within same. c.if-blocks-end.false
    (ap (λ (b : Block). b.func) (get_or_default c.args.blocks.now c.loop-end.end nothing d within) ∙ same))

pub returns-else-blocks-end-clause-next : goal.returns-else-blocks-end-clause-next
returns-else-blocks-end-clause-next c =
    let i = c.loop-end.invariant in
    start_next c.args.blocks.now c.requires.blocks c.args.func c.args.start c.loop-end.end c.requires.start i.0 i.1 i.2
    (λ d within same. c.if-blocks-end.false
    (ap (λ (b : Block). b.func) (get_or_default c.args.blocks.now c.loop-end.end nothing d within) ∙ same))

pub returns-after-loop-end-clause-blocks : goal.returns-after-loop-end-clause-blocks
returns-after-loop-end-clause-blocks c =
    let i = c.loop-end.invariant in
    blocks_from c.args.blocks.now c.requires.blocks c.args.func c.args.start c.loop-end.end c.requires.start i.0 i.1 i.2
    (λ d within same. absurd (omega arith))

pub returns-after-loop-end-clause-next : goal.returns-after-loop-end-clause-next
returns-after-loop-end-clause-next c =
    let i = c.loop-end.invariant in
    start_next c.args.blocks.now c.requires.blocks c.args.func c.args.start c.loop-end.end c.requires.start i.0 i.1 i.2
    (λ d within same. absurd (omega arith))
