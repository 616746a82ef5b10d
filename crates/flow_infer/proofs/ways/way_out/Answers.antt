use Rattle.std.proofs.Common.{◌≡◌, false, get_or}
use Rattle.std.proofs.lemmas.Option.{slice_get-get_or}
use Rattle.rv_code.specs.declared.placed.Block.{Block}
use Rattle.flow_infer.proofs.BlockWays.{func_at, left_is, out_none, out_some}
use Rattle.flow_infer.proofs.ways.way_out.Goals as goal

pub returns-then-not-leaves : goal.returns-then-not-leaves
returns-then-not-leaves c = λ code of.
    let b : Block = get_or c.args.source.now.blocks.now c.args.k record { func = 0; first = 0; last = 0 } in
    let func = func_at c.args.source.now c.args.k _ c.index-source-block.result c.requires.source c.requires.inside in
    out_none code c.args.source.now c.args.k _ of (slice_get-get_or _ _ _ c.requires.inside)
    (λ left. absurd (
    let so = (left_is _ b _ _ func c.leaves.ensures).1 left in
    let not_so : c.leaves.result ≡ false = c.if-not-leaves.true in
    cc))

pub returns : goal.returns
returns c = λ code of.
    let b : Block = get_or c.args.source.now.blocks.now c.args.k record { func = 0; first = 0; last = 0 } in
    let func = func_at c.args.source.now c.args.k _ c.index-source-block.result c.requires.source c.requires.inside in
    out_some code c.args.source.now c.args.k _ of (slice_get-get_or _ _ _ c.requires.inside) c.requires.source
    _ c.block_end-end.result c.count_outside.result func
    ((left_is _ b _ _ func c.leaves.ensures).0 c.if-not-leaves.false) c.block_end-end.ensures c.count_outside.ensures
