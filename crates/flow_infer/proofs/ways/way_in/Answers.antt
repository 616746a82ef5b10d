use Rattle.std.proofs.Common.{◌≡◌, false}
use Rattle.std.proofs.lemmas.Option.{slice_get-get_or}
use Rattle.flow_infer.proofs.BlockWays.{func_at, in_none, in_some}
use Rattle.flow_infer.proofs.ways.way_in.Goals as goal

pub returns-then-not-is_entered : goal.returns-then-not-is_entered
returns-then-not-is_entered c = λ code of.
    in_none code c.args.source.now c.args.k _ of (slice_get-get_or _ _ _ c.requires.inside)
    (λ entered. absurd (
    let so = (c.is_entered.ensures code of).1 entered in
    let not_so : c.is_entered.result ≡ false = c.if-not-is_entered.true in
    cc))

pub returns : goal.returns
returns c = λ code of.
    in_some code c.args.source.now c.args.k _ of (slice_get-get_or _ _ _ c.requires.inside) c.requires.source
    _ c.block_start-start.result c.count_outside.result
    (func_at c.args.source.now c.args.k _ c.index-source-block.result c.requires.source c.requires.inside)
    ((c.is_entered.ensures code of).0 c.if-not-is_entered.false) c.block_start-start.ensures c.count_outside.ensures
