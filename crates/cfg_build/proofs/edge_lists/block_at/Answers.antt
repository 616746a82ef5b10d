use Rattle.std.proofs.Common.{arith, slice_index_or}
use Rattle.std.proofs.lemmas.Option.{slice_get-get_or}
use Rattle.rv_code.specs.declared.placed.Block.{Block}
use Rattle.cfg_build.proofs.Lookups.{block_other, block_same}
use Rattle.cfg_build.proofs.edge_lists.block_at.Goals as goal

pub returns-then-blocks-place : goal.returns-then-blocks-place
returns-then-blocks-place c =
    let place = c.in_ok-place.place in
    let inside = c.in_ok-place.ensures.inside in
    let all = c.requires.all in
    let d : Block = record { func = 0; first = 0; last = 0 } in
    block_other c.args.blocks.now c.args.starts.now c.args.func c.args.address place (slice_index_or c.args.blocks.now place d)
    (slice_get-get_or c.args.blocks.now place d (omega arith)) c.in_ok-place.ensures.is c.if-blocks-place.true

pub returns : goal.returns
returns c =
    let place = c.in_ok-place.place in
    let inside = c.in_ok-place.ensures.inside in
    let all = c.requires.all in
    let d : Block = record { func = 0; first = 0; last = 0 } in
    block_same c.args.blocks.now c.args.starts.now c.args.func c.args.address place (slice_index_or c.args.blocks.now place d)
    (slice_get-get_or c.args.blocks.now place d (omega arith)) c.in_ok-place.ensures.is c.if-blocks-place.false
