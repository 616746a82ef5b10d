use Rattle.std.proofs.Common.{arith}
use Rattle.cfg_build.specs.NamedAddresses.{code_of}
use Rattle.cfg_build.proofs.Lookups.{at_index}
use Rattle.cfg_build.proofs.PushedBlocks.{all_blocks}
use Rattle.cfg_build.proofs.block_lists.blocks.Goals as goal

pub loop-place-preserved : goal.loop-place-preserved
loop-place-preserved c =
    let code = code_of c.args.funcs.now c.args.refs.now c.args.entry in
    c.in_ok-push_blocks.ensures code
    (at_index c.args.funcs.now c.loop-place.place c.index-funcs-place.result c.loop-place-test.true c.index-funcs-place.is)
    c.in_ok-entered.ensures
    c.loop-place.invariant

pub returns : goal.returns
returns c =
    all_blocks (code_of c.args.funcs.now c.args.refs.now c.args.entry) c.loop-place.place c.loop-place.blocks.items
    (let upto = c.loop-place.auto.place-end in omega arith) c.loop-place.invariant
