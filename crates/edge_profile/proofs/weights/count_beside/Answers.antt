use Rattle.std.proofs.Common.{◌∙◌, sym, arith}
use Rattle.edge_profile.specs.BlockPlaces.{begins_by}
use Rattle.edge_profile.proofs.Partitions.{passes_up_to, fails_from}
use Rattle.edge_profile.proofs.Weighing.{partitioned_blocks}
use Rattle.edge_profile.proofs.weights.count_beside.Goals as goal

pub loop-k-init : goal.loop-k-init
loop-k-init c = c.all_begin.ensures c.if-not-all_begin.false

pub returns-then-not-begins_by-clause-below : goal.returns-then-not-begins_by-clause-below
returns-then-not-begins_by-clause-below c = c.loop-k.invariant

pub returns-then-not-begins_by-clause-above : goal.returns-then-not-begins_by-clause-above
returns-then-not-begins_by-clause-above c =
    let place = c.args.place.now in
    fails_from (begins_by place.func place.inst) c.args.blocks.now
    (partitioned_blocks c.args.blocks.now c.requires place.func place.inst) c.loop-k.k _
    (sym c.begins_by.ensures ∙ c.if-not-begins_by.true)

pub loop-k-preserved : goal.loop-k-preserved
loop-k-preserved c =
    let place = c.args.place.now in
    passes_up_to (begins_by place.func place.inst) c.args.blocks.now
    (partitioned_blocks c.args.blocks.now c.requires place.func place.inst) c.loop-k.k _
    (omega (arith, c.loop-k-test.true, c.min-end.ensures)) (sym c.begins_by.ensures ∙ c.if-not-begins_by.false)
