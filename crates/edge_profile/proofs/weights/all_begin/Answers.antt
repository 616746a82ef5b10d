use Rattle.std.proofs.Common.{◌-◌, ◌∙◌, sym, arith}
use Rattle.edge_profile.specs.BlockPlaces.{begins_by}
use Rattle.edge_profile.proofs.Partitions.{passes_up_to}
use Rattle.edge_profile.proofs.Weighing.{partitioned_blocks}
use Rattle.edge_profile.proofs.weights.all_begin.Goals as goal

pub returns : goal.returns
returns c = λ last k d less.
    let place = c.args.place.now in
    passes_up_to (begins_by place.func place.inst) c.args.blocks.now
    (partitioned_blocks c.args.blocks.now c.requires place.func place.inst) (c.args.count - 1) _
    (omega (arith, c.if-count-eq0.false, c.if-blocks-count.false)) (sym c.begins_by.ensures ∙ last) k d
    (omega (arith, c.if-count-eq0.false))
