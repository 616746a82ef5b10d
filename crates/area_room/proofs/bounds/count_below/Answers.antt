use Rattle.std.proofs.Common.{rules}
use Rattle.rb_bytes.proofs.PartitionPoints.{count-below}
use Rattle.area_room.proofs.bounds.count_below.Goals as goal

pub returns : goal.returns
returns c =
    count-below (λ n. n) _ _ _ c.requires c.partition_point.ensures.bound c.partition_point.ensures.partitioned
    (λ a r q k. search rules)
