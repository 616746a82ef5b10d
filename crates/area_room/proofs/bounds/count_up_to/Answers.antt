use Rattle.std.proofs.Common.{rules}
use Rattle.rb_bytes.proofs.PartitionPoints.{count-up_to}
use Rattle.area_room.proofs.bounds.count_up_to.Goals as goal

pub returns : goal.returns
returns c =
    count-up_to (λ n. n) _ _ _ c.requires c.partition_point.ensures.bound c.partition_point.ensures.partitioned
    (λ a r q k. search rules)
