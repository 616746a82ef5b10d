use Rattle.std.proofs.Common.{arith}
use Rattle.frame_rewrite.proofs.Appends.{zeros-more}
use Rattle.frame_rewrite.proofs.spelling.put_zeros.Goals as goal

pub loop-i-preserved : goal.loop-i-preserved
loop-i-preserved c = zeros-more _ _ _ _ _ (omega arith) c.in_ok-put_byte.ensures c.loop-i.invariant
