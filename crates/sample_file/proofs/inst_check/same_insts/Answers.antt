use Rattle.std.proofs.Common.{rules}
use Rattle.sample_file.proofs.Ranges.{same_more}
use Rattle.sample_file.proofs.inst_check.same_insts.Goals as goal

pub loop-i-preserved : goal.loop-i-preserved
loop-i-preserved c =
    same_more c.args.xs.now c.args.ys.now c.loop-i.i _ (search rules) (search rules) (c.same_placed.ensures (search rules))
    c.loop-i.invariant
