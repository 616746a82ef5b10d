use Rattle.addr_rewrite.proofs.TableSteps.{pairs_end, pairs_more}
use Rattle.addr_rewrite.proofs.put_tables.put_pairs.Goals as goal

pub loop-stretch-preserved : goal.loop-stretch-preserved
loop-stretch-preserved c =
    pairs_more c.args.stretches.now c.loop-stretch.stretch-index _ c.loop-stretch.out.items c.put_pair.new.out.items _
    c.loop-stretch-test.true c.loop-stretch.invariant c.in_ok-put_pair.ensures

pub returns : goal.returns
returns c =
    pairs_end c.args.stretches.now c.loop-stretch.stretch-index c.loop-stretch.out.items c.put_pair-2.new.out.items _
    c.loop-stretch-test.false c.loop-stretch.invariant c.in_ok-put_pair-2.ensures
