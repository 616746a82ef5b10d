use Rattle.frame_rewrite.proofs.EntrySteps.{cie-more, cies-end}
use Rattle.frame_rewrite.proofs.put_cie.put_cies.Goals as goal

pub loop-i-preserved : goal.loop-i-preserved
loop-i-preserved c =
    cie-more c.args.debug c.args.keys.now c.loop-i.i _ c.loop-i.out.items c.put_cie_entry.new.out.items _
    c.loop-i-test.true (c.in_ok-put_cie_entry.ensures c.loop-i.i) c.loop-i.invariant

pub returns : goal.returns
returns c = cies-end c.args.debug c.args.keys.now c.loop-i.i c.loop-i.out.items _ c.loop-i-test.false c.loop-i.invariant
