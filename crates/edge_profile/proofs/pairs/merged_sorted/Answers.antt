use Rattle.std.proofs.Common.{rules, arith}
use Rattle.std.proofs.lemmas.Grind.{common_steps}
use Rattle.edge_profile.proofs.Merging.{merged_more, merged_all}
use Rattle.edge_profile.proofs.pairs.merged_sorted.Goals as goal

pub loop-p-preserved : goal.loop-p-preserved
loop-p-preserved c =
    merged_more c.args.said.now c.loop-p.p-index c.loop-p.pairs.items c.add.new.pairs.items _ c.requires.ordered
    c.loop-p-test.true (search rules) c.in_ok-add.ensures c.loop-p.invariant

pub returns : goal.returns
returns c =
    merged_all c.args.said.now c.loop-p.p-index c.loop-p.pairs.items c.loop-p-test.false
    c.loop-p.auto.p-index-end c.loop-p.invariant

pub loop-p-preserved-then-p-eq0 : goal.loop-p-preserved-then-p-eq0
loop-p-preserved-then-p-eq0 c = grind (arith, common_steps)
