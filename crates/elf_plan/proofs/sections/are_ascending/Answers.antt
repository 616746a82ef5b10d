use Rattle.std.proofs.Common.{arith}
use Rattle.elf_plan.proofs.SectionOrder.{ascend-more}
use Rattle.elf_plan.proofs.sections.are_ascending.Goals as goal

pub loop-i-preserved : goal.loop-i-preserved
loop-i-preserved c =
    let is = c.is_pair_before.ensures c.if-not-is_pair_before.false in
    ascend-more c.args.pairs.now c.loop-i.i (0, 0) (let start = c.loop-i.auto.i in omega arith) c.loop-i-test.true
    c.loop-i.invariant is
