use Rattle.std.proofs.Common.{◌+◌, arith}
use Rattle.std.proofs.lemmas.Grind.{common_steps}
use Rattle.branch_fixup.proofs.Appended.{no_inst, inner_more, end_more, end_part}
use Rattle.branch_fixup.proofs.spans.put_inner.Goals as goal

pub overflow_add-at : goal.overflow_add-at
overflow_add-at c =
    let within = c.loop-inst-test.true in
    let more = end_more c.args.at c.loop-inst.at c.args.insts.now c.loop-inst.inst-index no_inst
    (omega arith) c.loop-inst.invariant.1 in
    let part = end_part c.args.at c.args.insts.now (c.loop-inst.inst-index + 1) in
    let low = c.requires in
    omega (arith, more, part, low)

pub loop-inst-preserved : goal.loop-inst-preserved
loop-inst-preserved c = (
  inner_more c.loop-inst.spans.items c.push.new.self.items c.args.at c.loop-inst.at c.args.insts.now
      c.loop-inst.inst-index no_inst c.args.spans.now.items (omega arith) c.loop-inst.invariant.0
      c.loop-inst.invariant.1 c.in_ok-push.ensures.items,
  end_more c.args.at c.loop-inst.at c.args.insts.now
      c.loop-inst.inst-index no_inst (omega arith) c.loop-inst.invariant.1,
)

pub returns-clause-spans : goal.returns-clause-spans
returns-clause-spans c = grind (arith, common_steps)

pub returns-clause-end : goal.returns-clause-end
returns-clause-end c = grind (arith, common_steps)
