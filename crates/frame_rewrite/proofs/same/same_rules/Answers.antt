use Rattle.std.proofs.Common.{arith, sym, ◌∙◌, refl, ◌≤◌, ◌<◌, length}
use Rattle.answer_runs.proofs.SameLists.{same-more, same-end}
use Rattle.frame_rewrite.proofs.same.same_rules.Goals as goal

pub loop-i-preserved : goal.loop-i-preserved
loop-i-preserved c =
    let l : c.loop-i.i < length c.args.y.now = omega arith in
    same-more c.args.x.now c.args.y.now c.loop-i.i c.index-x-i.result c.index-y-i.result c.loop-i-test.true l
    (sym c.index-x-i.is ∙ c.same_entry.ensures.0 c.if-not-same_entry.false ∙ c.index-y-i.is) c.loop-i.invariant

pub returns : goal.returns
returns c =
    let l : length c.args.y.now ≤ c.loop-i.i = omega arith in
    (λ _. same-end c.args.x.now c.args.y.now c.loop-i.i c.loop-i-test.false l c.loop-i.invariant, λ _. refl)
