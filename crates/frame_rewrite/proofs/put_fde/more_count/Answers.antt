use Rattle.std.proofs.Common.{◌+◌, ◌<◌, ◌^◌, sym, subst, arith}
use Rattle.std.proofs.lemmas.List.Elements.{All-get_or, All-tail}
use Rattle.answer_runs.specs.declared.run.Run.{Run}
use Rattle.frame_rewrite.specs.FrameAnswers.{FrameAnswer}
use Rattle.frame_rewrite.specs.SpelledFits.{EndFits}
use Rattle.frame_rewrite.proofs.put_fde.more_count.Goals as goal

pub overflow_add-end-in-loop-i : goal.overflow_add-end-in-loop-i
overflow_add-end-in-loop-i c =
    let fits : c.index-others-i.result.start + c.index-others-i.result.len < 2 ^ 64 =
    subst (λ (r : Run FrameAnswer). r.start + r.len < 2 ^ 64) (sym c.index-others-i.is)
    (All-get_or EndFits c.args.others.now c.loop-i.i c.index-others-i.result c.loop-i-test.true
    (All-tail EndFits c.args.first.now c.args.others.now c.requires)) in
    omega arith
