use Rattle.std.proofs.Common.{◌+◌, ◌<◌, ◌^◌, sym, subst, arith}
use Rattle.std.proofs.lemmas.List.Elements.{All-get_or, All-tail}
use Rattle.answer_runs.specs.declared.run.Run.{Run}
use Rattle.frame_rewrite.specs.FrameAnswers.{FrameAnswer}
use Rattle.frame_rewrite.specs.SpelledFits.{EndFits}
use Rattle.frame_rewrite.proofs.put_fde.group_end.Goals as goal

pub overflow_add-end-in-loop-run : goal.overflow_add-end-in-loop-run
overflow_add-end-in-loop-run c =
    let fits : c.run-item.result.start + c.run-item.result.len < 2 ^ 64 =
    subst (λ (r : Run FrameAnswer). r.start + r.len < 2 ^ 64) (sym c.run-item.is)
    (All-get_or EndFits c.args.more.now c.loop-run.run-index c.run-item.result c.loop-run-test.true
    (All-tail EndFits c.args.first.now c.args.more.now c.requires)) in
    omega arith
