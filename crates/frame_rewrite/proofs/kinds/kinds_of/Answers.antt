use Rattle.std.proofs.Common.{◌<◌, sym, subst}
use Rattle.std.specs.Prelude.{All, Contains}
use Rattle.std.proofs.lemmas.List.Elements.{All-get_or}
use Rattle.std.proofs.lemmas.Map.Views.{All-insert_key}
use Rattle.answer_runs.specs.declared.run.Run.{Run}
use Rattle.frame_rewrite.specs.declared.cie_key.CieKey.{CieKey}
use Rattle.frame_rewrite.specs.FrameAnswers.{FrameAnswer}
use Rattle.frame_rewrite.specs.SpelledFits.{KeyFits, RunReturns}
use Rattle.frame_rewrite.specs.SpelledFrames.{key_of}
use Rattle.frame_rewrite.proofs.kinds.kinds_of.Goals as goal

pub loop-run-preserved : goal.loop-run-preserved
loop-run-preserved c =
    let is = c.run-item.is in
    let k = c.key_of.result in
    let small : k.ra < 256 = subst (λ (x : CieKey). x.ra < 256) (sym c.key_of.ensures.key) (subst RunReturns (sym is)
    (All-get_or RunReturns c.args.runs.now c.loop-run.run-index c.run-item.result c.loop-run-test.true c.requires)) in
    record {
      fits = subst (All KeyFits) (sym c.in_ok-insert.ensures.keys)
          (All-insert_key _ k KeyFits c.loop-run.kinds.keys c.loop-run.invariant.fits
          (record { ra = small; handler = c.key_of.ensures.low }));
      needed = λ among all. subst (All (Contains among)) (sym c.in_ok-insert.ensures.keys)
          (All-insert_key _ k (Contains among) c.loop-run.kinds.keys (c.loop-run.invariant.needed among all)
          (subst (Contains among) (sym c.key_of.ensures.key) (subst
          (λ (r : Run FrameAnswer). Contains among (key_of c.args.map.now r.answer)) (sym is)
          (All-get_or (λ (r : Run FrameAnswer). Contains among (key_of c.args.map.now r.answer)) c.args.runs.now
          c.loop-run.run-index c.run-item.result c.loop-run-test.true all))));
    }
