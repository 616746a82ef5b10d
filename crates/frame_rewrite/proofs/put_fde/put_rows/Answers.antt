use Rattle.std.proofs.Common.{ℕ, ◌<◌, ◌^◌, ◌∙◌, ◌+◌, ◌-◌, ◌++◌, ◌∷◌, sym, subst, ap, arith, drop, option_map}
use Rattle.std.proofs.lemmas.List.{get_or_default}
use Rattle.std.proofs.lemmas.List.Elements.{All-more}
use Rattle.std.proofs.lemmas.Result.{on_ok_weaker}
use Rattle.answer_runs.specs.declared.run.Run.{Run}
use Rattle.frame_rewrite.specs.FrameAnswers.{FrameAnswer}
use Rattle.frame_rewrite.specs.SpelledFrames.{known_of, spelled_row_before}
use Rattle.frame_rewrite.specs.SpelledFits.{RowFits, IsAbove, Near}
use Rattle.frame_rewrite.proofs.Appends.{all-taken, item-behind, rows-more, from-run, to-run}
use Rattle.frame_rewrite.proofs.put_fde.put_rows.Goals as goal

abbrev Fits : Run FrameAnswer → Type 0
Fits r = RowFits r.answer.row

pub loop-run-preserved : goal.loop-run-preserved
loop-run-preserved c =
    let first = c.args.first.now in
    let more = c.args.more.now in
    let out = c.loop-run.out.items in
    let i = c.loop-run.run-index in
    let run = c.run-item.result in
    let at = c.run_start-next.ensures in
    let row = c.row_of-last-in-loop-run.ensures in
    let last = c.loop-run.last.now in
    let above = from-run (IsAbove c.loop-run.at) run run more i c.loop-run-test.true c.run-item.is c.loop-run.invariant.above in
    record {
      written = rw (c.known_behind-known.ensures.is, at, row)
          (rows-more out c.put_row_before.new.out.items _ (known_of c.is_signal-signal.result (option_map (λ r. r.now) c.loop-run.known))
          c.loop-run.at last run run more i c.loop-run-test.true c.run-item.is
          (c.in_ok-put_row_before.ensures.spelled ∙ ap (λ (n : ℕ). out ++ spelled_row_before
          (known_of c.is_signal-signal.result (option_map (λ r. r.now) c.loop-run.known)) last (n - c.loop-run.at)) at)
          c.loop-run.invariant.written);
      last = row ∙ ap (λ (r : Run FrameAnswer). r.answer.row)
          (c.run-item.is ∙ get_or_default more i run first c.loop-run-test.true ∙ sym (item-behind first more i first));
      low = c.known_behind-known.ensures.low;
      ascend = c.known_behind-known.ensures.ascend;
      above = rw at above.1;
      near = λ near. c.loop-run.invariant.near (to-run (Near c.loop-run.at) run run more i c.loop-run-test.true c.run-item.is (
        subst (λ (n : ℕ). n - c.loop-run.at < 2 ^ 32) at c.in_ok-put_row_before.ensures.near,
        subst (λ (n : ℕ). Near n (drop (i + 1) more)) at near,
      ));
      fits = All-more Fits (first ∷ more) i first (let l = c.loop-run-test.true in omega arith) c.loop-run.invariant.fits
          (subst RowFits c.loop-run.invariant.last c.in_ok-put_row_before.ensures.fits);
    }

pub returns-clause-fits : goal.returns-clause-fits
returns-clause-fits c =
    let first = c.args.first.now in
    let more = c.args.more.now in
    let i = c.loop-run.run-index in
    on_ok_weaker c.put_change.result
    (λ f. all-taken Fits (first ∷ more) (i + 1) (let l = c.loop-run-test.false in omega arith)
    (All-more Fits (first ∷ more) i first (let l = c.loop-run.auto.run-index-end in omega arith) c.loop-run.invariant.fits
    (subst RowFits c.loop-run.invariant.last f)))
    c.put_change.ensures.fits
