use Rattle.std.proofs.Common.{◌∙◌, ◌++◌, ℕ, List, All, ap, sym, subst, append-nil}
use Rattle.std.specs.Global.{Vec}
use Rattle.std.proofs.lemmas.List.Elements.{All-nil}
use Rattle.answer_runs.specs.declared.run.Run.{Run}
use Rattle.cover_lists.specs.ListRuns.{said}
use Rattle.list_writer.specs.WrittenLocations.{over}
use Rattle.list_writer.proofs.SpelledLists.{spelled_more}
use Rattle.list_writer.proofs.SpelledLocations.{run_bytes, list_done, Fits, runs_fit, runs_all}
use Rattle.list_writer.proofs.location_spelling.put_list.Goals as goal

pub loop-run-init : goal.loop-run-init
loop-run-init c = (sym (append-nil c.args.out.now.items), All-nil Fits)

pub loop-run-preserved : goal.loop-run-preserved
loop-run-preserved c =
    let rs : List (Run (Vec (Vec ℕ))) = c.args.runs.now in
    let i : ℕ = c.loop-run.run-index in
    let r : Run (Vec (Vec ℕ)) = c.run-item.result in (
      spelled_more run_bytes rs i r c.args.out.now.items c.loop-run.out.items c.put_run.new.out.items c.loop-run-test.true
          c.loop-run.invariant.0
          (c.in_ok-put_run.ensures.written ∙ ap (λ (r : Run (Vec (Vec ℕ))). c.loop-run.out.items ++ run_bytes r) c.run-item.is),
      runs_fit rs i r c.loop-run-test.true c.loop-run.invariant.1
          (subst (λ (r : Run (Vec (Vec ℕ))). All Fits (over r.start r.len (said r.answer))) c.run-item.is c.in_ok-put_run.ensures.fits),
    )

pub returns-clause-written : goal.returns-clause-written
returns-clause-written c =
    list_done c.args.runs.now c.loop-run.run-index c.args.out.now.items c.loop-run.out.items c.put_end.new.out.items c.loop-run-test.false
    c.loop-run.invariant.0 c.in_ok-put_end.ensures

pub returns-clause-fits : goal.returns-clause-fits
returns-clause-fits c = runs_all c.args.runs.now c.loop-run.run-index c.loop-run-test.false c.loop-run.invariant.1
