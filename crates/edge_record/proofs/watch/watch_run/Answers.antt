use Rattle.std.proofs.Common.{◌≡◌, ◌∙◌, ◌<◌, ◌^◌, [], false, Result, Ok, Err, arith, rules, refl, sym}
use Rattle.std.specs.Prelude.{OnOk, is_err}
use Rattle.run_core.proofs.Walking.{ran_is}
use Rattle.rv_machine.specs.StepResults.{answered}
use Rattle.rv_machine.proofs.LastSteps.{isnt_going}
use Rattle.edge_record.specs.AddressSets.{watches}
use Rattle.edge_record.specs.EdgeCounts.{said_of}
use Rattle.edge_record.specs.WatchedRuns.{WatchesRun}
use Rattle.edge_record.proofs.Watching.{few, last_watch, move_more, no_move, stops, walk_more, watch_up}
use Rattle.edge_record.proofs.watch.watch_run.Goals as goal

on_ok : {T E : Type 0} (r : Result T E) (P : Type 0) → is_err r ≡ false → OnOk r P → P
on_ok (Ok x) P ok p = p
on_ok (Err e) P ok p = absurd (cc)

pub loop-steps-init : goal.loop-steps-init
loop-steps-init g c = record {
  within = omega arith;
  known = c.new-known.ensures;
  reads = omega arith;
  writes = omega arith;
  watch = no_move (watches c.args.watched.now) c.args.machine.now _ c.new-input_end.result.reached c.new-input_end.ensures
      (said_of c.args.counts.now) c.requires;
}

pub note-requires : goal.note-requires
note-requires g c =
    let fits : c.args.limit < 2 ^ 64 = search rules in
    few (watches c.args.watched.now) c.args.machine.now _ c.loop-steps.machine c.loop-steps.input_end.reached c.loop-steps.steps _
    (said_of c.loop-steps.counts)
    c.loop-steps.invariant.watch c.step_known.ensures.determined c.pc-from.result c.pc.result c.args.limit
    c.loop-steps-test.true fits

pub returns-then-is_err-clause-answer : goal.returns-then-is_err-clause-answer
returns-then-is_err-clause-answer g c =
    stops
    (watches c.args.watched.now) c.args.machine.now _ c.args.limit c.step_known.new.self c.step_known.new.input_end.reached _ _ _
    (walk_more (watches c.args.watched.now) c.args.machine.now _ c.loop-steps.machine c.loop-steps.input_end.reached
    c.loop-steps.steps _ (said_of c.loop-steps.counts)
    c.loop-steps.invariant.watch c.step_known.ensures.determined c.step_known.new.self c.step_known.new.input_end.reached _
    c.in-Going.ensures.answer)
    (omega (arith, c.loop-steps-test.true)) refl refl

pub loop-steps-preserved : goal.loop-steps-preserved
loop-steps-preserved g c =
    let no_error : is_err c.note.result ≡ false = sym c.is_err.ensures.value ∙ c.if-is_err.false in
    record {
      within = omega (arith, c.loop-steps-test.true);
      known = c.step_known.ensures.known;
      reads = omega (arith, c.loop-steps.invariant.reads, c.step_known.ensures.reads);
      writes = omega (arith, c.loop-steps.invariant.writes, c.step_known.ensures.writes);
      watch = move_more (watches c.args.watched.now) c.args.machine.now _ c.loop-steps.machine c.loop-steps.input_end.reached
          c.loop-steps.steps _ (said_of c.loop-steps.counts)
          c.loop-steps.invariant.watch c.step_known.ensures.determined c.step_known.new.self c.step_known.new.input_end.reached _
          c.in-Going.ensures.answer
          c.pc-from.result c.pc.result (said_of c.note.new.counts) (c.pc-from.ensures []) (c.pc.ensures [])
          (on_ok c.note.result _ no_error c.note.ensures);
    }

pub returns-in_default : goal.returns-in_default
returns-in_default g c = record {
  answer = ran_is answered c.ended.result.end c.step_known.result c.ended.result.steps c.loop-steps.steps
      (λ end steps. WatchesRun (watches c.args.watched.now) c.args.machine.now c.step_known.new.self c.args.limit steps
      (record { input = g.I.Source.seen c.args.input.now; output = g.O.Sink.seen c.args.out.now })
      (record { input = g.I.Source.seen c.step_known.new.input; output = g.O.Sink.seen c.step_known.new.out })
      (said_of c.loop-steps.counts) (answered end))
      c.ended.ensures.end c.ended.ensures.steps
      (last_watch
      (watches c.args.watched.now) c.args.machine.now _ c.loop-steps.machine c.loop-steps.input_end.reached c.loop-steps.steps _
      (said_of c.loop-steps.counts) c.loop-steps.invariant.watch c.step_known.ensures.determined
      c.step_known.new.self _ c.args.limit
      c.loop-steps-test.true c.step_known.new.input_end.reached (answered c.step_known.result)
      (isnt_going c.step_known.result c.in_default.not-Going) c.loop-steps.invariant.reads c.loop-steps.invariant.writes
      c.step_known.ensures.answer);
  reads = omega (arith, c.loop-steps.invariant.reads, c.step_known.ensures.reads);
  writes = omega (arith, c.loop-steps.invariant.writes, c.step_known.ensures.writes);
}

pub returns-clause-answer : goal.returns-clause-answer
returns-clause-answer g c =
    watch_up (watches c.args.watched.now) c.args.machine.now _ c.loop-steps.machine c.loop-steps.input_end.reached
    c.loop-steps.steps c.args.limit _ (said_of c.loop-steps.counts)
    c.loop-steps.invariant.watch (omega (arith, c.loop-steps.invariant.within, c.loop-steps-test.false))
