use Rattle.std.proofs.Common.{arith}
use Rattle.rv_code.specs.machine.Step.{Steps}
use Rattle.run_core.specs.Runs.{RunsSomeInput}
use Rattle.run_core.proofs.Walking.{no_step, ran_is, step_more, last_step, steps_up}
use Rattle.rv_machine.specs.State.{state_of}
use Rattle.rv_machine.specs.StepResults.{answered}
use Rattle.rv_machine.proofs.LastSteps.{isnt_going}
use Rattle.rv_machine.proofs.machine.Machine.run.Goals as goal

pub loop-steps-init : goal.loop-steps-init
loop-steps-init g c = record {
  within = omega arith;
  known = c.new-known.ensures;
  reads = omega arith;
  writes = omega arith;
  walk = no_step state_of Steps c.args.self.now _ c.new-input_end.result.reached c.new-input_end.ensures;
}

pub loop-steps-preserved : goal.loop-steps-preserved
loop-steps-preserved g c = record {
  within = omega (arith, c.loop-steps-test.true);
  known = c.step_known.ensures.known;
  reads = omega (arith, c.loop-steps.invariant.reads, c.step_known.ensures.reads);
  writes = omega (arith, c.loop-steps.invariant.writes, c.step_known.ensures.writes);
  walk = step_more state_of Steps c.args.self.now _ c.loop-steps.self c.loop-steps.input_end.reached c.loop-steps.steps _
      c.loop-steps.invariant.walk c.step_known.ensures.determined
      c.step_known.new.self c.step_known.new.input_end.reached _ c.in-Going.ensures.answer;
}

pub returns-in_default : goal.returns-in_default
returns-in_default g c = record {
  answer = ran_is answered c.ended.result.end c.step_known.result c.ended.result.steps c.loop-steps.steps
      (λ end steps. RunsSomeInput state_of Steps (answered end) c.args.limit steps c.args.self.now c.step_known.new.self
      (record { input = g.I.Source.seen c.args.input.now; output = g.O.Sink.seen c.args.out.now })
      (record { input = g.I.Source.seen c.step_known.new.input; output = g.O.Sink.seen c.step_known.new.out }))
      c.ended.ensures.end c.ended.ensures.steps
      (last_step state_of Steps c.args.self.now _ c.loop-steps.self c.loop-steps.input_end.reached c.loop-steps.steps _
      c.loop-steps.invariant.walk
      c.step_known.ensures.determined c.step_known.new.self _ c.args.limit c.loop-steps-test.true
      c.step_known.new.input_end.reached
      (answered c.step_known.result)
      (isnt_going c.step_known.result c.in_default.not-Going) c.loop-steps.invariant.reads c.loop-steps.invariant.writes
      c.step_known.ensures.answer);
  reads = omega (arith, c.loop-steps.invariant.reads, c.step_known.ensures.reads);
  writes = omega (arith, c.loop-steps.invariant.writes, c.step_known.ensures.writes);
}

pub returns-clause-answer : goal.returns-clause-answer
returns-clause-answer g c =
    steps_up state_of Steps c.args.self.now _ c.loop-steps.self c.loop-steps.input_end.reached c.loop-steps.steps c.args.limit _
    c.loop-steps.invariant.walk (omega (arith, c.loop-steps.invariant.within, c.loop-steps-test.false))

pub ended-requires : goal.ended-requires
ended-requires c = grind arith
