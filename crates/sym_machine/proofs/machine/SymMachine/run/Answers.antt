use Rattle.std.proofs.Common.{◌≡◌, ◌∙◌, sym, subst, arith, Bool, ℕ}
use Rattle.std.specs.Prelude.{List}
use Rattle.rv_code.specs.declared.placed.Func.{Func}
use Rattle.rv_code.specs.machine.DeterminedRuns.{HasOneOutcome}
use Rattle.run_core.specs.Inputs.{Outside}
use Rattle.run_core.specs.Runs.{RunsSomeInput}
use Rattle.run_core.proofs.Walking.{no_step, ran_is, step_more, last_step, steps_up}
use Rattle.sym_machine.specs.declared.machine.SymMachine.{SymMachine}
use Rattle.sym_machine.specs.declared.outcome.SymStepped.{SymStepped}
use Rattle.sym_machine.specs.declared.outcome.SymStepped.TheVariants as stepped
use Rattle.sym_machine.specs.SymStep.{SymSteps}
use Rattle.sym_machine.specs.MachineState.{answered, state_of, funcs_of, StepAnswers}
use Rattle.sym_machine.proofs.LastSteps.{isnt_going}
use Rattle.sym_machine.proofs.machine.SymMachine.run.Goals as goal

-- the step with the functions that the run began with
by_funcs : (now then : List Func) → now ≡ then →
    (r : SymStepped) (old new : SymMachine) (ended ends : Bool) (before after : Outside) →
    StepAnswers (SymSteps now) r old new ended ends before after → StepAnswers (SymSteps then) r old new ended ends before after
by_funcs now then same r old new ended ends before after a =
    subst (λ (fs : List Func). StepAnswers (SymSteps fs) r old new ended ends before after) same a

-- a step of the definition has at most one outcome
one_outcome : (funcs : List Func) (m : SymMachine) (bytes : List ℕ) → HasOneOutcome (SymSteps funcs) (state_of m bytes)
one_outcome funcs m bytes = λ o p first other. sym first ∙ other

pub loop-steps-init : goal.loop-steps-init
loop-steps-init g c = record {
  within = omega arith;
  funcs = λ i. funcs_of c.args.self.now;
  known = c.new-known.ensures (funcs_of c.args.self.now);
  reads = omega arith;
  writes = omega arith;
  walk = no_step state_of
      (SymSteps (funcs_of c.args.self.now)) c.args.self.now _ c.new-input_end.result.reached c.new-input_end.ensures;
}

pub loop-steps-preserved : goal.loop-steps-preserved
loop-steps-preserved g c = record {
  within = omega (arith, c.loop-steps-test.true);
  funcs = c.step_on.ensures.funcs ∙ c.loop-steps.invariant.funcs;
  known = c.step_on.ensures.known;
  reads = omega (arith, c.loop-steps.invariant.reads, c.step_on.ensures.reads);
  writes = omega (arith, c.loop-steps.invariant.writes, c.step_on.ensures.writes);
  walk =
      step_more state_of (SymSteps (funcs_of c.args.self.now)) c.args.self.now _ c.loop-steps.self c.loop-steps.input_end.reached
      c.loop-steps.steps _ c.loop-steps.invariant.walk (one_outcome (funcs_of c.args.self.now) c.loop-steps.self)
      c.step_on.new.self c.step_on.new.input_end.reached _ (by_funcs (funcs_of c.loop-steps.self)
      (funcs_of c.args.self.now) c.loop-steps.invariant.funcs stepped.Going c.loop-steps.self c.step_on.new.self
      c.loop-steps.input_end.reached c.step_on.new.input_end.reached
      (record { input = g.I.Source.seen c.loop-steps.input; output = g.O.Sink.seen c.loop-steps.out }) (record {
        input = g.I.Source.seen c.step_on.new.input;
        output = g.O.Sink.seen c.step_on.new.out;
      }) c.in-Going.ensures.answer);
}

pub returns-in_default : goal.returns-in_default
returns-in_default g c = record {
  answer = ran_is answered c.ended.result.end c.step_on.result c.ended.result.steps c.loop-steps.steps
      (λ end steps. RunsSomeInput state_of (SymSteps (funcs_of c.args.self.now))
      (answered end) c.args.limit steps c.args.self.now c.step_on.new.self
      (record { input = g.I.Source.seen c.args.input.now; output = g.O.Sink.seen c.args.out.now })
      (record { input = g.I.Source.seen c.step_on.new.input; output = g.O.Sink.seen c.step_on.new.out }))
      c.ended.ensures.end c.ended.ensures.steps
      (last_step state_of (SymSteps (funcs_of c.args.self.now)) c.args.self.now _ c.loop-steps.self
      c.loop-steps.input_end.reached c.loop-steps.steps _
      c.loop-steps.invariant.walk
      (one_outcome (funcs_of c.args.self.now) c.loop-steps.self) c.step_on.new.self _ c.args.limit c.loop-steps-test.true
      c.step_on.new.input_end.reached (answered c.step_on.result) (isnt_going c.step_on.result c.in_default.not-Going)
      c.loop-steps.invariant.reads c.loop-steps.invariant.writes
      (by_funcs (funcs_of c.loop-steps.self)
      (funcs_of c.args.self.now) c.loop-steps.invariant.funcs c.step_on.result c.loop-steps.self c.step_on.new.self
      c.loop-steps.input_end.reached c.step_on.new.input_end.reached
      (record { input = g.I.Source.seen c.loop-steps.input; output = g.O.Sink.seen c.loop-steps.out })
      (record { input = g.I.Source.seen c.step_on.new.input; output = g.O.Sink.seen c.step_on.new.out })
      c.step_on.ensures.answer));
  reads = omega (arith, c.loop-steps.invariant.reads, c.step_on.ensures.reads);
  writes = omega (arith, c.loop-steps.invariant.writes, c.step_on.ensures.writes);
  funcs = c.step_on.ensures.funcs ∙ c.loop-steps.invariant.funcs;
}

pub returns-clause-answer : goal.returns-clause-answer
returns-clause-answer g c =
    steps_up state_of (SymSteps (funcs_of c.args.self.now)) c.args.self.now _ c.loop-steps.self c.loop-steps.input_end.reached
    c.loop-steps.steps c.args.limit _ c.loop-steps.invariant.walk
    (omega (arith, c.loop-steps.invariant.within, c.loop-steps-test.false))

pub ended-requires : goal.ended-requires
ended-requires c = grind arith
