use Rattle.std.proofs.Common.{◌≡◌, ◌≤◌, ◌-◌}
use Rattle.run_core.proofs.Walking.{Walk}
use Rattle.sym_machine.specs.SymStep.{SymSteps}
use Rattle.sym_machine.specs.MachineState.{state_of, funcs_of}
use Rattle.sym_machine.specs.internal.KnownInsts.{AreKnown}
use Rattle.sym_machine.proofs.machine.SymMachine.run.Given as goal

abbrev pub invariant-loop-steps : goal.invariant-loop-steps
invariant-loop-steps g l = record {
  within : l.steps ≤ l.limit;
  funcs : funcs_of l.self ≡ funcs_of l.initial.self;
  known : AreKnown (funcs_of l.self) l.known;
  reads : (g.I.Source.seen l.initial.input).faults ≤ (g.I.Source.seen l.input).faults;
  writes : (g.O.Sink.seen l.initial.out).faults ≤ (g.O.Sink.seen l.out).faults;
  walk : Walk state_of (SymSteps (funcs_of l.initial.self)) l.initial.self (record {
    input = g.I.Source.seen l.initial.input;
    output = g.O.Sink.seen l.initial.out;
  }) l.self l.input_end.reached l.steps
      (record { input = g.I.Source.seen l.input; output = g.O.Sink.seen l.out });
}

abbrev pub decreases-loop-steps : goal.decreases-loop-steps
decreases-loop-steps g l = l.limit - l.steps
