use Rattle.std.proofs.Common.{◌≤◌, ◌-◌}
use Rattle.rv_code.specs.machine.Step.{Steps}
use Rattle.run_core.proofs.Walking.{Walk}
use Rattle.rv_machine.specs.KnownInsts.{AreKnown}
use Rattle.rv_machine.specs.State.{state_of}
use Rattle.rv_machine.proofs.machine.Machine.run.Given as goal

abbrev pub invariant-loop-steps : goal.invariant-loop-steps
invariant-loop-steps g l = record {
  within : l.steps ≤ l.limit;
  known : AreKnown l.known;
  reads : (g.I.Source.seen l.initial.input).faults ≤ (g.I.Source.seen l.input).faults;
  writes : (g.O.Sink.seen l.initial.out).faults ≤ (g.O.Sink.seen l.out).faults;
  walk : Walk state_of Steps l.initial.self (record {
    input = g.I.Source.seen l.initial.input;
    output = g.O.Sink.seen l.initial.out;
  }) l.self l.input_end.reached l.steps
      (record { input = g.I.Source.seen l.input; output = g.O.Sink.seen l.out });
}

abbrev pub decreases-loop-steps : goal.decreases-loop-steps
decreases-loop-steps g l = l.limit - l.steps
