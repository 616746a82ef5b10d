use Rattle.std.proofs.Common.{◌≤◌, ◌-◌}
use Rattle.rv_machine.specs.KnownInsts.{AreKnown}
use Rattle.edge_record.specs.AddressSets.{watches}
use Rattle.edge_record.specs.EdgeCounts.{said_of}
use Rattle.edge_record.proofs.Watching.{Watch}
use Rattle.edge_record.proofs.watch.watch_run.Given as goal

abbrev pub invariant-loop-steps : goal.invariant-loop-steps
invariant-loop-steps g l = record {
  within : l.steps ≤ l.limit;
  known : AreKnown l.known;
  reads : (g.I.Source.seen l.initial.input).faults ≤ (g.I.Source.seen l.input).faults;
  writes : (g.O.Sink.seen l.initial.out).faults ≤ (g.O.Sink.seen l.out).faults;
  watch : Watch (watches l.watched) l.initial.machine
      (record { input = g.I.Source.seen l.initial.input; output = g.O.Sink.seen l.initial.out })
      l.machine l.input_end.reached l.steps
      (record { input = g.I.Source.seen l.input; output = g.O.Sink.seen l.out }) (said_of l.counts);
}

abbrev pub decreases-loop-steps : goal.decreases-loop-steps
decreases-loop-steps g l = l.limit - l.steps
