use Rattle.std.proofs.Common.{length, ◌-◌, ◌≤◌, take}
use Rattle.rb_io.specs.TakenText.{TakesAll}
use Rattle.rb_io.proofs.print.print_all.Given as goal

abbrev pub invariant-loop-done : goal.invariant-loop-done
invariant-loop-done g l = record {
  within : l.done ≤ length l.text;
  taken : TakesAll (g.O.Sink.seen l.initial.out).taken (g.O.Sink.seen l.out).taken (take l.done l.text);
  never_falls : (g.O.Sink.seen l.initial.out).faults ≤ (g.O.Sink.seen l.out).faults;
}

abbrev pub decreases-loop-done : goal.decreases-loop-done
decreases-loop-done g l = length l.text - l.done
