use Rattle.std.proofs.Common.{length, ◌-◌, ◌≡◌, ◌<◌, ◌≤◌, take, false}
use Rattle.std.specs.Prelude.{All}
use Rattle.std.specs.Io.KnownBytes.{prepend_known}
use Rattle.run_core.proofs.input_end.InputEnd.fill.Given as goal

abbrev pub invariant-loop-done : goal.invariant-loop-done
invariant-loop-done g l = record {
  unended : l.self.reached ≡ false;
  within : l.done ≤ length l.buffer;
  moved : (g.I.Source.seen l.initial.input).left ≡ prepend_known (take l.done l.buffer) (g.I.Source.seen l.input).left;
  bytes : All (λ b. b < 256) (take l.done l.buffer);
  never_falls : (g.I.Source.seen l.initial.input).faults ≤ (g.I.Source.seen l.input).faults;
}

abbrev pub decreases-loop-done : goal.decreases-loop-done
decreases-loop-done g l = length l.initial.buffer - l.done
