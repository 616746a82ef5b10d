use Rattle.std.proofs.Common.{◌≡◌, ◌≤◌, ◌-◌, ℕ}
use Rattle.sym_machine.specs.internal.OtherBytes.{other_byte, cleared_between}
use Rattle.sym_machine.proofs.other_bytes.OtherBytes.clear_each.Given as goal

abbrev pub invariant-loop-at : goal.invariant-loop-at
invariant-loop-at l = record {
  from : l.from ≤ l.at;
  within : l.at ≤ l.to;
  done : (q : ℕ) → other_byte l.self q ≡ cleared_between l.initial.self l.from l.at q;
}

abbrev pub decreases-loop-at : goal.decreases-loop-at
decreases-loop-at l = l.to - l.at
