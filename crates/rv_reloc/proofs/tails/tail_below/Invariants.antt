use Rattle.std.proofs.Common.{◌≤◌}
use Rattle.rv_reloc.specs.Tails.{TailAt}
use Rattle.rv_reloc.proofs.tails.tail_below.Given as goal

abbrev pub invariant-loop-address : goal.invariant-loop-address
invariant-loop-address l = record {
  above : l.from ≤ l.address;
  here : TailAt l.elf l.address l.tail;
}
