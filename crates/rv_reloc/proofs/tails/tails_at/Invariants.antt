use Rattle.std.proofs.Common.{All}
use Rattle.rv_reloc.specs.Tails.{IsKnown}
use Rattle.rv_reloc.proofs.tails.tails_at.Given as goal

abbrev pub invariant-loop-place : goal.invariant-loop-place
invariant-loop-place l = record {
  next : IsKnown l.elf l.next;
  known : All (IsKnown l.elf) l.known.items;
}
