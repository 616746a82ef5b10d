use Rattle.std.proofs.Common.{◌≡◌, ◌<◌, length, All}
use Rattle.branch_fixup.specs.Ways.{AreLonger, AreLongerOver}
use Rattle.branch_fixup.proofs.settling.Settling.lengthen.Given as goal

abbrev pub invariant-loop-k : goal.invariant-loop-k
invariant-loop-k l = record {
  count : length l.more ≡ length l.self.block_ends.now;
  longer : AreLonger l.self.block_ends.now l.self.places.now l.forms l.more;
  over : AreLongerOver l.self.block_ends.now l.self.places.now l.forms l.more l.p l.bytes l.k;
  listed : All (λ k. k < length l.self.block_ends.now) l.short.items;
}
