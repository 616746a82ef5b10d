use Rattle.std.proofs.Common.{◌<◌, length, All}
use Rattle.branch_fixup.proofs.settling.Settling.short_blocks.Given as goal

abbrev pub invariant-loop-k : goal.invariant-loop-k
invariant-loop-k l = All (λ k. k < length l.self.block_ends.now) l.short.items
