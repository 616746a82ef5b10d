use Rattle.std.proofs.Common.{ℕ, ◌<◌, slice_index_or}
use Rattle.rv_code.specs.declared.placed.Role.{Role}
use Rattle.func_find.proofs.inst_lists.count_below.Given as goal

abbrev pub invariant-loop-index : goal.invariant-loop-index
invariant-loop-index l = (k : ℕ) (d : ℕ × Role) → k < l.index → (slice_index_or l.roles k d).0 < l.address
