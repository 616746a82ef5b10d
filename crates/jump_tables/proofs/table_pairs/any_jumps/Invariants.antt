use Rattle.std.proofs.Common.{◌≡◌, ℕ, ◌<◌, slice_index_or}
use Rattle.rv_code.specs.declared.placed.Func.{Func}
use Rattle.jump_tables.specs.TablePairs.{HasTableJump}
use Rattle.jump_tables.proofs.table_pairs.any_jumps.Given as goal

abbrev pub invariant-loop-func : goal.invariant-loop-func
invariant-loop-func l = (k : ℕ) (f : Func) → k < l.func-index → slice_index_or l.funcs k f ≡ f → HasTableJump f → ⊥
