use Rattle.std.proofs.Common.{◌≡◌, ℕ, [], length}
use Rattle.cover_lists.specs.GroupRuns.{runs_in}
use Rattle.cover_lists.proofs.group_runs.no_runs.Given as goal

abbrev pub invariant-loop-number : goal.invariant-loop-number
invariant-loop-number l = (length l.lists.items ≡ l.number) × ((g : ℕ) → runs_in l.lists.items g ≡ [])
