use Rattle.std.proofs.Common.{◌≡◌, ◌<◌, ℕ, length, take}
use Rattle.cover_lists.specs.GroupRuns.{IsGroupRuns, runs_in}
use Rattle.cover_lists.proofs.group_runs.group_runs.Given as goal

abbrev pub invariant-loop-stretch : goal.invariant-loop-stretch
invariant-loop-stretch l =
    (length l.lists.items ≡ l.count)
    × ((k : ℕ) → k < l.count → IsGroupRuns l.tree k (take l.stretch-index l.stretches) (runs_in l.lists.items k))
