use Rattle.std.proofs.Common.{◌≡◌, ℕ, length, take}
use Rattle.cover_lists.specs.GroupRuns.{runs_end}
use Rattle.cover_lists.specs.ListRuns.{IsListRuns, said_in}
use Rattle.cover_lists.proofs.list_runs.list_runs.Given as goal

abbrev pub invariant-loop-stretch : goal.invariant-loop-stretch
invariant-loop-stretch l =
    (length l.runs.items ≡ length l.lists)
    × ((n : ℕ) → IsListRuns l.lists n (take l.stretch-index l.stretches) (runs_end 0 (take l.stretch-index l.stretches))
    (said_in l.runs.items n))
