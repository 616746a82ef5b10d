use Rattle.std.proofs.Common.{◌≡◌, ℕ, [], length}
use Rattle.cover_lists.specs.ListRuns.{said_in}
use Rattle.cover_lists.proofs.list_runs.no_runs.Given as goal

abbrev pub invariant-loop-number : goal.invariant-loop-number
invariant-loop-number l = (length l.runs.items ≡ l.number) × ((n : ℕ) → said_in l.runs.items n ≡ [])
