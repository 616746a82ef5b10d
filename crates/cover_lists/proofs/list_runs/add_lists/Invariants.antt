use Rattle.std.proofs.Common.{take}
use Rattle.cover_lists.specs.ListRuns.{AreExtended}
use Rattle.cover_lists.proofs.list_runs.add_lists.Given as goal

abbrev pub invariant-loop-number : goal.invariant-loop-number
invariant-loop-number l = AreExtended l.lists l.a (take l.number-index l.numbers) l.start l.len l.fn.runs.items l.runs.items
