use Rattle.std.proofs.Common.{take}
use Rattle.cover_lists.specs.GroupRuns.{AreStretched}
use Rattle.cover_lists.proofs.group_runs.add_run.Given as goal

abbrev pub invariant-loop-group : goal.invariant-loop-group
invariant-loop-group l = AreStretched (take l.group-index l.groups) l.start l.len l.fn.lists.items l.lists.items
