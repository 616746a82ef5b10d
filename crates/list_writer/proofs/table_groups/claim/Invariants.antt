use Rattle.std.proofs.Common.{take}
use Rattle.list_writer.proofs.GroupSteps.{AreClaimedSoFar}
use Rattle.list_writer.proofs.table_groups.claim.Given as goal

abbrev pub invariant-loop-entry : goal.invariant-loop-entry
invariant-loop-entry l = AreClaimedSoFar l.own (take l.entry-index l.entries) l.fn.used l.used
