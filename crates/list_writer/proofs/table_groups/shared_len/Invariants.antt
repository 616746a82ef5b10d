use Rattle.list_writer.proofs.GroupSteps.{IsShared}
use Rattle.list_writer.proofs.table_groups.shared_len.Given as goal

abbrev pub invariant-loop-number : goal.invariant-loop-number
invariant-loop-number l = IsShared l.units l.entries l.number l.taken l.used
