use Rattle.edge_profile.proofs.Saying.{SaysTo}
use Rattle.edge_profile.proofs.reading.said_in.Given as goal

abbrev pub invariant-loop-line : goal.invariant-loop-line
invariant-loop-line l = SaysTo l.fn.names l.funcs l.text l.line-iterator.left.now l.counted.items l.ignored
