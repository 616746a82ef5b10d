use Rattle.cfg_build.proofs.EdgeRows.{AreEdgesBefore}
use Rattle.cfg_build.proofs.edge_lists.edges.Given as goal

abbrev pub invariant-loop-source : goal.invariant-loop-source
invariant-loop-source l = AreEdgesBefore l.funcs l.targets l.blocks l.starts.items l.source l.edges.items
