use Rattle.std.proofs.Common.{take}
use Rattle.cfg_build.proofs.EdgeRows.{AreNext}
use Rattle.cfg_build.proofs.edge_lists.push_edges.Given as goal

abbrev pub invariant-loop-lead : goal.invariant-loop-lead
invariant-loop-lead l =
    AreNext l.blocks l.starts l.source l.func l.initial.edges.items (take l.lead-index l.leads) l.edges.items
