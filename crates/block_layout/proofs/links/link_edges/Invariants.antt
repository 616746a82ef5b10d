use Rattle.std.proofs.Common.{length}
use Rattle.block_layout.specs.Parts.{IsFirstBlock}
use Rattle.block_layout.proofs.Steps.{IsReady}
use Rattle.block_layout.proofs.links.link_edges.Given as goal

abbrev pub invariant-loop-edge : goal.invariant-loop-edge
invariant-loop-edge l = IsReady l.edges (length l.blocks) (IsFirstBlock l.blocks) l.edge-index l.links
