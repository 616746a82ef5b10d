-- The input of a search for ways of flow: links between nodes, heights that are prices that hold, the arcs around each
-- node, and numbers for the spare flow of each node and for the flow that it needs.
use Rattle.std.specs.Prelude.{◌≡◌, ◌<◌, ◌^◌, length}
use Rattle.flow_infer.specs.declared.network.Network.{Network}
use Rattle.flow_infer.specs.Heights.{AreArcs, IsSteady}

pub record IsNetwork (n : Network) : Type 0 where
  pub few : length n.heights.now < 2 ^ 63
  pub steady : IsSteady n.heights.now n.first (length n.heights.now) n.links.now
  pub around : length n.around.now ≡ length n.heights.now
  pub arcs : AreArcs (length n.links.now) (length n.heights.now) n.around.now
  pub spare : length n.spare.now ≡ length n.heights.now
  pub need : length n.need.now ≡ length n.heights.now
