use Rattle.std.proofs.Common.{◌≡◌, ◌<◌, ℕ, true}
use Rattle.std.specs.Prelude.{slice_index_or}
use Rattle.rv_code.specs.declared.placed.Block.{Block}
use Rattle.edge_profile.specs.BlockPlaces.{begins_by}
use Rattle.edge_profile.proofs.weights.count_beside.Given as goal

abbrev pub invariant-loop-k : goal.invariant-loop-k
invariant-loop-k l =
    (k : ℕ) (d : Block) → k < l.k → begins_by l.place.func l.place.inst (slice_index_or l.blocks k d) ≡ true
