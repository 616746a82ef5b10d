use Rattle.std.proofs.Common.{◌<◌, ◌≤◌, ℕ, get_or}
use Rattle.flow_infer.specs.declared.flow.Link.{Link}
use Rattle.flow_infer.specs.Heights.{HoldsRaised}
use Rattle.flow_infer.proofs.lifting.longest_step.Given as goal

abbrev pub invariant-loop-link : goal.invariant-loop-link
invariant-loop-link l = (step : ℕ) → step ≤ l.longest → (k : ℕ) (e : Link) → k < l.link-index →
    HoldsRaised l.heights l.first l.distances step (get_or l.links k e)
