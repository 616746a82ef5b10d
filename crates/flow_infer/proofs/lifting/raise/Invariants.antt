use Rattle.std.proofs.Common.{◌≡◌, ◌<◌, ◌≤◌, ℕ, get_or}
use Rattle.flow_infer.specs.Heights.{raised}
use Rattle.flow_infer.proofs.lifting.raise.Given as goal

abbrev pub invariant-loop-n : goal.invariant-loop-n
invariant-loop-n l = ((k : ℕ) → k < l.n → get_or l.heights k 0 ≡ raised l.step (get_or l.distances k 0) (get_or l.fn.heights k 0)) ×
    ((k : ℕ) → l.n ≤ k → get_or l.heights k 0 ≡ get_or l.fn.heights k 0)
