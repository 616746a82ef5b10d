use Rattle.std.proofs.Common.{◌≡◌, ◌+◌, ◌-◌, ◌<◌, ◌≤◌, ℕ, All, length}
use Rattle.flow_infer.specs.Heights.{AreAmong}
use Rattle.flow_infer.specs.Sources.{AreLinksUpto, IsFunctionRange}
use Rattle.flow_infer.proofs.EdgeSteps.{es_of, reach}
use Rattle.flow_infer.proofs.links.push_ways_from.Given as goal

abbrev pub invariant-loop-edge : goal.invariant-loop-edge
invariant-loop-edge l =
    ((first end : ℕ) → IsFunctionRange l.source.blocks.now first end → first ≤ l.block → l.block < end →
    AreAmong first (end - first + 1) l.fn.links.items → AreAmong first (end - first + 1) l.links.items)
    × (All (λ link. link.flow ≡ link.count) l.fn.links.items → All (λ link. link.flow ≡ link.count) l.links.items)
    × ((first end : ℕ) → IsFunctionRange l.source.blocks.now first end → first ≤ l.block → l.block < end →
    AreLinksUpto l.source first end (l.block + 1) 0 l.fn.links.items →
    AreLinksUpto l.source first end (l.block + 1) (reach (length l.source.blocks.now) (es_of l.source l.block) l.edge-index)
    l.links.items)
