use Rattle.std.proofs.Common.{◌≡◌, ◌+◌, ◌-◌, ◌≤◌, All}
use Rattle.flow_infer.specs.Heights.{AreAmong}
use Rattle.flow_infer.specs.Sources.{AreLinksUpto}
use Rattle.flow_infer.proofs.links.ways_in.Given as goal

abbrev pub invariant-loop-block : goal.invariant-loop-block
invariant-loop-block l = (l.first ≤ l.block) × (l.block ≤ l.end) × AreAmong l.first (l.end - l.first + 1) l.links.items
    × All (λ link. link.flow ≡ link.count) l.links.items × AreLinksUpto l.source l.first l.end 0 (l.block + 1) l.links.items
