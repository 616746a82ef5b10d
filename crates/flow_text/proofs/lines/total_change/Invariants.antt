use Rattle.std.proofs.Common.{◌≡◌, take}
use Rattle.flow_infer.specs.Flows.{change}
use Rattle.flow_text.proofs.lines.total_change.Given as goal

abbrev pub invariant-loop-link : goal.invariant-loop-link
invariant-loop-link l = l.total ≡ change (take l.link-index l.links)
