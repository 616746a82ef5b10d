use Rattle.std.proofs.Common.{◌≡◌, take}
use Rattle.std.specs.Prelude.{flat_map}
use Rattle.addr_map.specs.internal.Stretches.{spans_in}
use Rattle.addr_map.proofs.stretches.joined.Given as goal

abbrev pub invariant-loop-stretch : goal.invariant-loop-stretch
invariant-loop-stretch l = l.spans.items ≡ flat_map spans_in (take l.stretch-index l.stretches)
