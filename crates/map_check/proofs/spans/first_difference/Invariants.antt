use Rattle.std.proofs.Common.{◌≡◌, drop}
use Rattle.map_check.specs.internal.SpanLists.{first_difference}
use Rattle.map_check.proofs.spans.first_difference.Given as goal

abbrev pub invariant-loop-span : goal.invariant-loop-span
invariant-loop-span l = first_difference l.spans l.addresses ≡ first_difference (drop l.span-index l.spans) l.left
