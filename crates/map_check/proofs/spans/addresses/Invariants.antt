use Rattle.std.proofs.Common.{◌≡◌, take}
use Rattle.map_check.specs.internal.SpanLists.{addresses}
use Rattle.map_check.proofs.spans.addresses.Given as goal

abbrev pub invariant-loop-func : goal.invariant-loop-func
invariant-loop-func l = l.out.items ≡ addresses (take l.func-index l.funcs)
