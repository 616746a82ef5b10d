use Rattle.std.proofs.Common.{take}
use Rattle.func_place.proofs.Sweep.{IsRun, AreTops}
use Rattle.func_place.proofs.callers.heaviest_of_sorted.Given as goal

abbrev pub invariant-loop-call : goal.invariant-loop-call
invariant-loop-call l =
    IsRun l.calls l.call-index l.run × AreTops l.heats (take l.call-index l.calls) l.heaviest.items l.most.items
