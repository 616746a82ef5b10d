use Rattle.std.proofs.Common.{◌≡◌, length, take}
use Rattle.std.specs.List.{sum_by}
use Rattle.bolt_core.proofs.counting.count_insts.Given as goal

-- the instructions of the functions so far
abbrev pub invariant-loop-func : goal.invariant-loop-func
invariant-loop-func l = l.count ≡ sum_by (λ f. length f.insts.items) (take l.func-index l.funcs)
