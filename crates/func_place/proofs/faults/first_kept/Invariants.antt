use Rattle.std.proofs.Common.{ℕ, ◌<◌, get_or}
use Rattle.rv_code.specs.declared.placed.Func.{Func}
use Rattle.func_place.specs.internal.FirstFaults.{StaysIn}
use Rattle.func_place.proofs.faults.first_kept.Given as goal

abbrev pub invariant-loop-func : goal.invariant-loop-func
invariant-loop-func l = (k : ℕ) (d : Func) → k < l.func-index → StaysIn (get_or l.funcs k d)
