use Rattle.std.proofs.Common.{ℕ, ◌≡◌, ◌<◌, false, get_or}
use Rattle.rv_code.specs.declared.placed.Placed.{Placed}
use Rattle.func_place.specs.Faults.{leaves}
use Rattle.func_place.proofs.faults.first_leaving.Given as goal

abbrev pub invariant-loop-inst : goal.invariant-loop-inst
invariant-loop-inst l = (k : ℕ) (d : Placed) → k < l.inst-index → leaves l.func (get_or l.inst-items k d) ≡ false
