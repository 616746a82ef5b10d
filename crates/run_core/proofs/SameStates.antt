-- States that are equal at each register and at each address are equal.
use Rattle.std.proofs.Common.{◌≡◌, arith}
use Rattle.std.proofs.Math.Path.{fun_ext}
use Rattle.std.proofs.lemmas.Grind.{common_steps}
use Rattle.rv_code.specs.machine.Machine.{State}
use Rattle.run_core.specs.States.{Same}

pub same_state : {V X : Type 0} (s t : State V X) → Same s t → s ≡ t
same_state s t same = grind (arith, common_steps, fun_ext)
