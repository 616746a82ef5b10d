use Rattle.std.proofs.Common.{rules}
use Rattle.rv_machine.proofs.machine.Machine.write_register.Goals as goal
use Rattle.rv_machine.proofs.machine.Machine.write_register.Goals.{then-rd-ne0, else-rd-ne0}

pub returns : goal.returns
returns c = elim c.if-rd-ne0.branch [ then-rd-ne0 w ↦ search rules | else-rd-ne0 w ↦ search rules ]
