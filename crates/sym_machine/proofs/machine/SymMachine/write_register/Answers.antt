use Rattle.std.proofs.Common.{rules}
use Rattle.sym_machine.proofs.machine.SymMachine.write_register.Goals as goal
use Rattle.sym_machine.proofs.machine.SymMachine.write_register.Goals.{then-rd-ne0, else-rd-ne0}

pub returns-clause-answer : goal.returns-clause-answer
returns-clause-answer c = elim c.if-rd-ne0.branch [ then-rd-ne0 w ↦ search rules | else-rd-ne0 w ↦ search rules ]
