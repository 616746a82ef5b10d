use Rattle.std.proofs.Common.{refl}
use Rattle.sym_machine.proofs.machine.SymMachine.refuse_file.Goals as goal

pub returns-clause-answer : goal.returns-clause-answer
returns-clause-answer c = λ input number file at size. rw c.return_value.ensures.going (refl, c.return_value.ensures.state input)
