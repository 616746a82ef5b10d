use Rattle.std.proofs.Common.{arith}
use Rattle.rv_memory.specs.Pages.{page_byte}
use Rattle.rv_memory.proofs.CodeKept.{code_cleared}
use Rattle.std.proofs.lemmas.Bool.{le-leb}
use Rattle.std.proofs.lemmas.Grind.{common_steps}
use Rattle.rv_memory.proofs.AddressRuns.{break_moved}
use Rattle.rv_memory.proofs.memory.Memory.set_break.Goals as goal

pub invariant_of-self-clause-code_stays : goal.invariant_of-self-clause-code_stays
invariant_of-self-clause-code_stays c =
    code_cleared c.args.self.now (page_byte c.clear_run.new.self) c.args.to (omega arith) c.clear_run.ensures

pub returns-clause-gained : goal.returns-clause-gained
returns-clause-gained c = grind (arith, common_steps, le-leb, break_moved)
