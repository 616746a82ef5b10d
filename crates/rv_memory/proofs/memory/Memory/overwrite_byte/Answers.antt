use Rattle.rv_memory.specs.Pages.{page_byte}
use Rattle.rv_memory.proofs.CodeKept.{code_put_byte}
use Rattle.rv_memory.proofs.memory.Memory.overwrite_byte.Goals as goal

pub invariant_of-self-clause-code_stays : goal.invariant_of-self-clause-code_stays
invariant_of-self-clause-code_stays c =
    code_put_byte c.args.self.now
    (page_byte c.put_byte.new.self) c.args.address c.args.byte c.requires.writable c.put_byte.ensures
