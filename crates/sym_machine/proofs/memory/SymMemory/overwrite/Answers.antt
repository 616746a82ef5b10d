use Rattle.std.proofs.Common.{◌∙◌, ap, None, length}
use Rattle.std.specs.Prelude.{replicate}
use Rattle.rv_code.specs.machine.Machine.{put}
use Rattle.rv_memory.specs.Memory.{memory_of}
use Rattle.sym_machine.specs.internal.OtherBytes.{other_byte}
use Rattle.sym_machine.specs.internal.Memory.{byte_over}
use Rattle.sym_machine.proofs.SymbolMemory.{put_numbers}
use Rattle.sym_machine.proofs.memory.SymMemory.overwrite.Goals as goal

pub returns-clause-written : goal.returns-clause-written
returns-clause-written c = λ q.
    let m = c.args.self.now in
    let new = c.args.bytes.now in
    let bytes = ap (λ b. memory_of b q) c.clear.ensures.bytes ∙ c.overwrite.ensures.written q in
    ap (λ o. byte_over o (memory_of c.clear.new.self.bytes q)) (c.clear.ensures.cleared q)
    ∙ ap (byte_over (put (other_byte m.others) c.args.address (replicate (length new) None) q)) bytes
    ∙ put_numbers (other_byte m.others) (memory_of m.bytes) c.args.address q new
