use Rattle.std.proofs.Common.{◌∙◌, ap, None}
use Rattle.std.specs.Prelude.{◌&&◌, nat_le, nat_lt, if◌then◌else◌}
use Rattle.rv_memory.specs.Memory.{memory_of, may_stand}
use Rattle.sym_machine.specs.internal.OtherBytes.{other_byte}
use Rattle.sym_machine.specs.internal.Memory.{byte_over}
use Rattle.sym_machine.proofs.SymbolMemory.{break_bytes}
use Rattle.sym_machine.proofs.memory.SymMemory.set_break.Goals as goal

pub returns-clause-gained : goal.returns-clause-gained
returns-clause-gained c = λ q.
    let m = c.args.self.now in
    let from = m.bytes.program_break in
    let others = c.clear_run.ensures q
    ∙ ap (λ to. if nat_le from q && nat_lt q to then None else other_byte m.others q) c.set_break.ensures.moved in
    ap (λ o. byte_over o (memory_of c.set_break.new.self q)) others
    ∙ ap (byte_over _) (c.set_break.ensures.gained q)
    ∙ break_bytes (other_byte m.others) (memory_of m.bytes) from c.args.to q (may_stand m.bytes c.args.to)
