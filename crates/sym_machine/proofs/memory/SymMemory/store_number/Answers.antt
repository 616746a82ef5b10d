use Rattle.std.proofs.Common.{◌∙◌, sym, ap, refl, None, length}
use Rattle.std.specs.Prelude.{replicate}
use Rattle.rv_code.specs.machine.Machine.{put, low_bytes}
use Rattle.rv_memory.specs.Memory.{memory_of}
use Rattle.sym_machine.specs.internal.OtherBytes.{other_byte}
use Rattle.sym_machine.specs.internal.Memory.{byte_over}
use Rattle.sym_machine.proofs.SymbolMemory.{put_numbers}
use Rattle.rv_code.proofs.machine.LowBytes.{length_low_bytes}
use Rattle.sym_machine.proofs.memory.SymMemory.store_number.Goals as goal

pub returns-clause-written : goal.returns-clause-written
returns-clause-written c = λ ok q.
    let m = c.args.self.now in
    let low = low_bytes c.args.count c.args.number in
    let size = length_low_bytes c.args.count c.args.number in
    let others = c.clear.ensures.cleared q ∙ ap (λ n. put (other_byte m.others) c.args.address (replicate n None) q) (sym size) in
    let bytes = ap (λ b. memory_of b q) c.clear.ensures.bytes ∙ c.in_ok-store.ensures.written refl q in
    ap (λ o. byte_over o (memory_of c.clear.new.self.bytes q)) others
    ∙ ap (byte_over (put (other_byte m.others) c.args.address (replicate (length low) None) q)) bytes
    ∙ put_numbers (other_byte m.others) (memory_of m.bytes) c.args.address q low
