use Rattle.std.proofs.Common.{◌∙◌, ap}
use Rattle.rv_code.specs.machine.Machine.{put}
use Rattle.rv_memory.specs.Memory.{memory_of}
use Rattle.sym_machine.specs.internal.OtherBytes.{other_byte}
use Rattle.sym_machine.specs.internal.Memory.{byte_over, other_bytes}
use Rattle.sym_machine.proofs.SymbolMemory.{put_symbols}
use Rattle.sym_machine.proofs.SamePuts.{put_same}
use Rattle.sym_machine.proofs.memory.SymMemory.store_symbol.Goals as goal

pub returns-clause-written : goal.returns-clause-written
returns-clause-written c = λ ok q.
    let m = c.args.self.now in
    let b = c.args.bytes in
    let n = c.args.count in
    let others = c.put_symbol.ensures.written q ∙ put_same (other_byte c.reserve.new.self.others)
    (other_byte m.others) c.reserve.ensures.kept c.args.address q (other_bytes b.symbol b.width b.first n) in
    let bytes = ap (λ b. memory_of b q) (c.put_symbol.ensures.space_kept ∙ c.reserve.ensures.space_kept) in
    ap (λ o. byte_over o (memory_of c.put_symbol.new.self.bytes q)) others
    ∙ ap (byte_over (put (other_byte m.others) c.args.address (other_bytes b.symbol b.width b.first n) q)) bytes
    ∙ put_symbols (other_byte m.others) (memory_of m.bytes) c.args.address q b.symbol b.width b.first n
