use Rattle.std.proofs.Common.{◌∙◌, sym, ap}
use Rattle.std.specs.Prelude.{not}
use Rattle.rv_memory.specs.Memory.{memory_of}
use Rattle.sym_machine.specs.internal.OtherBytes.{other_byte}
use Rattle.sym_machine.proofs.SymbolMemory.{hidden_any}
use Rattle.sym_machine.proofs.memory.SymMemory.has_hidden.Goals as goal

pub returns : goal.returns
returns c =
    let m = c.args.self.now in
    ap not c.is_each_open.ensures ∙ sym (hidden_any (other_byte m.others) (memory_of m.bytes) c.args.address c.args.count)
