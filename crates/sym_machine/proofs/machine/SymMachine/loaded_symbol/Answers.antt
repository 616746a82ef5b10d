use Rattle.std.proofs.Common.{◌∙◌, sym}
use Rattle.rv_code.specs.machine.Machine.{memory_bytes}
use Rattle.sym_machine.specs.internal.Memory.{memory_at}
use Rattle.sym_machine.proofs.Effects.{loaded_is}
use Rattle.sym_machine.proofs.machine.SymMachine.loaded_symbol.Goals as goal

pub returns : goal.returns
returns c =
    c.piece.ensures
    ∙ loaded_is c.args.extension (memory_bytes (memory_at c.args.self.now.memory) c.args.address c.args.count) c.in_ok-bytes.bytes
    (sym c.symbol.ensures ∙ c.in_ok-bytes.was)
