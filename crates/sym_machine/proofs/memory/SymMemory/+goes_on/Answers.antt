use Rattle.std.proofs.Common.{◌≡◌, ◌∙◌, ◌+◌, ◌-◌, sym, ap, arith, false}
use Rattle.std.specs.Prelude.{◌&&◌}
use Rattle.rv_code.specs.machine.Machine.{plus, memory_bytes}
use Rattle.sym_machine.specs.internal.Memory.{memory_at, is_byte_of}
use Rattle.sym_machine.specs.Values.{are_symbol_bytes}
use Rattle.sym_machine.proofs.SymbolMemory.{memory_none, bytes_step}
use Rattle.sym_machine.proofs.memory.SymMemory.+goes_on.Goals as goal

pub returns-then-count-eq0 : goal.returns-then-count-eq0
returns-then-count-eq0 t c =
    sym (ap (are_symbol_bytes c.args.symbol c.args.width c.args.index)
    (memory_none (memory_at c.args.self.now) c.args.address c.args.count c.if-count-eq0.true))

pub returns-then-not-is_byte_of : goal.returns-then-not-is_byte_of
returns-then-not-is_byte_of t c =
    let memory = memory_at c.args.self.now in
    let rest = are_symbol_bytes c.args.symbol c.args.width (c.args.index + 1)
    (memory_bytes memory (plus c.args.address 1) (c.args.count - 1)) in
    let here : is_byte_of (memory c.args.address) c.args.symbol c.args.width c.args.index ≡ false =
    rw c.byte.ensures at (sym c.is_byte_of.ensures ∙ c.if-not-is_byte_of.true) in
    sym (bytes_step memory c.args.symbol c.args.width c.args.index c.args.address c.args.count (omega arith)
    ∙ ap (λ first. first && rest) here)

pub returns : goal.returns
returns t c =
    let memory = memory_at c.args.self.now in
    let rest = are_symbol_bytes c.args.symbol c.args.width (c.args.index + 1)
    (memory_bytes memory (plus c.args.address 1) (c.args.count - 1)) in
    let here = rw c.byte.ensures at (sym c.is_byte_of.ensures ∙ c.if-not-is_byte_of.false) in
    c.goes_on.ensures ∙ sym (bytes_step memory c.args.symbol c.args.width c.args.index c.args.address c.args.count (omega arith)
    ∙ ap (λ first. first && rest) here)
