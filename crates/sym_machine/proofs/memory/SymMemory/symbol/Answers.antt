use Rattle.std.proofs.Common.{◌≡◌, ◌∙◌, sym, ap, arith, None, Some, false, true}
use Rattle.sym_machine.specs.internal.Memory.{memory_at, symbol_in, symbol_byte}
use Rattle.sym_machine.proofs.SymbolMemory.{memory_none, symbol_none, symbol_some}
use Rattle.sym_machine.proofs.memory.SymMemory.symbol.Goals as goal

pub returns-then-count-eq0 : goal.returns-then-count-eq0
returns-then-count-eq0 c =
    sym (ap symbol_in (memory_none (memory_at c.args.self.now) c.args.address c.args.count c.if-count-eq0.true))

pub returns-in_err-bytes : goal.returns-in_err-bytes
returns-in_err-bytes c =
    rw c.from_residual.ensures (let memory = memory_at c.args.self.now in
    let none : symbol_byte (memory c.args.address) ≡ None = rw c.byte.ensures at (sym c.symbol_byte.ensures ∙ c.in_err-bytes.was) in
    sym (symbol_none memory c.args.address c.args.count (omega arith) none))

pub returns-then-not-goes_on : goal.returns-then-not-goes_on
returns-then-not-goes_on c =
    let memory = memory_at c.args.self.now in
    let is : symbol_byte (memory c.args.address) ≡ Some c.in_ok-bytes.bytes =
    rw c.byte.ensures at (sym c.symbol_byte.ensures ∙ c.in_ok-bytes.was) in
    sym (symbol_some memory c.args.address c.args.count c.in_ok-bytes.bytes false (omega arith) is
    (sym c.goes_on.ensures ∙ c.if-not-goes_on.true))

pub returns : goal.returns
returns c =
    let memory = memory_at c.args.self.now in
    let is : symbol_byte (memory c.args.address) ≡ Some c.in_ok-bytes.bytes =
    rw c.byte.ensures at (sym c.symbol_byte.ensures ∙ c.in_ok-bytes.was) in
    sym (symbol_some memory c.args.address c.args.count c.in_ok-bytes.bytes true (omega arith) is
    (sym c.goes_on.ensures ∙ c.if-not-goes_on.false))
