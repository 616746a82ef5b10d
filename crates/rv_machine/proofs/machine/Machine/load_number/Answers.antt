use Rattle.std.proofs.Common.{◌≡◌, ◌∙◌, sym, ap, true}
use Rattle.rv_code.specs.machine.Machine.{all_may, may_read, little, memory_bytes}
use Rattle.rv_code.specs.isa.Extension.{bytes_of, extended}
use Rattle.rv_code.specs.machine.Step.{loads, writes_register}
use Rattle.rv_memory.specs.Memory.{memory_of}
use Rattle.rv_machine.specs.State.{state_of}
use Rattle.rv_machine.proofs.Outcomes.{same_outcome}
use Rattle.rv_machine.proofs.machine.Machine.load_number.Goals as goal

pub returns : goal.returns
returns c = λ input.
    let s = state_of c.args.self.now input in
    let readable : all_may (may_read s) c.args.address (bytes_of c.args.extension) ≡ true =
    rw c.bytes-count.ensures at (sym c.may_all.ensures ∙ c.if-not-may_all.false) in
    let value : c.extend.result ≡ extended c.args.extension
    (little (memory_bytes (memory_of c.args.self.now.memory) c.args.address (bytes_of c.args.extension))) =
    c.extend.ensures ∙ ap (extended c.args.extension) (rw c.bytes-count.ensures at c.number-number.ensures.value) in
    same_outcome _ _ c.write_register.result c.args.self.now c.write_register.new.self input
    (ap (writes_register s c.args.next c.args.rd) value
    ∙ ap (loads s c.args.next c.args.rd c.args.extension c.args.address) (sym readable))
    (c.write_register.ensures input)
