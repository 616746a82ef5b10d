use Rattle.std.proofs.Common.{◌≡◌, ◌∙◌, sym, ap, true, Some, ℕ}
use Rattle.std.specs.Prelude.{option_map}
use Rattle.rv_code.specs.isa.Extension.{bytes_of}
use Rattle.rv_code.specs.machine.Machine.{all_may, may_read, memory_bytes, little}
use Rattle.sym_machine.specs.declared.value.Value.TheVariants.{Num}
use Rattle.sym_machine.specs.SymStep.{writes_register}
use Rattle.sym_machine.specs.Values.{numbers}
use Rattle.sym_machine.specs.MachineState.{state_of}
use Rattle.sym_machine.proofs.Effects.{loads_number}
use Rattle.sym_machine.proofs.machine.SymMachine.load_at.Goals as goal

pub returns-in-Some : goal.returns-in-Some
returns-in-Some c = λ input.
    let s = state_of c.args.self.now input in
    let may : all_may (may_read s) c.args.address (bytes_of c.args.extension) ≡ true =
    rw c.bytes-count.ensures at (sym c.may_all.ensures ∙ c.if-not-may_all.false) in
    let value : Some c.in-Some.number
    ≡ option_map little (numbers (memory_bytes s.memory c.args.address (bytes_of c.args.extension))) =
    rw c.bytes-count.ensures at c.in-Some.ensures.value in
    ap (λ (n : ℕ). writes_register s c.args.next c.args.rd (Num n)) c.extend.ensures
    ∙ sym (loads_number s c.args.next c.args.extension c.args.rd c.args.address c.in-Some.number may value)
