use Rattle.std.proofs.Common.{◌≡◌, ◌∙◌, sym, ap, true, false, Some}
use Rattle.std.specs.Prelude.{option_map}
use Rattle.rv_code.specs.machine.Machine.{all_may, little}
use Rattle.rv_memory.specs.Memory.{memory_of}
use Rattle.sym_machine.specs.internal.OtherBytes.{other_byte}
use Rattle.sym_machine.specs.internal.Memory.{is_number_at}
use Rattle.sym_machine.proofs.SymbolMemory.{numbers_all, numbers_none}
use Rattle.sym_machine.proofs.memory.SymMemory.number.Goals as goal

pub returns-then-not-are_numbers-clause-value : goal.returns-then-not-are_numbers-clause-value
returns-then-not-are_numbers-clause-value c =
    let m = c.args.self.now in
    let none : all_may (is_number_at m) c.args.address c.args.count ≡ false =
    sym c.are_numbers.ensures ∙ c.if-not-are_numbers.true in
    sym (ap (option_map little) (numbers_none (other_byte m.others) (memory_of m.bytes) c.args.address c.args.count none))

pub returns-clause-value : goal.returns-clause-value
returns-clause-value c =
    let m = c.args.self.now in
    let all : all_may (is_number_at m) c.args.address c.args.count ≡ true =
    sym c.are_numbers.ensures ∙ c.if-not-are_numbers.false in
    ap Some c.number.ensures.value
    ∙ sym (ap (option_map little) (numbers_all (other_byte m.others) (memory_of m.bytes) c.args.address c.args.count all))
