use Rattle.std.proofs.Common.{◌≡◌, ◌∙◌, sym, ap, Some}
use Rattle.std.specs.Prelude.{option_map}
use Rattle.sym_machine.specs.Rules.{place}
use Rattle.sym_machine.specs.Values.{stored}
use Rattle.sym_machine.specs.MachineState.{funcs_of}
use Rattle.sym_machine.specs.internal.Accesses.{stored_bytes}
use Rattle.sym_machine.proofs.machine.SymMachine.store.Goals as goal

pub returns-clause-answer : goal.returns-clause-answer
returns-clause-answer c = λ input.
    let m = c.args.self.now in
    let at : place (funcs_of m) c.args.role c.args.base c.args.offset ≡ Some c.in-Some.at =
    sym c.address_of.ensures ∙ c.in-Some.is in
    let all_stored : stored c.args.count c.args.value ≡ Some (stored_bytes c.args.count c.in-Some-what_to_store.stored) =
    sym c.what_to_store.ensures ∙ ap (option_map (stored_bytes c.args.count)) c.in-Some-what_to_store.is in
    let address = sym c.number.ensures ∙ c.in-Some-number.is in
    rw (at, all_stored, address) (c.store_at.ensures.answer input)
