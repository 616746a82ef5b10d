use Rattle.std.proofs.Common.{◌∙◌, sym}
use Rattle.sym_machine.specs.MachineState.{state_of, funcs_of}
use Rattle.sym_machine.proofs.Effects.{jumps_found}
use Rattle.sym_machine.proofs.machine.SymMachine.jump_to.Goals as goal

pub returns : goal.returns
returns c = λ input.
    c.jump.ensures input
    ∙ sym (jumps_found (funcs_of c.args.self.now) (state_of c.args.self.now input) c.args.role c.args.rd c.args.offset c.args.base
    c.in-Some.value c.in-Some-pointer.to c.in-Some-destination.target
    (sym c.goal.ensures ∙ c.in-Some.is) (sym c.pointer.ensures ∙ c.in-Some-pointer.is)
    (sym c.destination.ensures ∙ c.in-Some-destination.is))
