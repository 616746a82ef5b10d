use Rattle.std.proofs.Common.{◌≡◌, ◌∙◌, sym, ap, refl, Some}
use Rattle.rv_code.specs.machine.Machine.{set_register}
use Rattle.rv_code.specs.machine.Step.{a0}
use Rattle.rv_memory.specs.Memory.{break_after}
use Rattle.sym_machine.specs.declared.value.Value.TheVariants.{Num}
use Rattle.sym_machine.specs.Values.{number}
use Rattle.sym_machine.specs.MachineState.{state_of}
use Rattle.sym_machine.proofs.CallEffects.{break_same}
use Rattle.sym_machine.proofs.machine.SymMachine.brk.Goals as goal

pub returns-clause-answer : goal.returns-clause-answer
returns-clause-answer c = λ input.
    let s = state_of c.args.self.now input in
    let t = state_of c.return_value.new.self input in
    let m = c.args.self.now.memory in
    let to = c.in-Some.to in
    let found : number (s.registers a0) ≡ Some to = sym c.argument.ensures ∙ c.in-Some.is in
    let state = c.return_value.ensures.state input in
    let break : t.program_break ≡ break_after m.bytes to = sym state.break_is ∙ c.set_break.ensures.moved in
    rw (found, c.return_value.ensures.going) (
      refl,
      break_same s t c.args.next to (sym state.pc_is)
          (λ r. ap (λ n. set_register a0 (Num n) s.registers r) (sym state.break_is) ∙ state.registers_are r)
          (sym c.set_break.ensures.space_kept ∙ state.space_is) state.input_is break
          (λ q. sym (state.memory_is q) ∙ c.set_break.ensures.gained q),
    )
