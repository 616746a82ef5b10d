use Rattle.std.proofs.Common.{◌≡◌, ◌∙◌, sym, ap, refl}
use Rattle.rv_code.specs.machine.Machine.{set_register}
use Rattle.rv_code.specs.machine.Step.{a0}
use Rattle.rv_memory.specs.Memory.{break_after, byte_after}
use Rattle.rv_machine.specs.State.{state_of}
use Rattle.rv_machine.proofs.Breaks.{break_same}
use Rattle.rv_machine.proofs.machine.Machine.brk.Goals as goal

pub returns : goal.returns
returns c = λ input.
    let s = state_of c.args.self.now input in
    let t = state_of c.return_value.new.self input in
    let m = c.args.self.now.memory in
    let to = s.registers a0 in
    let at : c.register-to.result ≡ to = c.register-to.ensures in
    let state = c.return_value.ensures.state input in
    let break : t.program_break ≡ break_after m to = sym state.break_is ∙ c.set_break.ensures.moved ∙ ap (break_after m) at in
    rw c.return_value.ensures.going (
      refl,
      break_same s t c.args.next to (sym state.pc_is)
          (λ r. ap (λ n. set_register a0 n s.registers r) (sym state.break_is) ∙ state.registers_are r)
          (sym c.set_break.ensures.space_kept ∙ state.space_is) state.input_is break
          (λ q. sym (state.memory_is q) ∙ c.set_break.ensures.gained q ∙ ap (λ n. byte_after m n q) at),
    )
