use Rattle.std.proofs.Common.{◌≡◌, ◌∙◌, sym, rules, true, refl, IsOk}
use Rattle.rv_code.specs.machine.Machine.{all_may, may_write, put}
use Rattle.rv_memory.proofs.Spaces.{space_in-keeps}
use Rattle.run_core.specs.States.{Same}
use Rattle.sym_machine.specs.MachineState.{state_of}
use Rattle.sym_machine.specs.internal.Accesses.{stored_bytes}
use Rattle.rb_bytes.proofs.Results.{from_err}
use Rattle.sym_machine.proofs.machine.SymMachine.store_at.Goals as goal

pub returns-clause-answer : goal.returns-clause-answer
returns-clause-answer c = λ input.
    let m = c.args.self.now in
    let s = state_of m input in
    let writable : all_may (may_write s) c.args.address c.args.count ≡ true = sym c.may_all.ensures ∙ c.if-not-may_all.false in
    let ok : IsOk c.store.result = search rules in
    let same : Same (record s {
      pc = c.args.next;
      memory = put s.memory c.args.address (stored_bytes c.args.count c.args.stored);
    }) (state_of (record { pc = c.args.next; registers = m.registers; memory = c.store.new.self; code = m.code }) input) =
    record {
      pc_is = refl;
      registers_are = λ r. refl;
      memory_is = λ q. sym (c.store.ensures.written ok q);
      space_is = space_in-keeps m.memory.bytes c.store.new.self.bytes c.store.ensures.space_kept;
      break_is = sym c.store.ensures.space_kept.break_is;
      input_is = refl;
    } in
    rw writable (tt, same)

pub returns-then-is_err-clause-answer : goal.returns-then-is_err-clause-answer
returns-then-is_err-clause-answer c = λ input.
    let m = c.args.self.now in
    let s = state_of m input in
    let writable : all_may (may_write s) c.args.address c.args.count ≡ true = sym c.may_all.ensures ∙ c.if-not-may_all.false in
    let kept = from_err _ c.store.result (sym c.is_err.ensures.value ∙ c.if-is_err.true) c.store.ensures.unwritten in
    let same : Same s (state_of (record { pc = m.pc; registers = m.registers; memory = c.store.new.self; code = m.code }) input) =
    record {
      pc_is = refl;
      registers_are = λ r. refl;
      memory_is = λ q. sym (kept q);
      space_is = space_in-keeps m.memory.bytes c.store.new.self.bytes c.store.ensures.space_kept;
      break_is = sym c.store.ensures.space_kept.break_is;
      input_is = refl;
    } in
    rw writable same
