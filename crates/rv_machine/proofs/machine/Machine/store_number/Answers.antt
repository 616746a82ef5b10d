use Rattle.std.proofs.Common.{◌≡◌, ◌∙◌, sym, rules, true, refl, IsOk}
use Rattle.rv_code.specs.machine.Machine.{all_may, may_write, low_bytes, put}
use Rattle.run_core.specs.States.{Same}
use Rattle.rv_machine.specs.State.{state_of}
use Rattle.rv_memory.proofs.Spaces.{space_in-keeps}
use Rattle.rv_machine.proofs.machine.Machine.store_number.Goals as goal
use Rattle.rb_bytes.proofs.Results.{from_err}

pub returns : goal.returns
returns c = λ input.
    let s = state_of c.args.self.now input in
    let writable : all_may (may_write s) c.args.address c.args.count ≡ true = sym c.may_all.ensures ∙ c.if-not-may_all.false in
    let ok : IsOk c.store.result = search rules in
    let same : Same (record s {
      pc = c.args.next;
      memory = put s.memory c.args.address (low_bytes c.args.count c.args.value);
    }) (state_of (record { pc = c.args.next; registers = c.args.self.now.registers; memory = c.store.new.self }) input) = record {
      pc_is = refl;
      registers_are = λ r. refl;
      memory_is = λ q. sym (c.store.ensures.written ok q);
      space_is = space_in-keeps c.args.self.now.memory c.store.new.self c.store.ensures.space_kept;
      break_is = sym c.store.ensures.space_kept.break_is;
      input_is = refl;
    } in
    rw writable (tt, same)

pub returns-then-is_err : goal.returns-then-is_err
returns-then-is_err c = λ input.
    let s = state_of c.args.self.now input in
    let writable : all_may (may_write s) c.args.address c.args.count ≡ true = sym c.may_all.ensures ∙ c.if-not-may_all.false in
    let kept = from_err _ c.store.result (sym c.is_err.ensures.value ∙ c.if-is_err.true) c.store.ensures.unwritten in
    let same : Same s (state_of
    (record { pc = c.args.self.now.pc; registers = c.args.self.now.registers; memory = c.store.new.self }) input) = record {
      pc_is = refl;
      registers_are = λ r. refl;
      memory_is = λ q. sym (kept q);
      space_is = space_in-keeps c.args.self.now.memory c.store.new.self c.store.ensures.space_kept;
      break_is = sym c.store.ensures.space_kept.break_is;
      input_is = refl;
    } in
    rw writable same
