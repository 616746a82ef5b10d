use Rattle.std.proofs.Common.{◌≡◌, ◌∙◌, ◌<◌, sym, ap, refl, Some, None, true, false, length, []}
use Rattle.std.proofs.lemmas.List.Elements.{All-nil}
use Rattle.std.specs.Prelude.{min}
use Rattle.std.specs.List.{list_any}
use Rattle.std.specs.Io.KnownBytes.{append_known}
use Rattle.rv_code.specs.machine.Machine.{Going, all_may, may_read, memory_bytes, set_register, most_moved}
use Rattle.rv_code.specs.machine.Step.{a0}
use Rattle.rv_memory.specs.Memory.{memory_of}
use Rattle.run_core.specs.States.{Same}
use Rattle.run_core.proofs.SameStates.{same_state}
use Rattle.run_core.proofs.Told.{prepend_known-nil}
use Rattle.sym_machine.specs.declared.value.Value.TheVariants.{Num}
use Rattle.sym_machine.specs.SymStep.{moving_event}
use Rattle.sym_machine.specs.Values.{numbers, is_hidden}
use Rattle.sym_machine.specs.MachineState.{state_of}
use Rattle.sym_machine.specs.internal.OtherBytes.{other_byte}
use Rattle.sym_machine.proofs.SymbolMemory.{numbers_none}
use Rattle.sym_machine.proofs.CallEffects.{after_write, writes, writes_symbols, write_writes}
use Rattle.sym_machine.proofs.machine.SymMachine.write_output.Goals as goal

pub returns-then-not-are_numbers-clause-answer : goal.returns-then-not-are_numbers-clause-answer
returns-then-not-are_numbers-clause-answer g c = λ input ended.
    rw c.stuck-then-not-are_numbers.ensures (record {
      comes_to = λ input.
          let m = c.args.self.now.memory in
          let b = c.args.buffer in
          let s = state_of c.args.self.now input in
          let size : c.count-count.result ≡ min b.size most_moved = c.count-count.ensures.is in
          let may : all_may (may_read s) b.address (min b.size most_moved) ≡ true =
          rw size at (sym c.may_all.ensures ∙ c.if-not-may_all.false) in
          let all_open : list_any is_hidden (memory_bytes s.memory b.address (min b.size most_moved)) ≡ false =
          rw size at (sym c.has_hidden.ensures ∙ c.if-has_hidden.false) in
          let none : numbers (memory_bytes s.memory b.address (min b.size most_moved)) ≡ None =
          rw size at (numbers_none (other_byte m.others) (memory_of m.bytes) b.address c.count-count.result
          (sym c.are_numbers.ensures ∙ c.if-not-are_numbers.true)) in
          sym (writes_symbols s c.args.next b.file b.address b.size
          (memory_bytes s.memory b.address (min b.size most_moved)) may all_open none);
      state_is = λ input. refl;
      left_is = refl;
      taken_is = refl;
    })

pub returns-in-Took-clause-answer : goal.returns-in-Took-clause-answer
returns-in-Took-clause-answer g c = λ input ended.
    let bytes = c.deref.result.now in
    let b = c.args.buffer in
    rw c.return_value.ensures.going (record {
      read = [];
      bytes = All-nil (λ b. b < 256);
      goes_on = λ rest may.
          let s = state_of c.args.self.now rest in
          let t = state_of c.return_value.new.self rest in
          let size : c.count-count.result ≡ min b.size most_moved = c.count-count.ensures.is in
          let may_read_all : all_may (may_read s) b.address (min b.size most_moved) ≡ true =
          rw size at (sym c.may_all.ensures ∙ c.if-not-may_all.false) in
          let all_open : list_any is_hidden (memory_bytes s.memory b.address (min b.size most_moved)) ≡ false =
          rw size at (sym c.has_hidden.ensures ∙ c.if-has_hidden.false) in
          let all : numbers (memory_bytes s.memory b.address (min b.size most_moved)) ≡ Some bytes =
          (rw size at c.in-Ok.ensures) ∙ ap Some (sym c.deref.ensures.value) in
          let got : length bytes ≡ c.in-Took.count = sym c.in-Took.ensures.whole in
          let state = c.return_value.ensures.state rest in
          let same : Same (after_write s c.args.next bytes) t = record {
            pc_is = state.pc_is;
            registers_are = λ r. ap (λ n. set_register a0 (Num n) s.registers r) got ∙ state.registers_are r;
            memory_is = state.memory_is;
            space_is = state.space_is;
            break_is = state.break_is;
            input_is = state.input_is;
          } in
          record {
            event = Some (moving_event 64 b.file b.address b.size bytes);
            comes_to = ap (λ x. Going x (Some (moving_event 64 b.file b.address b.size bytes)))
                (sym (same_state (after_write s c.args.next bytes) t same))
                ∙ sym (writes s c.args.next b.file b.address b.size
                (memory_bytes s.memory b.address (min b.size most_moved)) bytes may_read_all all_open all);
            taken_is = c.in-Took.ensures.all
                ∙ ap (append_known (g.O.Sink.seen c.args.out.now).taken) (sym (write_writes b.file b.address b.size bytes));
          };
      read_is = prepend_known-nil input.left;
      end_kept = λ e. (e, refl);
      end_is = λ rightly. rightly;
    })

pub returns-clause-answer : goal.returns-clause-answer
returns-clause-answer g c = λ input ended. record {
  cause = c.in-Failed.ensures.failed refl;
  gives = λ input.
      let bytes = c.deref.result.now in
      let b = c.args.buffer in
      let s = state_of c.args.self.now input in
      let size : c.count-count.result ≡ min b.size most_moved = c.count-count.ensures.is in
      let may : all_may (may_read s) b.address (min b.size most_moved) ≡ true =
      rw size at (sym c.may_all.ensures ∙ c.if-not-may_all.false) in
      let all_open : list_any is_hidden (memory_bytes s.memory b.address (min b.size most_moved)) ≡ false =
      rw size at (sym c.has_hidden.ensures ∙ c.if-has_hidden.false) in
      let all : numbers (memory_bytes s.memory b.address (min b.size most_moved)) ≡ Some bytes =
      (rw size at c.in-Ok.ensures) ∙ ap Some (sym c.deref.ensures.value) in
      record {
        next = after_write s c.args.next bytes;
        event = moving_event 64 b.file b.address b.size bytes;
        comes_to = sym (writes s c.args.next b.file b.address b.size
            (memory_bytes s.memory b.address (min b.size most_moved)) bytes may all_open all);
        number_is = refl;
        front = c.in-Failed.ensures.front refl;
      };
  left_is = refl;
}
