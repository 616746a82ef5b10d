use Rattle.std.proofs.Common.{◌≡◌, ◌∙◌, ◌<◌, sym, ap, refl, Some, true, false, length, []}
use Rattle.std.proofs.lemmas.List.Elements.{All-nil}
use Rattle.std.specs.Io.KnownBytes.{append_known}
use Rattle.rv_code.specs.machine.Machine.{Going, all_may, may_read, memory_bytes, set_register}
use Rattle.rv_code.specs.machine.Step.{a0, a1, buffer_size}
use Rattle.run_core.specs.States.{Same}
use Rattle.run_core.proofs.SameStates.{same_state}
use Rattle.run_core.proofs.Told.{prepend_known-nil}
use Rattle.rv_machine.specs.State.{state_of}
use Rattle.rv_machine.proofs.CallSteps.{after_write, write_event, write_call-writes, write_call-traps, write_writes}
use Rattle.rv_machine.proofs.machine.Machine.write_output.Goals as goal

pub returns-then-not-may_all-clause-answer : goal.returns-then-not-may_all-clause-answer
returns-then-not-may_all-clause-answer g c = λ input ended.
    rw c.trap.ensures (record {
      comes_to = λ input.
          let s = state_of c.args.self.now input in
          let size : c.buffer_size-count.result ≡ buffer_size s = c.buffer_size-count.ensures.is input in
          let may : all_may (may_read s) (s.registers a1) (buffer_size s) ≡ false =
          rw (c.register-address.ensures, size) at (sym c.may_all.ensures ∙ c.if-not-may_all.true) in
          sym (write_call-traps s c.args.next may);
      state_is = λ input. refl;
      left_is = refl;
      taken_is = refl;
    })

pub returns-in-Took-clause-answer : goal.returns-in-Took-clause-answer
returns-in-Took-clause-answer g c = λ input ended.
    let moved = c.deref.result.now in
    rw c.return_value.ensures.going (record {
      read = [];
      bytes = All-nil (λ b. b < 256);
      goes_on = λ rest may.
          let s = state_of c.args.self.now rest in
          let t = state_of c.return_value.new.self rest in
          let size : c.buffer_size-count.result ≡ buffer_size s = c.buffer_size-count.ensures.is rest in
          let may_read_all : all_may (may_read s) (s.registers a1) (buffer_size s) ≡ true =
          rw (c.register-address.ensures, size) at (sym c.may_all.ensures ∙ c.if-not-may_all.false) in
          let moved_is : memory_bytes s.memory (s.registers a1) (buffer_size s) ≡ moved =
          sym (rw (c.register-address.ensures, size) at (c.deref.ensures.value ∙ c.in-Ok.ensures)) in
          let got : length moved ≡ c.in-Took.count = sym c.in-Took.ensures.whole in
          let state = c.return_value.ensures.state rest in
          let same : Same (after_write s c.args.next moved) t = record {
            pc_is = state.pc_is;
            registers_are = λ r. ap (λ n. set_register a0 n s.registers r) got ∙ state.registers_are r;
            memory_is = state.memory_is;
            space_is = state.space_is;
            break_is = state.break_is;
            input_is = state.input_is;
          } in
          record {
            event = Some (write_event s moved);
            comes_to = ap (λ x. Going x (Some (write_event s moved))) (sym (same_state (after_write s c.args.next moved) t same))
                ∙ sym (write_call-writes s c.args.next moved may_read_all moved_is);
            taken_is =
                c.in-Took.ensures.all ∙ ap (append_known (g.O.Sink.seen c.args.out.now).taken) (sym (write_writes s moved));
          };
      read_is = prepend_known-nil input.left;
      end_kept = λ e. (e, refl);
      end_is = λ rightly. rightly;
    })

pub returns-clause-answer : goal.returns-clause-answer
returns-clause-answer g c = λ input ended. record {
  cause = c.in-Failed.ensures.failed refl;
  gives = λ input.
      let moved = c.deref.result.now in
      let s = state_of c.args.self.now input in
      let size : c.buffer_size-count.result ≡ buffer_size s = c.buffer_size-count.ensures.is input in
      let may : all_may (may_read s) (s.registers a1) (buffer_size s) ≡ true =
      rw (c.register-address.ensures, size) at (sym c.may_all.ensures ∙ c.if-not-may_all.false) in
      let moved_is : memory_bytes s.memory (s.registers a1) (buffer_size s) ≡ moved =
      sym (rw (c.register-address.ensures, size) at (c.deref.ensures.value ∙ c.in-Ok.ensures)) in
      record {
        next = after_write s c.args.next moved;
        event = write_event s moved;
        comes_to = sym (write_call-writes s c.args.next moved may moved_is);
        number_is = refl;
        front = c.in-Failed.ensures.front refl;
      };
  left_is = refl;
}
