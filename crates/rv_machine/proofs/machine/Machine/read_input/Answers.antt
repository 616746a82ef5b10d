use Rattle.std.proofs.Common.{◌≡◌, ◌∙◌, ◌<◌, ◌≤◌, sym, ap, subst, refl, arith, ℕ, List, Some, true, false, length, take, drop, [], ◌++◌}
use Rattle.std.specs.Prelude.{All}
use Rattle.std.specs.Io.KnownBytes.{prepend_known}
use Rattle.rv_code.specs.machine.Machine.{Going, all_may, may_write, put, set_register}
use Rattle.rv_code.specs.machine.Step.{a0, a1, a2, buffer_size}
use Rattle.rv_memory.specs.Memory.{memory_of}
use Rattle.run_core.specs.States.{Same}
use Rattle.run_core.proofs.Reading.{takes_all, drops_moved, written_over, none_read}
use Rattle.run_core.proofs.SameStates.{same_state}
use Rattle.rv_machine.specs.State.{state_of}
use Rattle.rv_memory.proofs.Spaces.{space_in-keeps}
use Rattle.rv_memory.specs.Memory.{writes}
use Rattle.rv_memory.proofs.CodeKept.{all_may_front, writable-keeps}
use Rattle.rv_memory.proofs.MemoryBytes.{put_same}
use Rattle.rv_machine.proofs.CallSteps.{after_read, read_event, read_call-reads, read_call-traps, read_writes_nothing}
use Rattle.rv_machine.proofs.machine.Machine.read_input.Goals as goal

pub returns-then-not-may_all-clause-answer : goal.returns-then-not-may_all-clause-answer
returns-then-not-may_all-clause-answer g c = λ output.
    rw c.trap.ensures (record {
      comes_to = λ input.
          let s = state_of c.args.self.now input in
          let size : c.buffer_size-count.result ≡ buffer_size s = c.buffer_size-count.ensures.is input in
          let may : all_may (may_write s) (s.registers a1) (buffer_size s) ≡ false =
          rw (c.register-address.ensures, size) at (sym c.may_all.ensures ∙ c.if-not-may_all.true) in
          sym (read_call-traps s c.args.next may);
      state_is = λ input. refl;
      left_is = refl;
      taken_is = refl;
    })

pub returns-in-Bytes-clause-answer : goal.returns-in-Bytes-clause-answer
returns-in-Bytes-clause-answer g c = λ output.
    let old = c.args.self.now in
    let new = c.return_value.new.self in
    let moved = c.split_at.result.0.now in
    let address : c.register-address.result ≡ (state_of old []).registers a1 = c.register-address.ensures in
    let size : c.buffer_size-count.result ≡ buffer_size (state_of old []) = c.buffer_size-count.ensures.is [] in
    let got : length moved ≡ c.in-Bytes.got = c.split_at.ensures.front_len in
    let filled : length c.deref_mut.result.now ≡ c.buffer_size-count.result =
    ap length c.deref_mut.ensures.value ∙ c.in-Ok.ensures.size in
    let few : length moved ≤ buffer_size (state_of old []) =
    omega (arith, got, c.in-Bytes.ensures.within, c.fill.auto.buffer, filled, size) in
    let from_buffer : moved ≡ take c.in-Bytes.got c.fill.new.buffer =
    c.split_at.ensures.front ∙ ap (take c.in-Bytes.got)
    (c.deref.ensures.value ∙ written_over c.fill.new.buffer (drop (length c.fill.new.buffer) c.in-Ok.buffer.items)
    c.in-Ok.buffer.len (sym (c.fill.auto.buffer ∙ c.deref_mut.ensures.len))) in
    rw c.return_value.ensures.going (record {
      read = moved;
      bytes = subst (λ (xs : List ℕ). All (λ b. b < 256) xs) (sym from_buffer) c.in-Bytes.ensures.bytes;
      goes_on = λ rest may.
          let s = state_of old (moved ++ rest) in
          let t = state_of new rest in
          let takes : take (buffer_size s) (moved ++ rest) ≡ moved =
          takes_all (buffer_size s) moved rest c.fill.new.self.reached few
          (λ less. c.in-Bytes.ensures.end (omega (arith, less, got, filled, size))) may in
          let may_write_all : all_may (may_write s) (s.registers a1) (buffer_size s) ≡ true =
          rw (address, size) at (sym c.may_all.ensures ∙ c.if-not-may_all.false) in
          let state = c.return_value.ensures.state rest in
          let same : Same (after_read s c.args.next moved) t = record {
            pc_is = state.pc_is;
            registers_are = λ r. ap (λ n. set_register a0 n s.registers r) got ∙ state.registers_are r;
            memory_is = λ q.
                ap (λ a. put s.memory a moved q) (sym address)
                ∙ put_same s.memory (memory_of c.buffer.new.self)
                (λ x. sym (c.buffer.ensures.kept x)) c.register-address.result q moved
                ∙ sym (c.overwrite.ensures.written q)
                ∙ state.memory_is q;
            space_is =
                space_in-keeps old.memory c.buffer.new.self c.buffer.ensures.space_kept
                ∙ space_in-keeps c.buffer.new.self c.overwrite.new.self c.overwrite.ensures.space_kept
                ∙ state.space_is;
            break_is = sym c.buffer.ensures.space_kept.break_is ∙ sym c.overwrite.ensures.space_kept.break_is ∙ state.break_is;
            input_is = drops_moved moved rest ∙ state.input_is;
          } in
          record {
            event = Some (read_event s moved);
            comes_to = ap (λ x. Going x (Some (read_event s moved))) (sym (same_state (after_read s c.args.next moved) t same))
                ∙ sym (read_call-reads s c.args.next moved may_write_all takes);
            taken_is = read_writes_nothing s moved output.taken;
          };
      read_is = c.in-Bytes.ensures.moved ∙ ap (λ xs. prepend_known xs (g.I.Source.seen c.fill.new.input).left) (sym from_buffer);
      end_kept = λ e. (c.in-Bytes.ensures.kept e, none_read moved c.in-Bytes.got got (c.in-Bytes.ensures.none_after_end e));
      end_is = c.in-Bytes.ensures.rightly;
    })

pub returns-clause-answer : goal.returns-clause-answer
returns-clause-answer g c = λ output. record {
  cause = c.in-Failed.ensures.failed refl;
  asks = λ input.
      let s = state_of c.args.self.now input in
      let size : c.buffer_size-count.result ≡ buffer_size s = c.buffer_size-count.ensures.is input in
      let may : all_may (may_write s) (s.registers a1) (buffer_size s) ≡ true =
      rw (c.register-address.ensures, size) at (sym c.may_all.ensures ∙ c.if-not-may_all.false) in
      let filled : length c.deref_mut.result.now ≡ c.buffer_size-count.result =
      ap length c.deref_mut.ensures.value ∙ c.in-Ok.ensures.size in
      let some : 0 < buffer_size s = omega (arith, c.in-Failed.ensures.asked refl, filled, size) in
      record {
        next = after_read s c.args.next (take (buffer_size s) input);
        event = read_event s (take (buffer_size s) input);
        address = s.registers a1;
        count = s.registers a2;
        comes_to = sym (read_call-reads s c.args.next (take (buffer_size s) input) may refl);
        number_is = refl;
        used_is = refl;
        some = omega (arith, some);
      };
  taken_is = refl;
}

pub overwrite-requires-clause-writable : goal.overwrite-requires-clause-writable
overwrite-requires-clause-writable g c =
    let filled : length c.deref_mut.result.now ≡ c.buffer_size-count.result =
    ap length c.deref_mut.ensures.value ∙ c.in-Ok.ensures.size in
    let size : length c.split_at.result.0.now ≤ c.buffer_size-count.result =
    omega (arith, c.split_at.ensures.front_len, c.in-Bytes.ensures.within, c.fill.auto.buffer, filled) in
    all_may_front (writes c.buffer.new.self) c.register-address.result
    (length c.split_at.result.0.now) c.buffer_size-count.result size
    (writable-keeps c.args.self.now.memory c.buffer.new.self c.buffer.ensures.space_kept c.register-address.result
    c.buffer_size-count.result (sym c.may_all.ensures ∙ c.if-not-may_all.false))

pub returns-in_default-clause-answer : goal.returns-in_default-clause-answer
returns-in_default-clause-answer g c = λ output. record {
  state_is = λ input. same_state _ _ (record {
    pc_is = refl;
    registers_are = λ r. refl;
    memory_is = c.buffer.ensures.kept;
    space_is = sym (space_in-keeps c.args.self.now.memory c.buffer.new.self c.buffer.ensures.space_kept);
    break_is = c.buffer.ensures.space_kept.break_is;
    input_is = refl;
  });
  left_is = refl;
  taken_is = refl;
}
