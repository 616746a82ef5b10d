use Rattle.std.proofs.Common.{◌≡◌, ◌∙◌, ◌<◌, ◌≤◌, sym, ap, subst, refl, arith, ℕ, List, Some, true, length, take, drop, ◌++◌}
use Rattle.std.specs.Prelude.{All, min, map}
use Rattle.std.specs.Io.KnownBytes.{prepend_known}
use Rattle.rv_code.specs.machine.Machine.{Going, all_may, may_write, set_register, most_moved}
use Rattle.rv_code.specs.machine.Step.{a0}
use Rattle.rv_memory.specs.Memory.{writes}
use Rattle.rv_memory.proofs.CodeKept.{all_may_front, writable-keeps}
use Rattle.rv_memory.proofs.Spaces.{space_in-keeps}
use Rattle.run_core.specs.States.{Same}
use Rattle.run_core.proofs.Reading.{takes_all, drops_moved, written_over, none_read}
use Rattle.run_core.proofs.SameStates.{same_state}
use Rattle.sym_machine.specs.declared.value.Value.TheVariants.{Num}
use Rattle.sym_machine.specs.declared.value.MemoryByte.TheVariants.{Byte}
use Rattle.sym_machine.specs.SymStep.{moving_event}
use Rattle.sym_machine.specs.MachineState.{state_of}
use Rattle.sym_machine.specs.internal.Memory.{memory_at}
use Rattle.sym_machine.proofs.SamePuts.{put_same}
use Rattle.sym_machine.proofs.CallEffects.{after_read, reads, read_writes_nothing}
use Rattle.sym_machine.proofs.machine.SymMachine.read_input.Goals as goal

pub returns-in-Bytes-clause-answer : goal.returns-in-Bytes-clause-answer
returns-in-Bytes-clause-answer g c = λ output.
    let old = c.args.self.now in
    let new = c.return_value.new.self in
    let b = c.args.buffer in
    let bytes = c.split_at.result.0.now in
    let count = min b.size most_moved in
    let size : c.count-count.result ≡ count = c.count-count.ensures.is in
    let got : length bytes ≡ c.in-Bytes.got = c.split_at.ensures.front_len in
    let filled : length c.deref_mut.result.now ≡ c.count-count.result =
    ap length c.deref_mut.ensures.value ∙ c.in-Ok.ensures.size in
    let few : length bytes ≤ count = omega (arith, got, c.in-Bytes.ensures.within, c.fill.auto.buffer, filled, size) in
    let from_buffer : bytes ≡ take c.in-Bytes.got c.fill.new.buffer =
    c.split_at.ensures.front ∙ ap (take c.in-Bytes.got)
    (c.deref.ensures.value ∙ written_over c.fill.new.buffer (drop (length c.fill.new.buffer) c.in-Ok.bytes.items)
    c.in-Ok.bytes.len (sym (c.fill.auto.buffer ∙ c.deref_mut.ensures.len))) in
    rw c.return_value.ensures.going (record {
      read = bytes;
      bytes = subst (λ (xs : List ℕ). All (λ b. b < 256) xs) (sym from_buffer) c.in-Bytes.ensures.bytes;
      goes_on = λ rest may.
          let s = state_of old (bytes ++ rest) in
          let t = state_of new rest in
          let takes : take count (bytes ++ rest) ≡ bytes =
          takes_all count bytes rest c.fill.new.self.reached few
          (λ less. c.in-Bytes.ensures.end (omega (arith, less, got, filled, size))) may in
          let may_write_all : all_may (may_write s) b.address count ≡ true =
          rw size at (sym c.may_all.ensures ∙ c.if-not-may_all.false) in
          let state = c.return_value.ensures.state rest in
          let same : Same (after_read s c.args.next b.address bytes) t = record {
            pc_is = state.pc_is;
            registers_are = λ r. ap (λ n. set_register a0 (Num n) s.registers r) got ∙ state.registers_are r;
            memory_is = λ q.
                put_same s.memory (memory_at c.buffer.new.self) (λ x. sym (c.buffer.ensures.kept x)) b.address q (map Byte bytes)
                ∙ sym (c.overwrite.ensures.written q)
                ∙ state.memory_is q;
            space_is =
                space_in-keeps old.memory.bytes c.buffer.new.self.bytes c.buffer.ensures.space_kept
                ∙ space_in-keeps c.buffer.new.self.bytes c.overwrite.new.self.bytes c.overwrite.ensures.space_kept
                ∙ state.space_is;
            break_is = sym c.buffer.ensures.space_kept.break_is ∙ sym c.overwrite.ensures.space_kept.break_is ∙ state.break_is;
            input_is = drops_moved bytes rest ∙ state.input_is;
          } in
          record {
            event = Some (moving_event 63 0 b.address b.size bytes);
            comes_to = ap (λ x. Going x (Some (moving_event 63 0 b.address b.size bytes)))
                (sym (same_state (after_read s c.args.next b.address bytes) t same))
                ∙ sym (reads s c.args.next b.address b.size bytes may_write_all takes);
            taken_is = read_writes_nothing b.address b.size bytes output.taken;
          };
      read_is = c.in-Bytes.ensures.moved ∙ ap (λ xs. prepend_known xs (g.I.Source.seen c.fill.new.input).left) (sym from_buffer);
      end_kept = λ e. (c.in-Bytes.ensures.kept e, none_read bytes c.in-Bytes.got got (c.in-Bytes.ensures.none_after_end e));
      end_is = c.in-Bytes.ensures.rightly;
    })

pub returns-clause-answer : goal.returns-clause-answer
returns-clause-answer g c = λ output. record {
  cause = c.in-Failed.ensures.failed refl;
  asks = λ input.
      let b = c.args.buffer in
      let count = min b.size most_moved in
      let s = state_of c.args.self.now input in
      let size : c.count-count.result ≡ count = c.count-count.ensures.is in
      let may : all_may (may_write s) b.address count ≡ true = rw size at (sym c.may_all.ensures ∙ c.if-not-may_all.false) in
      let filled : length c.deref_mut.result.now ≡ c.count-count.result =
      ap length c.deref_mut.ensures.value ∙ c.in-Ok.ensures.size in
      let some : 0 < count = omega (arith, c.in-Failed.ensures.asked refl, filled, size) in
      record {
        next = after_read s c.args.next b.address (take count input);
        event = moving_event 63 0 b.address b.size (take count input);
        address = b.address;
        count = b.size;
        comes_to = sym (reads s c.args.next b.address b.size (take count input) may refl);
        number_is = refl;
        used_is = refl;
        some = omega (arith, some);
      };
  taken_is = refl;
}

pub overwrite-requires-clause-writable : goal.overwrite-requires-clause-writable
overwrite-requires-clause-writable g c =
    let filled : length c.deref_mut.result.now ≡ c.count-count.result =
    ap length c.deref_mut.ensures.value ∙ c.in-Ok.ensures.size in
    let size : length c.split_at.result.0.now ≤ c.count-count.result =
    omega (arith, c.split_at.ensures.front_len, c.in-Bytes.ensures.within, c.fill.auto.buffer, filled) in
    all_may_front (writes c.buffer.new.self.bytes) c.args.buffer.address
    (length c.split_at.result.0.now) c.count-count.result size
    (writable-keeps c.args.self.now.memory.bytes c.buffer.new.self.bytes c.buffer.ensures.space_kept c.args.buffer.address
    c.count-count.result (sym c.may_all.ensures ∙ c.if-not-may_all.false))

pub returns-in_default-clause-answer : goal.returns-in_default-clause-answer
returns-in_default-clause-answer g c = λ output. record {
  state_is = λ input. same_state _ _ (record {
    pc_is = refl;
    registers_are = λ r. refl;
    memory_is = c.buffer.ensures.kept;
    space_is = sym (space_in-keeps c.args.self.now.memory.bytes c.buffer.new.self.bytes c.buffer.ensures.space_kept);
    break_is = c.buffer.ensures.space_kept.break_is;
    input_is = refl;
  });
  left_is = refl;
  taken_is = refl;
}
