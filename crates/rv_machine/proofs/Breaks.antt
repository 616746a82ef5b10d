-- The state after a call of brk.
use Rattle.std.proofs.Common.{◌≡◌, ◌∙◌, sym, ap, ℕ, Bool, true, false}
use Rattle.std.specs.Prelude.{◌&&◌, nat_le, nat_lt, if◌then◌else◌}
use Rattle.rv_code.specs.machine.Machine.{set_register, with_break}
use Rattle.rv_code.specs.machine.Step.{ByteState, a0}
use Rattle.run_core.specs.States.{Same}

-- the state after brk was asked to move the break to `to`
pub break_same : (s t : ByteState) (next to : ℕ) →
    t.pc ≡ next → ((r : ℕ) → set_register a0 t.program_break s.registers r ≡ t.registers r) →
    s.space ≡ t.space → s.input ≡ t.input →
    t.program_break ≡ (if nat_le s.space.break_start to && nat_le to s.space.break_bound then to else s.program_break) →
    ((q : ℕ) → t.memory q ≡ (if nat_le s.space.break_start to && nat_le to s.space.break_bound
    then (if nat_le s.program_break q && nat_lt q to then 0 else s.memory q) else s.memory q)) →
    Same (record (with_break 0 to s) {
      pc = next;
      registers = set_register a0 (with_break 0 to s).program_break (with_break 0 to s).registers;
    }) t
break_same s t next to pc registers space input break memory =
    cases (nat_le s.space.break_start to && nat_le to s.space.break_bound) break memory
  where
    after : Bool → ByteState
    after b = if b then record s {
      program_break = to;
      memory = λ a. if nat_le s.program_break a && nat_lt a to then 0 else s.memory a;
    } else s

    cases : (b : Bool) → t.program_break ≡ (if b then to else s.program_break) →
        ((q : ℕ) → t.memory q ≡ (if b then (if nat_le s.program_break q && nat_lt q to then 0 else s.memory q) else s.memory q)) →
        Same (record (after b) { pc = next; registers = set_register a0 (after b).program_break (after b).registers }) t
    cases true break memory = record {
      pc_is = sym pc;
      registers_are = λ r. ap (λ n. set_register a0 n s.registers r) (sym break) ∙ registers r;
      memory_is = λ q. sym (memory q);
      space_is = space;
      break_is = sym break;
      input_is = input;
    }
    cases false break memory = record {
      pc_is = sym pc;
      registers_are = λ r. ap (λ n. set_register a0 n s.registers r) (sym break) ∙ registers r;
      memory_is = λ q. sym (memory q);
      space_is = space;
      break_is = sym break;
      input_is = input;
    }
