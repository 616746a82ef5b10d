-- The outcomes of system calls that read and write, by the tests that the machine makes.
use Rattle.std.proofs.Common.{◌≡◌, refl, ℕ, List, Option, Some, None, Bool, true, false, length, take, drop, append-nil, rules}
use Rattle.std.specs.Prelude.{◌&&◌, nat_le, nat_lt, if◌then◌else◌, map, min}
use Rattle.std.specs.List.{list_any}
use Rattle.std.specs.Io.KnownBytes.{append_known}
use Rattle.rv_code.specs.machine.Machine.{Call, events, output, Going, Halts, all_may, put, set_register, may_read, may_write}
use Rattle.rv_code.specs.machine.Machine.{with_break, most_moved, call_of}
use Rattle.rv_code.specs.machine.Step.{a0, a7}
use Rattle.run_core.specs.States.{Same}
use Rattle.run_core.proofs.Told.{append_known-nil}
use Rattle.sym_machine.specs.declared.calls.Buffer.{Buffer}
use Rattle.sym_machine.specs.declared.outcome.Reason.TheVariants as reason
use Rattle.sym_machine.specs.declared.value.Value.TheVariants.{Num}
use Rattle.sym_machine.specs.declared.value.MemoryByte.{MemoryByte}
use Rattle.sym_machine.specs.declared.value.MemoryByte.TheVariants.{Byte}
use Rattle.sym_machine.specs.Values.{number, numbers, is_hidden}
use Rattle.sym_machine.specs.SymStep.{SymState, SymOutcome, moving_event, reads_input, writes_output, argument, three_arguments, calls}
use Rattle.sym_machine.specs.SymStep.{needs}
use Rattle.sym_machine.specs.internal.Calls.{buffer_of, buffer_in}

-- The arguments.

abbrev with_buffer : (ℕ → ℕ → ℕ → SymOutcome) → Buffer → SymOutcome
with_buffer rest b = rest b.file b.address b.size

three_are : (s : SymState) (rest : ℕ → ℕ → ℕ → SymOutcome) (x y z : Option ℕ) →
    needs s reason.CallArg x (λ f. needs s reason.CallArg y (λ a. needs s reason.CallArg z (rest f a)))
    ≡ needs s reason.CallArg (buffer_of x y z) (with_buffer rest)
three_are s rest None y z = refl
three_are s rest (Some x) None z = refl
three_are s rest (Some x) (Some y) None = refl
three_are s rest (Some x) (Some y) (Some z) = refl

pub arguments_found : (s : SymState) (rest : ℕ → ℕ → ℕ → SymOutcome) (b : Buffer) → buffer_in s.registers ≡ Some b →
    three_arguments s rest ≡ rest b.file b.address b.size
arguments_found s rest b is = search (rules, three_are)

pub called : (s : SymState) (next n : ℕ) (call : Call) → number (s.registers a7) ≡ Some n → call_of n ≡ call →
    argument s a7 (λ m. calls s next m (call_of m)) ≡ calls s next n call
called s next n call is call_is = rw (is, call_is) refl

-- Reading.

abbrev pub after_read : SymState → ℕ → ℕ → List ℕ → SymState
after_read s next at bytes =
    record s {
      pc = next;
      registers = set_register a0 (Num (length bytes)) s.registers;
      memory = put s.memory at (map Byte bytes);
      input = drop (length bytes) s.input;
    }

pub reads : (s : SymState) (next at size : ℕ) (bytes : List ℕ) → all_may (may_write s) at (min size most_moved) ≡ true →
    take (min size most_moved) s.input ≡ bytes →
    reads_input s next at size (take (min size most_moved) s.input)
    ≡ Going (after_read s next at bytes) (Some (moving_event 63 0 at size bytes))
reads s next at size bytes may is = rw (may, is) refl

pub read_writes_nothing : (at size : ℕ) (bytes : List ℕ) (known : Option (List ℕ)) →
    known ≡ append_known known (output (events (Some (moving_event 63 0 at size bytes))))
unfolding output
read_writes_nothing at size bytes known = append_known-nil known

-- Writing.

abbrev pub after_write : SymState → ℕ → List ℕ → SymState
after_write s next bytes = record s { pc = next; registers = set_register a0 (Num (length bytes)) s.registers }

pub writes : (s : SymState) (next file at size : ℕ) (held : List MemoryByte) (bytes : List ℕ) →
    all_may (may_read s) at (min size most_moved) ≡ true →
    list_any is_hidden held ≡ false → numbers held ≡ Some bytes →
    writes_output s next file at size held ≡ Going (after_write s next bytes) (Some (moving_event 64 file at size bytes))
writes s next file at size held bytes may all_open is = rw (may, all_open, is) refl

pub writes_symbols : (s : SymState) (next file at size : ℕ) (held : List MemoryByte) →
    all_may (may_read s) at (min size most_moved) ≡ true →
    list_any is_hidden held ≡ false → numbers held ≡ None → writes_output s next file at size held ≡ Halts s.pc reason.CallArg
writes_symbols s next file at size held may all_open is = rw (may, all_open, is) refl

pub write_writes : (file at size : ℕ) (bytes : List ℕ) → output (events (Some (moving_event 64 file at size bytes))) ≡ bytes
unfolding output
write_writes file at size bytes = append-nil bytes

-- The break.

pub break_same : (s t : SymState) (next to : ℕ) →
    t.pc ≡ next → ((r : ℕ) → set_register a0 (Num t.program_break) s.registers r ≡ t.registers r) →
    s.space ≡ t.space → s.input ≡ t.input →
    t.program_break ≡ (if nat_le s.space.break_start to && nat_le to s.space.break_bound then to else s.program_break) →
    ((q : ℕ) → t.memory q ≡ (if nat_le s.space.break_start to && nat_le to s.space.break_bound
    then (if nat_le s.program_break q && nat_lt q to then Byte 0 else s.memory q) else s.memory q)) →
    Same (record (with_break (Byte 0) to s) {
      pc = next;
      registers = set_register a0 (Num (with_break (Byte 0) to s).program_break) (with_break (Byte 0) to s).registers;
    }) t
break_same s t next to pc registers space input break memory =
    cases (nat_le s.space.break_start to && nat_le to s.space.break_bound) break memory
  where
    after : Bool → SymState
    after b = if b then record s {
      program_break = to;
      memory = λ a. if nat_le s.program_break a && nat_lt a to then Byte 0 else s.memory a;
    } else s

    cases : (b : Bool) → t.program_break ≡ (if b then to else s.program_break) → ((q : ℕ) →
        t.memory q ≡ (if b then (if nat_le s.program_break q && nat_lt q to then Byte 0 else s.memory q) else s.memory q)) →
        Same (record (after b) { pc = next; registers = set_register a0 (Num (after b).program_break) (after b).registers }) t
    cases true break memory = search rules
    cases false break memory = search rules
