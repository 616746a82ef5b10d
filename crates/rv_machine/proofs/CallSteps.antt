-- System calls that read and write, by the tests that the machine makes.
use Rattle.std.proofs.Common.{◌≡◌, ℕ, List, [], ◌∷◌, Option, Some, true, false, refl, length, take, drop, append-nil}
use Rattle.std.specs.Io.KnownBytes.{append_known}
use Rattle.rv_code.specs.machine.Machine.{Event, events, output, Going, Halts, all_may, memory_bytes, put, set_register, may_read}
use Rattle.rv_code.specs.machine.Machine.{may_write}
use Rattle.rv_code.specs.declared.cause.Cause.TheVariants as cause
use Rattle.rv_code.specs.machine.Step.{ByteState, a0, a1, a2, buffer_size, read_call, write_call}
use Rattle.run_core.proofs.Told.{append_known-nil}

abbrev pub read_event : ByteState → List ℕ → Event
read_event s moved = record { number = 63; used = 0 ∷ s.registers a1 ∷ s.registers a2 ∷ []; moved = moved; result = length moved }

abbrev pub after_read : ByteState → ℕ → List ℕ → ByteState
after_read s next moved = record s {
  pc = next;
  registers = set_register a0 (length moved) s.registers;
  memory = put s.memory (s.registers a1) moved;
  input = drop (length moved) s.input;
}

pub read_call-reads : (s : ByteState) (next : ℕ) (moved : List ℕ) →
    all_may (may_write s) (s.registers a1) (buffer_size s) ≡ true → take (buffer_size s) s.input ≡ moved →
    read_call s next true ≡ Going (after_read s next moved) (Some (read_event s moved))
read_call-reads s next moved may is = rw (may, is) refl

pub read_call-traps : (s : ByteState) (next : ℕ) → all_may (may_write s) (s.registers a1) (buffer_size s) ≡ false →
    read_call s next true ≡ Halts s.pc cause.Store
read_call-traps s next may = rw may refl

abbrev pub write_event : ByteState → List ℕ → Event
write_event s moved =
    record { number = 64; used = s.registers a0 ∷ s.registers a1 ∷ s.registers a2 ∷ []; moved = moved; result = length moved }

abbrev pub after_write : ByteState → ℕ → List ℕ → ByteState
after_write s next moved = record s { pc = next; registers = set_register a0 (length moved) s.registers }

pub write_call-writes : (s : ByteState) (next : ℕ) (moved : List ℕ) → all_may (may_read s) (s.registers a1) (buffer_size s)
    ≡ true → memory_bytes s.memory (s.registers a1) (buffer_size s) ≡ moved →
    write_call s next true ≡ Going (after_write s next moved) (Some (write_event s moved))
write_call-writes s next moved may is = rw (may, is) refl

pub write_call-traps : (s : ByteState) (next : ℕ) → all_may (may_read s) (s.registers a1) (buffer_size s) ≡ false →
    write_call s next true ≡ Halts s.pc cause.Load
write_call-traps s next may = rw may refl

-- calls that write

pub read_writes_nothing : (s : ByteState) (moved : List ℕ) (known : Option (List ℕ)) →
    known ≡ append_known known (output (events (Some (read_event s moved))))
unfolding output
read_writes_nothing s moved known = append_known-nil known

pub write_writes : (s : ByteState) (moved : List ℕ) → output (events (Some (write_event s moved))) ≡ moved
unfolding output
write_writes s moved = append-nil moved
