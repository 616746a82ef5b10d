-- One step of the byte machine, for each instruction.
use Rattle.std.specs.Prelude.{◌≡◌, ℕ, ◌*◌, ◌/◌, ◌%◌, ◌^◌, ◌&&◌, ◌||◌, ◌==◌, Bool, true, false, not, List, [], ◌∷◌}
use Rattle.std.specs.Prelude.{Option, Some, None, length, take, drop, min}
use Rattle.rv_code.specs.declared.inst.Inst.{Inst}
use Rattle.rv_code.specs.declared.cause.Cause.{Cause}
use Rattle.rv_code.specs.declared.cause.Cause.TheVariants as cause
use Rattle.rv_code.specs.declared.action.Operand.{Operand}
use Rattle.rv_code.specs.declared.action.Operand.TheVariants.{Register, Immediate}
use Rattle.rv_code.specs.declared.action.Extension.{Extension}
use Rattle.rv_code.specs.declared.action.Action.{Action}
use Rattle.rv_code.specs.declared.action.Action.TheVariants.{Compute, Branch, Jump, JumpTo, Upper, UpperPc, Load, Store}
use Rattle.rv_code.specs.declared.action.Action.TheVariants.{Fence, SystemCall, Breakpoint}
use Rattle.rv_code.specs.isa.Action.{action_of}
use Rattle.rv_code.specs.isa.InstBytes.{Decodes}
use Rattle.rv_code.specs.isa.Op.{apply, holds}
use Rattle.rv_code.specs.isa.Extension.{bytes_of, extended}
use Rattle.rv_code.specs.isa.TwosComplement.{unsigned64}
use Rattle.rv_code.specs.machine.Machine.{plus, set_register, all_may, memory_bytes, put, little, low_bytes, State}
use Rattle.rv_code.specs.machine.Machine.{may_read, may_write, may_execute, with_break, Event, Call, Read, Write, Exit}
use Rattle.rv_code.specs.machine.Machine.{Brk, Unknown, call_of, most_moved, bad_file, no_such_call, Outcome, Going}
use Rattle.rv_code.specs.machine.Machine.{Ended, Halts}

-- Registers have 64-bit numbers, and memory has bytes.
abbrev pub ByteState : Type 0
ByteState = State ℕ ℕ

abbrev pub ByteOutcome : Type 0
ByteOutcome = Outcome ByteState Cause

abbrev pub trap : ByteState → Cause → ByteOutcome
trap s c = Halts s.pc c

-- Continues at a pc.
abbrev pub goes_to : ByteState → ℕ → ByteOutcome
goes_to s next = Going (record s { pc = next }) None

-- Continues at the target if the branch is taken, and at the next instruction otherwise.
abbrev pub branches : ByteState → ℕ → ℕ → Bool → ByteOutcome
branches s next target true = goes_to s target
branches s next target false = goes_to s next

-- Continues at a pc after writing a register.
abbrev pub writes_register : ByteState → ℕ → ℕ → ℕ → ByteOutcome
writes_register s next rd value = Going (record s { pc = next; registers = set_register rd value s.registers }) None

abbrev pub operand : ByteState → Operand → ℕ
operand s (Register r) = s.registers r
operand s (Immediate imm) = unsigned64 imm

-- The address given by a register and an offset.
abbrev pub address : ByteState → ℕ → ℕ → ℕ
address s rs1 offset = plus (s.registers rs1) offset

-- Loads the number at an address if it may be read.
abbrev pub loads : ByteState → ℕ → ℕ → Extension → ℕ → Bool → ByteOutcome
loads s next rd e a true = writes_register s next rd (extended e (little (memory_bytes s.memory a (bytes_of e))))
loads s next rd e a false = trap s cause.Load

-- Stores bytes at an address if they may be written.
abbrev pub stores : ByteState → ℕ → ℕ → List ℕ → Bool → ByteOutcome
stores s next a bytes true = Going (record s { pc = next; memory = put s.memory a bytes }) None
stores s next a bytes false = trap s cause.Store

-- Registers of the calling convention. psABI, "Integer Register Convention".
abbrev pub a0 : ℕ
a0 = 10

abbrev pub a1 : ℕ
a1 = 11

abbrev pub a2 : ℕ
a2 = 12

abbrev pub a7 : ℕ
a7 = 17

-- A system call returns, with its result in a0.
abbrev pub returns : ByteState → ℕ → Event → ByteOutcome
returns s next e = Going (record s { pc = next; registers = set_register a0 e.result s.registers }) (Some e)

-- read: moves bytes of the input to a buffer if all of the buffer may be written.
abbrev pub reads_input : ByteState → ℕ → ℕ → List ℕ → Bool → ByteOutcome
reads_input s next at moved true =
    returns (record s { memory = put s.memory at moved; input = drop (length moved) s.input }) next
    (record { number = 63; used = 0 ∷ at ∷ s.registers a2 ∷ []; moved = moved; result = length moved })
reads_input s next at moved false = trap s cause.Store

-- write: outputs the bytes of a buffer if all of it may be read.
abbrev pub writes_output : ByteState → ℕ → ℕ → List ℕ → Bool → ByteOutcome
writes_output s next file moved true =
    returns s next
    (record { number = 64; used = file ∷ s.registers a1 ∷ s.registers a2 ∷ []; moved = moved; result = length moved })
writes_output s next file moved false = trap s cause.Load

-- read and write of a file that isn't open. The buffer isn't accessed.
abbrev pub refuses_file : ByteState → ℕ → ℕ → ByteOutcome
refuses_file s next number =
    returns s next
    (record {
      number = number;
      used = s.registers a0 ∷ s.registers a1 ∷ s.registers a2 ∷ [];
      moved = [];
      result = bad_file;
    })

-- brk: the result is the break after the call.
abbrev pub sets_break : ByteState → ℕ → ByteState → ByteOutcome
sets_break s next t = returns t next (record {
  number = 214;
  used = s.registers a0 ∷ [];
  moved = [];
  result = t.program_break;
})

-- The size of the buffer at a1: the number in a2, at most 65536.
abbrev pub buffer_size : ByteState → ℕ
buffer_size s = min (s.registers a2) most_moved

-- read, of standard input or of another file.
abbrev pub read_call : ByteState → ℕ → Bool → ByteOutcome
read_call s next true =
    reads_input s next (s.registers a1) (take (buffer_size s) s.input)
    (all_may (may_write s) (s.registers a1) (buffer_size s))
read_call s next false = refuses_file s next 63

-- write, to standard output, standard error or another file.
abbrev pub write_call : ByteState → ℕ → Bool → ByteOutcome
write_call s next true =
    writes_output s next (s.registers a0) (memory_bytes s.memory (s.registers a1) (buffer_size s))
    (all_may (may_read s) (s.registers a1) (buffer_size s))
write_call s next false = refuses_file s next 64

abbrev pub calls : ByteState → ℕ → Call → ByteOutcome
calls s next Read = read_call s next (s.registers a0 == 0)
calls s next Write = write_call s next (s.registers a0 == 1 || s.registers a0 == 2)
calls s next Exit = Ended (s.registers a0 % 256)
calls s next Brk = sets_break s next (with_break 0 (s.registers a0) s)
calls s next Unknown = returns s next (record { number = s.registers a7; used = []; moved = []; result = no_such_call })

-- The effect of an instruction, if the next instruction in memory is at `next`.
abbrev pub effect : Action → ℕ → ByteState → ByteOutcome
effect (Compute op rd left right) next s = writes_register s next rd (apply op (operand s left) (operand s right))
effect (Branch test true rs1 rs2 imm) next s =
    branches s next (plus s.pc (unsigned64 imm)) (holds test (s.registers rs1) (s.registers rs2))
effect (Branch test false rs1 rs2 imm) next s =
    branches s next (plus s.pc (unsigned64 imm)) (not (holds test (s.registers rs1) (s.registers rs2)))
effect (Jump rd imm) next s = writes_register s (plus s.pc (unsigned64 imm)) rd next
effect (JumpTo rd rs1 imm) next s = writes_register s (address s rs1 (unsigned64 imm) / 2 * 2) rd next
effect (Upper rd imm) next s = writes_register s next rd (unsigned64 imm * 4096 % 2 ^ 64)
effect (UpperPc rd imm) next s = writes_register s next rd (plus s.pc (unsigned64 imm * 4096 % 2 ^ 64))
effect (Load e rd rs1 imm) next s =
    loads s next rd e (address s rs1 (unsigned64 imm)) (all_may (may_read s) (address s rs1 (unsigned64 imm))
    (bytes_of e))
effect (Store n rs1 rs2 imm) next s =
    stores s next (address s rs1 (unsigned64 imm)) (low_bytes n (s.registers rs2))
    (all_may (may_write s) (address s rs1 (unsigned64 imm)) n)
effect Fence next s = goes_to s next
effect SystemCall next s = calls s next (call_of (s.registers a7))
effect Breakpoint next s = trap s cause.Break

abbrev pub halfword : ByteState → ℕ → ℕ
halfword s a = little (memory_bytes s.memory a 2)

-- The input of the decoder: the halfword at the pc, and the next halfword if the low bits of the first are 11, which
-- begin a longer instruction. ISA manual, section 1.5.
abbrev pub parcels : ByteState → Bool → Bool → Option (ℕ × Option ℕ)
parcels s false more = Some (halfword s s.pc, None)
parcels s true true = Some (halfword s s.pc, Some (halfword s (plus s.pc 2)))
parcels s true false = None

-- Nothing is fetched at an odd pc, or if a byte of these halfwords may not be executed.
abbrev pub fetched_if : ByteState → Bool → Option (ℕ × Option ℕ)
fetched_if s true = parcels s (halfword s s.pc % 4 == 3) (all_may (may_execute s) (plus s.pc 2) 2)
fetched_if s false = None

abbrev pub fetched : ByteState → Option (ℕ × Option ℕ)
fetched s = fetched_if s (s.pc % 2 == 0 && all_may (may_execute s) s.pc 2)

-- `o` is an outcome of the step from `s`.
pub data Steps (s : ByteState) (o : ByteOutcome) : Type 0 where
  no_fetch : fetched s ≡ None → o ≡ trap s cause.Fetch → Steps s o
  illegal : (h : ℕ) (k : Option ℕ) → fetched s ≡ Some (h, k) → ((i : Inst) (w : ℕ) → Decodes h k i w → ⊥) →
      o ≡ trap s cause.Illegal → Steps s o
  does : (h : ℕ) (k : Option ℕ) (i : Inst) (w : ℕ) → fetched s ≡ Some (h, k) → Decodes h k i w →
      o ≡ effect (action_of i) (plus s.pc w) s → Steps s o
