-- One step of the symbol machine. A step is a list of conditions, each with a reason; the machine is stuck for the
-- reason of the first condition that fails. The order is the same for all instructions: FellOff, Break, CallArg for a
-- register, Operate, Compare, NotCode, EndOfFunction, Access, Hidden, CallArg for a byte that is written, Mixed.
use Rattle.std.specs.Prelude.{◌≡◌, ℕ, ◌*◌, ◌%◌, ◌^◌, ◌||◌, ◌==◌, if◌then◌else◌, Bool, true, false, not, List, [], ◌∷◌}
use Rattle.std.specs.Prelude.{Option, Some, None, length, take, drop, min, map}
use Rattle.std.specs.List.{list_any}
use Rattle.rv_code.specs.declared.action.Extension.{Extension}
use Rattle.rv_code.specs.declared.action.Action.{Action}
use Rattle.rv_code.specs.declared.action.Action.TheVariants.{Compute, Branch, Jump, JumpTo, Upper, UpperPc}
use Rattle.rv_code.specs.declared.action.Action.TheVariants.{Load, Store, Fence, SystemCall, Breakpoint}
use Rattle.rv_code.specs.declared.placed.Placed.{Placed}
use Rattle.rv_code.specs.declared.placed.Func.{Func}
use Rattle.rv_code.specs.declared.placed.Role.{Role}
use Rattle.rv_code.specs.isa.TwosComplement.{unsigned64}
use Rattle.rv_code.specs.isa.Extension.{bytes_of}
use Rattle.rv_code.specs.layout.Flow.{placed_at, action_at}
use Rattle.rv_code.specs.machine.Machine.{plus, set_register, all_may, memory_bytes, put, State, may_read, may_write}
use Rattle.rv_code.specs.machine.Machine.{with_break, Event, Call, Read, Write, Exit, Brk, Unknown, call_of, most_moved}
use Rattle.rv_code.specs.machine.Machine.{bad_file, no_such_call, Outcome, Going, Ended, Halts}
use Rattle.rv_code.specs.machine.Step.{a0, a1, a2, a7}
use Rattle.sym_machine.specs.declared.outcome.Reason.{Reason}
use Rattle.sym_machine.specs.declared.outcome.Reason.TheVariants as reason
use Rattle.sym_machine.specs.declared.value.Pointer.TheVariants.{Ret}
use Rattle.sym_machine.specs.declared.value.CodeSymbol.TheVariants.{Points}
use Rattle.sym_machine.specs.declared.value.Value.{Value}
use Rattle.sym_machine.specs.declared.value.Value.TheVariants.{Num, Sym}
use Rattle.sym_machine.specs.declared.value.MemoryByte.{MemoryByte}
use Rattle.sym_machine.specs.declared.value.MemoryByte.TheVariants.{Byte}
use Rattle.sym_machine.specs.Values.{number, numbers, stored, is_hidden}
use Rattle.sym_machine.specs.Rules.{upper_of_distance, upper_of_address, computed, tested, goal}
use Rattle.sym_machine.specs.Rules.{pointer, destination, place, loaded}

abbrev pub SymState : Type 0
SymState = State Value MemoryByte

abbrev pub SymOutcome : Type 0
SymOutcome = Outcome SymState Reason

-- Conditions.

-- there is a value, and the step goes on with it
abbrev pub needs : {A : Type 0} → SymState → Reason → Option A → (A → SymOutcome) → SymOutcome
needs s why None rest = Halts s.pc why
needs s why (Some x) rest = rest x

-- a test holds
abbrev pub checks : SymState → Reason → Bool → SymOutcome → SymOutcome
checks s why false rest = Halts s.pc why
checks s why true rest = rest

-- Outcomes of a step.

abbrev pub goes_to : SymState → ℕ → SymOutcome
goes_to s next = Going (record s { pc = next }) None

abbrev pub writes_register : SymState → ℕ → ℕ → Value → SymOutcome
writes_register s next rd v = Going (record s { pc = next; registers = set_register rd v s.registers }) None

abbrev pub writes_memory : SymState → ℕ → ℕ → List MemoryByte → SymOutcome
writes_memory s next a bytes = Going (record s { pc = next; memory = put s.memory a bytes }) None

-- a system call returns, with its result in a0
abbrev pub returns : SymState → ℕ → Event → SymOutcome
returns s next e = Going (record s { pc = next; registers = set_register a0 (Num e.result) s.registers }) (Some e)

-- A jump that saves a return address saves a pointer to the point after this call.
abbrev pub jumps : SymState → ℕ → ℕ → SymOutcome
jumps s rd to = writes_register s to rd (Sym (Points (Ret s.pc)))

-- Loads and stores.

abbrev pub loads_at : SymState → ℕ → Extension → ℕ → ℕ → SymOutcome
loads_at s next e rd a =
    checks s reason.Access (all_may (may_read s) a (bytes_of e))
    (checks s reason.Hidden (not (list_any is_hidden (memory_bytes s.memory a (bytes_of e))))
    (needs s reason.Mixed (loaded e (memory_bytes s.memory a (bytes_of e))) (writes_register s next rd)))

abbrev pub loads : SymState → ℕ → Extension → ℕ → Option Value → SymOutcome
loads s next e rd at = needs s reason.Operate at (λ v. needs s reason.Access (number v) (loads_at s next e rd))

abbrev pub stores_at : SymState → ℕ → ℕ → List MemoryByte → ℕ → SymOutcome
stores_at s next n bytes a = checks s reason.Access (all_may (may_write s) a n) (writes_memory s next a bytes)

abbrev pub stores : SymState → ℕ → ℕ → Value → Option Value → SymOutcome
stores s next n value at =
    needs s reason.Operate at
    (λ v. needs s reason.Operate (stored n value) (λ bytes. needs s reason.Access (number v)
    (stores_at s next n bytes)))

-- Branches, and jumps through registers.

abbrev pub branches : SymState → ℕ → ℕ → Bool → Option Bool → SymOutcome
branches s next target true test = needs s reason.Compare test (λ holds. goes_to s (if holds then target else next))
branches s next target false test = needs s reason.Compare test (λ holds. goes_to s (if holds then next else target))

abbrev pub jumps_to : List Func → SymState → Role → ℕ → Value → ℕ → SymOutcome
jumps_to funcs s role rd base offset =
    needs s reason.Operate (goal funcs role base) (λ v.
    needs s reason.NotCode (pointer role offset v) (λ p.
    needs s reason.EndOfFunction (destination funcs p) (jumps s rd)))

-- System calls. Each uses the same arguments whatever its result is.

-- the number in a register that a call uses
abbrev pub argument : SymState → ℕ → (ℕ → SymOutcome) → SymOutcome
argument s r rest = needs s reason.CallArg (number (s.registers r)) rest

abbrev pub three_arguments : SymState → (ℕ → ℕ → ℕ → SymOutcome) → SymOutcome
three_arguments s rest = argument s a0 (λ x. argument s a1 (λ y. argument s a2 (rest x y)))

-- the event of a call that moved these bytes between a file and a buffer, and returned their number
abbrev pub moving_event : ℕ → ℕ → ℕ → ℕ → List ℕ → Event
moving_event number file at size bytes =
    record { number = number; used = file ∷ at ∷ size ∷ []; moved = bytes; result = length bytes }

-- a call with a file that isn't open, whose buffer isn't looked at
abbrev pub refuses_file : SymState → ℕ → ℕ → ℕ → ℕ → ℕ → SymOutcome
refuses_file s next number file at size =
    returns s next (record { number = number; used = file ∷ at ∷ size ∷ []; moved = []; result = bad_file })

-- bytes of the input are put into a buffer, all of which may be written
abbrev pub reads_input : SymState → ℕ → ℕ → ℕ → List ℕ → SymOutcome
reads_input s next at size bytes =
    checks s reason.Access (all_may (may_write s) at (min size most_moved))
    (returns (record s { memory = put s.memory at (map Byte bytes); input = drop (length bytes) s.input }) next
    (moving_event 63 0 at size bytes))

-- the bytes of a buffer are written, all of which may be read
abbrev pub writes_output : SymState → ℕ → ℕ → ℕ → ℕ → List MemoryByte → SymOutcome
writes_output s next file at size held =
    checks s reason.Access (all_may (may_read s) at (min size most_moved))
    (checks s reason.Hidden (not (list_any is_hidden held))
    (needs s reason.CallArg (numbers held) (λ bytes. returns s next (moving_event 64 file at size bytes))))

-- standard input is file 0, standard output and standard error are files 1 and 2
abbrev pub read_call : SymState → ℕ → ℕ → ℕ → ℕ → SymOutcome
read_call s next file at size =
    if file == 0 then reads_input s next at size (take (min size most_moved) s.input) else refuses_file s next 63 file
    at size

abbrev pub write_call : SymState → ℕ → ℕ → ℕ → ℕ → SymOutcome
write_call s next file at size =
    if file == 1 || file == 2
    then writes_output s next file at size (memory_bytes s.memory at (min size most_moved))
    else refuses_file s next 64 file at size

-- the call's result is the break after it
abbrev pub sets_break : SymState → ℕ → ℕ → SymState → SymOutcome
sets_break s next to t = returns t next (record { number = 214; used = to ∷ []; moved = []; result = t.program_break })

abbrev pub calls : SymState → ℕ → ℕ → Call → SymOutcome
calls s next n Read = three_arguments s (read_call s next)
calls s next n Write = three_arguments s (write_call s next)
calls s next n Exit = argument s a0 (λ x. Ended (x % 256))
calls s next n Brk = argument s a0 (λ x. sets_break s next x (with_break (Byte 0) x s))
calls s next n Unknown = returns s next (record { number = n; used = []; moved = []; result = no_such_call })

-- The step.

-- the outcome of an instruction with this role, if the next instruction is at `next`
abbrev pub effect : List Func → Role → Action → ℕ → SymState → SymOutcome
effect funcs role (Compute op rd left right) next s =
    needs s reason.Operate (computed funcs role s.registers op left right) (writes_register s next rd)
effect funcs role (Branch test wanted rs1 rs2 imm) next s =
    branches s next (plus s.pc (unsigned64 imm)) wanted (tested test (s.registers rs1) (s.registers rs2))
effect funcs role (Jump rd imm) next s = jumps s rd (plus s.pc (unsigned64 imm))
effect funcs role (JumpTo rd rs1 imm) next s = jumps_to funcs s role rd (s.registers rs1) (unsigned64 imm)
effect funcs role (Upper rd imm) next s = writes_register s next rd
    (upper_of_address role (unsigned64 imm * 4096 % 2 ^ 64))
effect funcs role (UpperPc rd imm) next s = needs s reason.Operate (upper_of_distance role s.pc)
    (writes_register s next rd)
effect funcs role (Load e rd rs1 imm) next s = loads s next e rd (place funcs role (s.registers rs1) (unsigned64 imm))
effect funcs role (Store n rs1 rs2 imm) next s =
    stores s next n (s.registers rs2) (place funcs role (s.registers rs1) (unsigned64 imm))
effect funcs role Fence next s = goes_to s next
effect funcs role SystemCall next s = argument s a7 (λ n. calls s next n (call_of n))
effect funcs role Breakpoint next s = Halts s.pc reason.Break

-- the instruction that starts at a pc; there is none at an odd pc
abbrev pub instruction : List Func → ℕ → Option Placed
instruction funcs pc = if pc % 2 == 0 then placed_at funcs pc else None

-- the outcome of a step
abbrev pub sym_step : List Func → SymState → SymOutcome
sym_step funcs s = needs s reason.FellOff (instruction funcs s.pc)
    (λ p. effect funcs p.role (action_at p) (plus s.pc p.len) s)

-- The step from s has the outcome o.
abbrev pub SymSteps : List Func → SymState → SymOutcome → Type 0
SymSteps funcs s o = sym_step funcs s ≡ o
