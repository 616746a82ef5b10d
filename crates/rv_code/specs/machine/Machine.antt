-- Parts shared by the byte machine and the symbol machine: registers and memory over any type of value, access rights,
-- the program break, system calls, and runs.
use Rattle.std.specs.Prelude.{◌≡◌, ℕ, zero, suc, ◌+◌, ◌-◌, ◌*◌, ◌/◌, ◌%◌, ◌^◌, ◌&&◌, ◌||◌, ◌==◌, nat_lt, nat_le}
use Rattle.std.specs.Prelude.{if◌then◌else◌, Bool, true, List, [], ◌∷◌, ◌++◌, Option, Some, None}

-- Addresses are 64-bit numbers, and sums of addresses wrap. ISA manual, section 1.4.
abbrev pub plus : ℕ → ℕ → ℕ
plus a b = (a + b) % 2 ^ 64

-- The registers after a write to one. Writes to register 0 are ignored. ISA manual, section 2.1.
abbrev pub set_register : {V : Type 0} → ℕ → V → (ℕ → V) → ℕ → V
set_register zero v registers = registers
set_register (suc r) v registers = λ q. if q == suc r then v else registers q

-- Each of the n addresses from `a` on passes the test.
unfoldable pub all_may : (ℕ → Bool) → ℕ → ℕ → Bool
all_may may a zero = true
all_may may a (suc n) = may a && all_may may (plus a 1) n

-- The n bytes from address `a` on.
unfoldable pub memory_bytes : {C : Type 0} → (ℕ → C) → ℕ → ℕ → List C
memory_bytes memory a zero = []
memory_bytes memory a (suc n) = memory a ∷ memory_bytes memory (plus a 1) n

-- The memory after these bytes are stored at address `a`.
unfoldable pub put : {C : Type 0} → (ℕ → C) → ℕ → List C → ℕ → C
put memory a [] q = memory q
put memory a (c ∷ cs) q = if q == a then c else put memory (plus a 1) cs q

-- Numbers in memory are little-endian. ISA manual, section 2.6.
unfoldable pub little : List ℕ → ℕ
little [] = 0
little (b ∷ bs) = b + 256 * little bs

-- The n low bytes of a number.
unfoldable pub low_bytes : ℕ → ℕ → List ℕ
low_bytes zero x = []
low_bytes (suc n) x = x % 256 ∷ low_bytes n (x / 256)

-- The permissions that a file and its stack give a program for a whole run.
pub record Space : Type 0 where
  -- Addresses that the program may read, write and execute, without the memory that its break gains.
  pub reads : ℕ → Bool
  pub writes : ℕ → Bool
  pub executes : ℕ → Bool
  -- The start of the program break, and its upper bound.
  pub break_start : ℕ
  pub break_bound : ℕ

-- The state of a machine between two steps, with registers of type V and memory bytes of type C.
pub record State (V C : Type 0) : Type 0 where
  pub pc : ℕ
  pub registers : ℕ → V
  pub memory : ℕ → C
  pub space : Space
  -- The current program break: the end of the memory that the program asked for.
  pub program_break : ℕ
  -- The rest of standard input.
  pub input : List ℕ

-- The address is in the memory that the program asked for.
abbrev pub in_break : {V C : Type 0} → State V C → ℕ → Bool
in_break s a = nat_le s.space.break_start a && nat_lt a s.program_break

abbrev pub may_read : {V C : Type 0} → State V C → ℕ → Bool
may_read s a = s.space.reads a || in_break s a

abbrev pub may_write : {V C : Type 0} → State V C → ℕ → Bool
may_write s a = s.space.writes a || in_break s a

abbrev pub may_execute : {V C : Type 0} → State V C → ℕ → Bool
may_execute s a = s.space.executes a

-- The break is set as asked if the new break is between its start and its bound. Gained bytes are zero, also those that
-- were given back before.
abbrev pub with_break : {V C : Type 0} → C → ℕ → State V C → State V C
with_break nought to s =
    if nat_le s.space.break_start to && nat_le to s.space.break_bound
    then record s {
      program_break = to;
      memory = λ a. if nat_le s.program_break a && nat_lt a to then nought else s.memory a;
    }
    else s

-- A system call that returned: its number, the arguments that it uses, the bytes that it moved in or out, and its
-- result.
pub record Event : Type 0 where
  pub number : ℕ
  pub used : List ℕ
  pub moved : List ℕ
  pub result : ℕ

-- System calls by their numbers in Linux's generic table (asm-generic/unistd.h). Linux's syscall(2) on RISC-V: the
-- number is in a7, the arguments are in a0 to a2, and the result is in a0.
pub data Call : Type 0 where
  Read : Call
  Write : Call
  Exit : Call
  Brk : Call
  Unknown : Call

abbrev pub call_of : ℕ → Call
call_of n =
    if n == 63 then Read else if n == 64 then Write else if n == 93
    || n == 94 then Exit else if n == 214 then Brk else Unknown

-- The most bytes that one call moves.
abbrev pub most_moved : ℕ
most_moved = 65536

-- The result for an error: the negative of its number in Linux.
abbrev pub error_result : ℕ → ℕ
error_result number = 2 ^ 64 - number

-- EBADF, for a file that isn't open, and ENOSYS, for a call that doesn't exist.
abbrev pub bad_file : ℕ
bad_file = error_result 9

abbrev pub no_such_call : ℕ
no_such_call = error_result 38

-- The outcome of a step, on a machine with states S and causes C: it goes on, possibly with a system call; it ends with
-- an exit status; or it halts at a pc.
pub data Outcome (S C : Type 0) : Type 0 where
  Going : S → Option Event → Outcome S C
  Ended : ℕ → Outcome S C
  Halts : ℕ → C → Outcome S C

abbrev pub events : Option Event → List Event
events None = []
events (Some e) = e ∷ []

-- The first n steps from s neither end nor halt, make the system calls `trace`, and reach a state.
pub data SoFar {S C : Type 0} (step : S → Outcome S C → Type 0) (s : S) : ℕ → List Event → S → Type 0 where
  starts : SoFar step s 0 [] s
  more : {n : ℕ} {trace : List Event} {t u : S} (e : Option Event) → SoFar step s n trace t → step t (Going u e) →
      SoFar step s (suc n) (trace ++ events e) u

-- The n-th step from s ends with this status, and the steps before it make the system calls `trace`. The last step is
-- counted, but its exit call isn't in `trace`.
pub record Run {S C : Type 0} (step : S → Outcome S C → Type 0) (s : S) (n : ℕ) (trace : List Event)
    (status : ℕ) : Type 0 where
  pub before : ℕ
  pub last : n ≡ suc before
  pub state : S
  pub so_far : SoFar step s before trace state
  pub ends : step state (Ended status)

-- After n steps that neither end nor halt, the next step halts at this pc for this cause.
pub record HaltsAfter {S C : Type 0} (step : S → Outcome S C → Type 0) (s : S) (n : ℕ) (trace : List Event) (pc : ℕ)
    (cause : C) : Type 0 where
  pub state : S
  pub so_far : SoFar step s n trace state
  pub halts : step state (Halts pc cause)

-- The bytes that a program wrote.
unfoldable pub output : List Event → List ℕ
output [] = []
output (e ∷ es) = (if e.number == 64 then e.moved else []) ++ output es
