-- Related states: of the symbol machine on the input, and of the byte machine on the output.
use Rattle.std.specs.Prelude.{◌≡◌, ℕ, ◌%◌, ◌≤◌, ◌||◌, Bool, false, IsTrue, IsSomeAnd, Some, Any}
use Rattle.rv_code.specs.declared.placed.Role.{Role}
use Rattle.rv_code.specs.declared.placed.Role.TheVariants as role
use Rattle.rv_code.specs.declared.cell.CellKind.TheVariants as kind
use Rattle.rv_code.specs.layout.ProgramCode.{is_code_address, IsNamed}
use Rattle.rv_code.specs.layout.Flow.{action_at, is_call, placed_at}
use Rattle.rv_code.specs.machine.Machine.{State, Space, may_read, may_write, may_execute}
use Rattle.rv_code.specs.machine.Step.{ByteState}
use Rattle.elf_image.specs.declared.segment.TheConstants.{PF_W}
use Rattle.elf_image.specs.memory.Image.{is_loaded_with}
use Rattle.rv_memory.specs.Start.{space_of}
use Rattle.sym_machine.specs.declared.value.Pointer.{Pointer}
use Rattle.sym_machine.specs.declared.value.Pointer.TheVariants.{Code, Ret}
use Rattle.sym_machine.specs.declared.value.CodeSymbol.{CodeSymbol}
use Rattle.sym_machine.specs.declared.value.CodeSymbol.TheVariants.{Points, Hi, Abs, Diff, Apart}
use Rattle.sym_machine.specs.declared.value.Value.{Value}
use Rattle.sym_machine.specs.declared.value.Value.TheVariants.{Num, Sym, Piece}
use Rattle.sym_machine.specs.declared.value.MemoryByte.{MemoryByte}
use Rattle.sym_machine.specs.declared.value.MemoryByte.TheVariants.{Byte, SymbolByte, Hidden}
use Rattle.sym_machine.specs.Values.{IsValue, IsMemoryByte}
use Rattle.sym_machine.specs.SymStep.{SymState}
use Rattle.move_law.specs.Rewrite.{Rewrite, out}
use Rattle.elf_image.specs.memory.Executables.{memory_of}
use Rattle.move_law.specs.RelocatedValues.{number_of_symbol, number_of_value, bytes_from}

-- The symbols that can occur in a run of the input: a pointer to a named address, or to the point after a call; the
-- upper part of an AUIPC with a target, or of a LUI; a difference that a cell holds.

-- an AUIPC with a target
abbrev pub HasTarget : Role → Type 0
HasTarget (role.Hi target) = Unit {0}
HasTarget (role.CallHi target) = Unit {0}
HasTarget _ = ⊥

abbrev pub IsGivenPointer : Rewrite → Pointer → Type 0
IsGivenPointer r (Code a) = IsNamed r.code a
IsGivenPointer r (Ret a) = IsSomeAnd (placed_at r.code.funcs a) (λ p. IsTrue (is_call (action_at p)))

abbrev pub IsGiven : Rewrite → CodeSymbol → Type 0
IsGiven r (Points p) = IsGivenPointer r p
IsGiven r (Hi a) = IsSomeAnd (placed_at r.code.funcs a) (λ p. HasTarget p.role)
IsGiven r (Abs t) = Any (λ entry. entry.1 ≡ role.AbsHi t) r.code.roles
IsGiven r (Diff to from) = Any (λ cell. cell.kind ≡ kind.Diff to from) r.code.cells
IsGiven r (Apart by p q) = IsGivenPointer r p × IsGivenPointer r q

abbrev pub IsGivenValue : Rewrite → Value → Type 0
IsGivenValue r (Num n) = Unit {0}
IsGivenValue r (Sym y) = IsGiven r y
IsGivenValue r (Piece y w i n e) = IsGiven r y

abbrev pub IsGivenByte : Rewrite → MemoryByte → Type 0
IsGivenByte r (Byte b) = Unit {0}
IsGivenByte r (SymbolByte y w i) = IsGiven r y
IsGivenByte r Hidden = Unit {0}

-- The number n in the output's run represents the value v.
pub record StandsFor (r : Rewrite) (v : Value) (n : ℕ) : Type 0 where
  pub value : IsValue v
  pub given : IsGivenValue r v
  pub number : n ≡ number_of_value r v

-- the number of a byte; a hidden byte may be any number
abbrev pub IsByteOf : Rewrite → MemoryByte → ℕ → Type 0
IsByteOf r (Byte b) n = n ≡ b
IsByteOf r (SymbolByte y w i) n = n ≡ bytes_from (number_of_symbol r y) i 1
IsByteOf r Hidden n = Unit {0}

-- The byte n of the output's memory represents the byte c of the symbol machine's memory.
pub record StandsForByte (r : Rewrite) (c : MemoryByte) (n : ℕ) : Type 0 where
  pub made : IsMemoryByte c
  pub given : IsGivenByte r c
  pub byte : IsByteOf r c n

-- an address that the program may use in some way
abbrev pub has_right : {V C : Type 0} → State V C → ℕ → Bool
has_right s a = may_read s a || may_write s a || may_execute s a

-- a break that brk can set
abbrev pub CanBeBreak : Space → ℕ → Type 0
CanBeBreak space a = (space.break_start ≤ a) × (a ≤ space.break_bound)

-- Everything except the pcs.
pub record RelatedData (r : Rewrite) (c : SymState) (b : ByteState) : Type 0 where
  -- register 0 is never written
  pub zero_is : c.registers 0 ≡ Num 0
  pub registers : (i : ℕ) → StandsFor r (c.registers i) (b.registers i)
  pub memory : (a : ℕ) → IsTrue (has_right c a) → StandsForByte r (c.memory a) (b.memory a)
  pub input : c.input ≡ b.input
  pub break_is : c.program_break ≡ b.program_break
  pub break_fits : CanBeBreak b.space b.program_break
  -- the rights are as the two files' segments say
  pub input_rights : c.space ≡ space_of r.input.segments.items
  pub output_rights : b.space ≡ space_of r.output.segments
  -- a byte that the output loads and that may not be written still has its loaded value
  pub loaded : (a byte : ℕ) → is_loaded_with PF_W r.output.segments a ≡ false → memory_of r.output a ≡ Some byte →
      b.memory a ≡ byte

-- If the symbol machine is at an instruction of a function, control gets from the output's pc to that instruction's new
-- address. The output's pc is even, since nothing could be fetched from an odd one.
abbrev pub RelatedPc : Rewrite → (ℕ → ℕ → Type 0) → ℕ → ℕ → Type 0
RelatedPc r L c b = IsTrue (is_code_address r.code.funcs c) → (b % 2 ≡ 0) × L b (out r c)

-- The state c on the input and the state b on the output are related. L relates two addresses of the output if control
-- gets from the first to the second.
pub record SimulationRelation (r : Rewrite) (L : ℕ → ℕ → Type 0) (c : SymState) (b : ByteState) : Type 0 where
  pub pc : RelatedPc r L c.pc b.pc
  pub rest : RelatedData r c b
