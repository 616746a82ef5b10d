-- The start of a program on the symbol machine, and its runs. They are as on the byte machine, except that code cells
-- and the entry point are symbols, and that fields which a rewrite of the file changes are hidden.
use Rattle.std.specs.Prelude.{ℕ, ◌-◌, ◌||◌, if◌then◌else◌, Bool, List, [], ◌∷◌, ◌++◌, Option, Some}
use Rattle.std.specs.Prelude.{None, find, unwrap_or, option_map}
use Rattle.std.specs.Option.{option_map_or, option_or}
use Rattle.rv_code.specs.declared.cell.CodeCell.{CodeCell}
use Rattle.rv_code.specs.declared.cell.CellKind.{CellKind}
use Rattle.rv_code.specs.declared.cell.CellKind.TheVariants as kind
use Rattle.rv_code.specs.declared.placed.Func.{Func}
use Rattle.rv_code.specs.machine.Machine.{Event, Run, SoFar}
use Rattle.elf_image.specs.declared.elf.Elf.{Elf}
use Rattle.elf_image.specs.memory.LoadedBytes.{Range, is_in_range, address_of}
use Rattle.elf_image.specs.memory.Break.{break_start}
use Rattle.rv_memory.specs.Start.{start_memory, start_registers, space_of}
use Rattle.sym_machine.specs.declared.value.Pointer.TheVariants.{Code}
use Rattle.sym_machine.specs.declared.value.CodeSymbol.{CodeSymbol}
use Rattle.sym_machine.specs.declared.value.CodeSymbol.TheVariants.{Points, Diff}
use Rattle.sym_machine.specs.declared.value.Value.{Value}
use Rattle.sym_machine.specs.declared.value.Value.TheVariants.{Num}
use Rattle.sym_machine.specs.declared.value.MemoryByte.{MemoryByte}
use Rattle.sym_machine.specs.declared.value.MemoryByte.TheVariants.{Byte, SymbolByte, Hidden}
use Rattle.elf_image.specs.memory.HiddenFields.{e_entry_field, is_hidden_field}
use Rattle.sym_machine.specs.HiddenEntries.{at_entry, is_hidden_entry}
use Rattle.sym_machine.specs.SymStep.{SymState, SymSteps}

-- Symbols.

abbrev pub symbol_of : CellKind → CodeSymbol
symbol_of (kind.Abs to) = Points (Code to)
symbol_of (kind.Diff to from) = Diff to from

abbrev pub code_cell_range : CodeCell → Range
code_cell_range cell = record { start = cell.addr; size = cell.width }

-- the byte of a code cell at an address
abbrev pub byte_of_cell : ℕ → CodeCell → MemoryByte
byte_of_cell a cell = SymbolByte (symbol_of cell.kind) cell.width (a - cell.addr)

-- the byte at address a of the entry point, stored in the 8 bytes of a range: in e_entry, if that is loaded, and on the
-- stack
abbrev pub byte_of_entry : Elf → ℕ → Range → MemoryByte
byte_of_entry elf a range = SymbolByte (Points (Code elf.entry)) 8 (a - range.start)

abbrev pub entry_fields : Elf → List (List ℕ) → List Range
entry_fields elf args =
    option_map_or (λ a. record { start = a; size = 8 } ∷ []) (address_of elf e_entry_field) [] ++ at_entry args ∷ []

-- The state before the first step.

-- the byte of the entry point at an address, and likewise of a hidden field and of a code cell
abbrev pub entry_byte : Elf → List (List ℕ) → ℕ → Option MemoryByte
entry_byte elf args a = option_map (byte_of_entry elf a) (find (is_in_range a) (entry_fields elf args))

abbrev pub hidden_byte : Elf → Bool → List (List ℕ) → ℕ → Option MemoryByte
hidden_byte elf tight args a = if is_hidden_field elf tight a || is_hidden_entry tight args a then Some Hidden else None

abbrev pub code_cell_byte : List CodeCell → ℕ → Option MemoryByte
code_cell_byte cells a = option_map (byte_of_cell a) (find (λ c. is_in_range a (code_cell_range c)) cells)

-- If these overlap, the entry point has the byte, then hidden fields, then code cells. All other bytes are as on the
-- byte machine.
abbrev pub sym_memory : Elf → List CodeCell → Bool → List (List ℕ) → ℕ → MemoryByte
sym_memory elf cells tight args a =
    unwrap_or (option_or (entry_byte elf args a) (option_or (hidden_byte elf tight args a) (code_cell_byte cells a)))
    (Byte (start_memory elf.file.now args a))

abbrev pub sym_registers : List (List ℕ) → ℕ → Value
sym_registers args r = Num (start_registers args r)

abbrev pub sym_start : Elf → List CodeCell → Bool → List (List ℕ) → List ℕ → SymState
sym_start elf cells tight args input = record {
  pc = elf.entry;
  registers = sym_registers args;
  memory = sym_memory elf cells tight args;
  space = space_of elf.segments.items;
  program_break = break_start elf.segments.items;
  input = input;
}

-- Runs.

-- what the machine gets of a file: its functions, its code cells, and whether it is tight
pub record SymProgram : Type 0 where
  pub elf : Elf
  pub funcs : List Func
  pub cells : List CodeCell
  pub tight : Bool

abbrev pub program_start : SymProgram → List (List ℕ) → List ℕ → SymState
program_start p args input = sym_start p.elf p.cells p.tight args input

-- The program, run with these arguments and this input, ends in its n-th step with this status, after these calls.
abbrev pub SymRuns : SymProgram → List (List ℕ) → List ℕ → ℕ → List Event → ℕ → Type 0
SymRuns p args input n trace status = Run (SymSteps p.funcs) (program_start p args input) n trace status

-- The program's first n steps neither end nor are stuck, and make these calls.
pub record SymRunsSoFar (p : SymProgram) (args : List (List ℕ)) (input : List ℕ) (n : ℕ)
    (trace : List Event) : Type 0 where
  pub state : SymState
  pub so_far : SoFar (SymSteps p.funcs) (program_start p args input) n trace state
