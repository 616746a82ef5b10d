-- The addresses at which blocks start since something refers to them.
use Rattle.std.specs.Prelude.{◌⊎◌, ◌↔◌, ℕ, List}
use Rattle.rv_code.specs.declared.placed.Func.{Func}
use Rattle.rv_code.specs.layout.ProgramCode.{ProgramCode, program_code, IsTarget, IsHeld}
use Rattle.rv_reloc.specs.declared.refs.Refs.{Refs}
use Rattle.code_starts.specs.declared.address_set.AddressSet.{AddressSet}
use Rattle.code_starts.specs.AddressSets.{IsIn}

-- Functions, references and the entry point of a file as one record.
abbrev pub code_of : List Func → Refs → ℕ → ProgramCode
code_of funcs refs entry = program_code funcs refs.roles.items refs.cells.items entry

abbrev pub IsMember : AddressSet → ℕ → Type 0
IsMember set a = IsIn set.low set.marks.items set.others.items a

-- The targets of branches and jumps, and the addresses that a role, a cell or the entry point has.
abbrev pub AreEntered : ProgramCode → AddressSet → Type 0
AreEntered code entered = (a : ℕ) → IsMember entered a ↔ (IsTarget code.funcs a ⊎ IsHeld code a)
