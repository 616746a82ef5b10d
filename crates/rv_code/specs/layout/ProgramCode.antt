-- The code of a file as later crates see it, and the addresses that it names.
use Rattle.std.specs.Prelude.{◌≡◌, ◌⊎◌, ℕ, Bool, List, IsTrue, Some, Any, is_some}
use Rattle.rv_code.specs.declared.placed.Func.{Func}
use Rattle.rv_code.specs.declared.placed.Role.{Role}
use Rattle.rv_code.specs.declared.placed.Role.TheVariants.{Plain, CallHi, CallLo, Hi, Lo, AbsHi, AbsLo}
use Rattle.rv_code.specs.declared.cell.CodeCell.{CodeCell}
use Rattle.rv_code.specs.declared.cell.CellKind.{CellKind}
use Rattle.rv_code.specs.declared.cell.CellKind.TheVariants.{Abs, Diff}
use Rattle.rv_code.specs.layout.Flow.{insts_of, placed_at, target_of}

-- A role names its target. It doesn't name the AUIPC at `hi`.
abbrev pub RoleNames : Role → ℕ → Type 0
RoleNames Plain a = ⊥
RoleNames (CallHi target) a = target ≡ a
RoleNames (CallLo hi target) a = target ≡ a
RoleNames (Hi target) a = target ≡ a
RoleNames (Lo hi target) a = target ≡ a
RoleNames (AbsHi target) a = target ≡ a
RoleNames (AbsLo target) a = target ≡ a

-- A cell names its address, or both addresses of its difference.
abbrev pub KindNames : CellKind → ℕ → Type 0
KindNames (Abs to) a = to ≡ a
KindNames (Diff to from) a = (to ≡ a) ⊎ (from ≡ a)

abbrev pub CellNames : CodeCell → ℕ → Type 0
CellNames cell a = KindNames cell.kind a

-- The functions of a file, the roles of instructions by address, the code cells, and the entry point.
pub record ProgramCode : Type 0 where
  pub funcs : List Func
  pub roles : List (ℕ × Role)
  pub cells : List CodeCell
  pub entry : ℕ

abbrev pub program_code : List Func → List (ℕ × Role) → List CodeCell → ℕ → ProgramCode
program_code funcs roles cells entry = record { funcs = funcs; roles = roles; cells = cells; entry = entry }

-- A code address is the start of an instruction of a function.
abbrev pub is_code_address : List Func → ℕ → Bool
is_code_address funcs a = is_some (placed_at funcs a)

-- A role, a cell or the entry point has the address.
pub data IsHeld (code : ProgramCode) (a : ℕ) : Type 0 where
  by_role : Any (λ r. RoleNames r.1 a) code.roles → IsHeld code a
  by_cell : Any (λ c. CellNames c a) code.cells → IsHeld code a
  by_entry : code.entry ≡ a → IsHeld code a

-- A named address is a code address that a role, a cell or the entry point has: the program can compute with it.
pub record IsNamed (code : ProgramCode) (a : ℕ) : Type 0 where
  pub code_address : IsTrue (is_code_address code.funcs a)
  pub held : IsHeld code a

-- A branch or jump has the target `a`.
abbrev pub IsTarget : List Func → ℕ → Type 0
IsTarget funcs a = Any (λ p. target_of p ≡ Some a) (insts_of funcs)
