-- Addresses of the code that are held, and whose spans are empty.
use Rattle.std.specs.Prelude.{ℕ, ◌==◌, Bool, Any, IsTrue, find, false, List}
use Rattle.std.specs.Option.{option_map_or}
use Rattle.rv_code.specs.declared.placed.Role.{Role}
use Rattle.rv_code.specs.declared.cell.CodeCell.{CodeCell}
use Rattle.rv_code.specs.layout.ProgramCode.{ProgramCode, RoleNames, CellNames, IsHeld}
use Rattle.addr_map.specs.Spans.{is_of}
use Rattle.addr_map.specs.declared.span.Span.{Span}

-- the first span of `a` has no bytes
abbrev pub is_empty_at : List Span → ℕ → Bool
is_empty_at spans a = option_map_or (λ s. s.len == 0) (find (is_of a) spans) false

abbrev pub NamedByRoles : List Span → List (ℕ × Role) → ℕ → Type 0
NamedByRoles spans roles a = Any (λ r. RoleNames r.1 a) roles × IsTrue (is_empty_at spans a)

abbrev pub NamedByCells : List Span → List CodeCell → ℕ → Type 0
NamedByCells spans cells a = Any (λ c. CellNames c a) cells × IsTrue (is_empty_at spans a)

-- `a` is held, and its first span has no bytes
abbrev pub IsHeldEmpty : ProgramCode → List Span → ℕ → Type 0
IsHeldEmpty code spans a = IsHeld code a × IsTrue (is_empty_at spans a)
