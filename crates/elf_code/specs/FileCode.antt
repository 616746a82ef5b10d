-- The code of a file as lists for later crates: the starts of its instructions, its functions, roles and code cells.
use Rattle.std.specs.Prelude.{◌≡◌, ℕ, ◌<◌, List}
use Rattle.rv_code.specs.declared.placed.Role.{Role}
use Rattle.rv_code.specs.declared.cell.CodeCell.{CodeCell}
use Rattle.rv_code.specs.layout.ProgramCode.{ProgramCode}
use Rattle.rv_code.specs.layout.Lists.{ListsAll, ListsNumbers}
use Rattle.elf_image.specs.declared.elf.Elf.{Elf}
use Rattle.elf_code.specs.Roles.{HasRole}
use Rattle.elf_code.specs.Cells.{IsCell}
use Rattle.elf_code.specs.Functions.{AreFunctions}
use Rattle.elf_code.specs.Parts.{IsStart}

-- The starts of all instructions, ascending.
abbrev pub AreStarts : Elf → List ℕ → Type 0
AreStarts elf starts = ListsNumbers (IsStart elf) starts

-- All roles, by the addresses of their instructions.
abbrev pub AreRoles : Elf → List (ℕ × Role) → Type 0
AreRoles elf roles = ListsAll (λ r. HasRole elf r.0 r.1) (λ r s. r.0 < s.0) roles

-- All code cells, by address.
abbrev pub AreCells : Elf → List (ℕ × ℕ) → List CodeCell → Type 0
AreCells elf tabled cells = ListsAll (IsCell elf tabled) (λ c d. c.addr < d.addr) cells

-- The code of a file.
pub record IsCodeOf (elf : Elf) (tabled : List (ℕ × ℕ)) (code : ProgramCode) : Type 0 where
  pub funcs : AreFunctions elf tabled code.funcs
  pub roles : AreRoles elf code.roles
  pub cells : AreCells elf tabled code.cells
  pub entry : code.entry ≡ elf.entry
