-- Code cells in a list.
use Rattle.std.specs.Prelude.{◌≡◌, ◌⊎◌, ◌+◌, ◌≤◌, List, AllPairs}
use Rattle.std.specs.List.Sorted.{IsNonDecreasingBy}
use Rattle.rv_code.specs.declared.cell.CodeCell.{CodeCell}

-- cells in order of their addresses, which share no byte
pub record AreApart (cells : List CodeCell) : Type 0 where
  pub rising : IsNonDecreasingBy (λ c. c.addr) cells
  pub apart : AllPairs (λ c d. c.addr + c.width ≤ d.addr) cells

-- a cell has four or eight bytes
abbrev pub HasWidth : CodeCell → Type 0
HasWidth c = (c.width ≡ 4) ⊎ (c.width ≡ 8)
