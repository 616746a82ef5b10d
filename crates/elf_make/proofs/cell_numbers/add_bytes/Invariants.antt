use Rattle.std.proofs.Common.{◌≡◌, ◌+◌, ◌-◌, ◌++◌}
use Rattle.elf_make.specs.CellNumbers.{byte_cells}
use Rattle.elf_make.proofs.cell_numbers.add_bytes.Given as goal

abbrev pub invariant-loop-index : goal.invariant-loop-index
invariant-loop-index l =
    l.pieces.items ++ byte_cells (l.cell.0 + l.index) (l.cell.1 - l.index) l.rest
    ≡ l.fn.pieces.items ++ byte_cells l.cell.0 l.cell.1 l.cell.2
