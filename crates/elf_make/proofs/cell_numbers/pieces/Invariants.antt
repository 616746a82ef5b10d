use Rattle.std.proofs.Common.{◌≡◌, ◌++◌, drop, flat_map}
use Rattle.elf_make.specs.CellNumbers.{pieces_of}
use Rattle.elf_make.proofs.cell_numbers.pieces.Given as goal

abbrev pub invariant-loop-cell : goal.invariant-loop-cell
invariant-loop-cell l =
    l.pieces.items ++ flat_map (pieces_of l.elf.segments.items) (drop l.cell-index l.cells)
    ≡ flat_map (pieces_of l.elf.segments.items) l.cells
