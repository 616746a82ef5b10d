use Rattle.std.proofs.Common.{take}
use Rattle.elf_make.specs.CellNumbers.{AreCellNumbers}
use Rattle.elf_make.proofs.cell_numbers.numbers_of.Given as goal

abbrev pub invariant-loop-cell : goal.invariant-loop-cell
invariant-loop-cell l = AreCellNumbers l.elf l.shift (take l.cell-index l.cells) l.numbers.items
