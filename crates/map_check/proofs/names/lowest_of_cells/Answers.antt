use Rattle.std.proofs.Common.{◌≡◌, length, arith}
use Rattle.rv_code.specs.layout.ProgramCode.{CellNames}
use Rattle.elf_image.proofs.LowestPlaces.{IsLowest-begin, IsLowest-next}
use Rattle.map_check.proofs.NamedSpans.{NamedAt, named_here, named_all}
use Rattle.map_check.proofs.names.lowest_of_cells.Goals as goal

pub loop-cell-init : goal.loop-cell-init
loop-cell-init c = IsLowest-begin (NamedAt (λ r a. CellNames r a) c.args.sorted.now c.args.cells.now)

pub loop-cell-preserved : goal.loop-cell-preserved
loop-cell-preserved c =
    IsLowest-next (NamedAt (λ r a. CellNames r a) c.args.sorted.now c.args.cells.now) c.loop-cell.cell-index _ _ _
    c.lower-lowest.ensures c.loop-cell.invariant
    (named_here (λ r a. CellNames r a) c.args.sorted.now c.args.cells.now c.loop-cell.cell-index _ _ c.loop-cell-test.true
    c.lowest_of_cell.ensures)

pub returns : goal.returns
returns c =
    let all : c.loop-cell.cell-index ≡ length c.args.cells.now = omega arith in
    named_all (λ r a. CellNames r a) c.args.sorted.now c.args.cells.now c.loop-cell.cell-index c.loop-cell.lowest all
    c.loop-cell.invariant
