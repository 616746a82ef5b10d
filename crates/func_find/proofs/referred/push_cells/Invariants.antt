use Rattle.std.proofs.Common.{take}
use Rattle.rv_code.specs.layout.ProgramCode.{CellNames}
use Rattle.rb_bytes.specs.Lists.{Gains}
use Rattle.rb_bytes.proofs.Gains.{Given}
use Rattle.func_find.proofs.referred.push_cells.Given as goal

abbrev pub invariant-loop-cell : goal.invariant-loop-cell
invariant-loop-cell l =
    Gains l.initial.addresses.items l.addresses.items (Given (λ c a. CellNames c a) (take l.cell-index l.cells))
