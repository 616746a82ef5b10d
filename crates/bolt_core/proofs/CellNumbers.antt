-- The number of a cell is the number of its symbol.
use Rattle.std.proofs.Common.{◌≡◌, refl}
use Rattle.rv_code.specs.declared.cell.CellKind.{CellKind}
use Rattle.rv_code.specs.declared.cell.CellKind.TheVariants.{Abs, Diff}
use Rattle.sym_machine.specs.SymStart.{symbol_of}
use Rattle.move_law.specs.Rewrite.{Rewrite, out}
use Rattle.move_law.specs.RelocatedValues.{number_of_symbol}
use Rattle.code_emit.specs.NewInsts.{cell_number}

pub cell_number_is : (r : Rewrite) (kind : CellKind) → cell_number (out r) kind ≡ number_of_symbol r (symbol_of kind)
cell_number_is r (Abs to) = refl
cell_number_is r (Diff to from) = refl
