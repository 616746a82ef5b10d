use Rattle.std.proofs.Common.{refl, arith}
use Rattle.rv_code.specs.layout.ProgramCode.{CellNames}
use Rattle.rb_bytes.proofs.Gains.{gains_next, gains_all}
use Rattle.func_find.proofs.referred.push_cells.Goals as goal

pub loop-cell-preserved : goal.loop-cell-preserved
loop-cell-preserved c =
    gains_next (λ x a. CellNames x a) c.args.cells.now c.loop-cell.cell-index _ _ _ _ _ c.loop-cell-test.true refl
    c.in_ok-push_cell.ensures c.loop-cell.invariant

pub returns : goal.returns
returns c = gains_all (λ x a. CellNames x a) c.args.cells.now c.loop-cell.cell-index _ _ (omega arith) c.loop-cell.invariant
