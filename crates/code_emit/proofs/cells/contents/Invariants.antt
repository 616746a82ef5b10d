use Rattle.std.proofs.Common.{◌≡◌, take}
use Rattle.std.specs.Prelude.{map}
use Rattle.addr_map.specs.Spans.{new}
use Rattle.code_emit.specs.Output.{new_cell}
use Rattle.code_emit.proofs.cells.contents.Given as goal

abbrev pub invariant-loop-cell : goal.invariant-loop-cell
invariant-loop-cell l = l.contents.items ≡ map (new_cell (new l.moved)) (take l.cell-index l.cells)
