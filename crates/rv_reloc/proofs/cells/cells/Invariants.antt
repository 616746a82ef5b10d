use Rattle.std.proofs.Common.{◌≡◌, map, take}
use Rattle.rv_reloc.specs.Cells.{cell_of}
use Rattle.rv_reloc.proofs.cells.cells.Given as goal

abbrev pub invariant-loop-field : goal.invariant-loop-field
invariant-loop-field l = l.cells.items ≡ map cell_of (take l.field-index l.counted)
