use Rattle.std.proofs.Common.{◌∙◌, ap, map, arith}
use Rattle.std.proofs.lemmas.List.{take_all}
use Rattle.std.proofs.lemmas.Grind.{common_steps}
use Rattle.rv_reloc.specs.Cells.{cell_of}
use Rattle.rv_reloc.proofs.CellLists.{cells-all}
use Rattle.rv_reloc.proofs.cells.cells.Goals as goal

pub returns : goal.returns
returns c = λ elf tabled are.
    cells-all elf tabled c.args.counted.now c.loop-field.cells.items c.requires are
    (c.loop-field.invariant ∙ ap (map cell_of) (take_all c.loop-field.field-index c.args.counted.now (omega arith)))

pub loop-field-preserved : goal.loop-field-preserved
loop-field-preserved c = grind (arith, common_steps)
