use Rattle.rv_code.specs.layout.ProgramCode.{program_code}
use Rattle.map_check.proofs.NamedSpans.{held_lowest}
use Rattle.map_check.proofs.names.lowest_left_out.Goals as goal

pub returns : goal.returns
returns c = λ funcs.
    held_lowest (program_code funcs c.args.roles.now c.args.cells.now c.args.entry) c.args.sorted.now _ _ _ _ _ c.lower-held.ensures
    c.lower.ensures
    c.lowest_of_roles-of_roles.ensures c.lowest_of_cells-of_cells.ensures c.empty_at-of_entry.ensures
