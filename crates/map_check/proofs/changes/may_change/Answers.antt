use Rattle.std.proofs.Common.{subst}
use Rattle.elf_image.specs.declared.elf.Elf.{Elf}
use Rattle.map_check.specs.internal.Headers.{AreHeadersOf}
use Rattle.map_check.proofs.KeptPlaces.{change_is}
use Rattle.map_check.proofs.changes.may_change.Goals as goal

pub returns : goal.returns
returns c = λ r of are.
    change_is r c.args.input.now c.args.a c.args.changes.cells.now c.args.changes.headers.entry c.in_cells-cell.result
    c.in_entry-entry.result c.is_hidden_field-hidden.result c.any_of.result of are.cells are.headers.entry_is
    c.in_cells-cell.ensures c.in_entry-entry.ensures
    (c.is_hidden_field-hidden.ensures r.tight (subst (λ (e : Elf). AreHeadersOf e r.tight c.args.changes.headers) of are.headers))
    c.any_of.ensures
