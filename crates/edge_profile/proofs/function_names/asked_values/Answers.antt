use Rattle.std.proofs.Common.{sym, subst}
use Rattle.edge_profile.specs.SymbolValues.{AreKnown}
use Rattle.edge_profile.proofs.function_names.asked_values.Goals as goal

pub returns : goal.returns
returns c = λ name value found.
    let symbols = c.args.elf.now.symbols.items in
    c.in_ok-values_by_name.ensures symbols
    (subst (AreKnown c.in_ok-ends.ends.backward.items symbols) (sym c.deref.ensures.value) c.in_ok-known.ensures)
    name value found
