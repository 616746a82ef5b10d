use Rattle.std.proofs.Common.{◌∙◌, sym}
use Rattle.edge_profile.proofs.KnownValues.{value-known}
use Rattle.edge_profile.proofs.function_names.value_of.Goals as goal

pub returns : goal.returns
returns c = λ symbols are.
    c.flatten.ensures
    ∙ value-known c.args.ends.now.backward.items symbols c.args.known.now c.args.name.now c.in_ok-index.index _ are
    (sym c.in_ok-index.ensures)
