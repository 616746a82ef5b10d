use Rattle.std.proofs.Common.{◌+◌}
use Rattle.std.proofs.lemmas.Bool.{ltb-true}
use Rattle.edge_profile.proofs.LaidOut.{start_behind, start_up_to}
use Rattle.edge_profile.proofs.places.is_last_up_to.Goals as goal

pub returns-then-index-funcs-clause-below : goal.returns-then-index-funcs-clause-below
returns-then-index-funcs-clause-below c = λ yes'.
    start_up_to c.args.funcs.now c.requires c.args.address c.args.index _ c.if-funcs-index.false c.if-address-funcs.false

pub returns-clause-below : goal.returns-clause-below
returns-clause-below c = λ before.
    start_up_to c.args.funcs.now c.requires c.args.address c.args.index _ c.if-funcs-index.false c.if-address-funcs.false

pub returns-clause-above : goal.returns-clause-above
returns-clause-above c = λ before.
    start_behind c.args.funcs.now c.requires c.args.address (c.args.index + 1) _ (ltb-true _ _ before)
