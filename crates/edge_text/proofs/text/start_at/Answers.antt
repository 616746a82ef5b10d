use Rattle.std.proofs.Common.{sym}
use Rattle.edge_text.proofs.Starts.{start_at_place, start_nowhere}
use Rattle.edge_text.proofs.text.start_at.Goals as goal

pub returns-in-Some : goal.returns-in-Some
returns-in-Some c =
    sym (start_at_place c.args.funcs.now c.requires c.args.address c.in-Some.place.func c.in-Some.place.inst
    c.in-Some.ensures.some c.index-funcs-place.result)

pub returns-in-None : goal.returns-in-None
returns-in-None c = sym (start_nowhere c.args.funcs.now c.requires c.args.address c.in-None.ensures.none)
