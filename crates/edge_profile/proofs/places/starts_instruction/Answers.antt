use Rattle.std.proofs.Common.{sym}
use Rattle.edge_profile.proofs.LaidOut.{code_address_at}
use Rattle.edge_profile.proofs.places.starts_instruction.Goals as goal

pub returns-in-Some : goal.returns-in-Some
returns-in-Some c =
    sym (code_address_at c.args.funcs.now c.args.address c.in-Some._place.func c.in-Some._place.inst c.in-Some.ensures.some)
