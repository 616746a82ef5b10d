use Rattle.std.proofs.Common.{arith, sym}
use Rattle.edge_profile.proofs.LaidOut.{no_function_starts, function_starts}
use Rattle.edge_profile.proofs.places.starts_function.Goals as goal

pub returns-then-below-eq0 : goal.returns-then-below-eq0
returns-then-below-eq0 c =
    sym (no_function_starts c.args.funcs.now c.args.address
    (λ k d within. c.count_up_to-below.ensures.above k d (omega arith) within))

pub returns : goal.returns
returns c =
    let found = c.count_up_to-below.ensures in
    sym (function_starts c.args.funcs.now c.requires c.args.address c.count_up_to-below.result found.bound
    (omega arith) found.below found.above c.index-funcs-below.result)
