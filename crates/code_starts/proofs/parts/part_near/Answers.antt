use Rattle.std.proofs.Common.{◌<◌, ap, Some, length, rules}
use Rattle.code_starts.proofs.PartLookup.{found_holder}
use Rattle.code_starts.proofs.parts.part_near.Goals as goal

pub returns-then-holds-clause-only : goal.returns-then-holds-clause-only
returns-then-holds-clause-only c = λ p other.
    let within : c.loop-index.index < length c.args.parts.now = search rules in
    let held = c.holds.ensures.0 c.if-holds.true in
    ap Some (found_holder c.args.parts.now c.args.address c.loop-index.index _ p c.requires within held.0 held.1 other)
