use Rattle.std.proofs.Common.{arith, lit<}
use Rattle.std.proofs.lemmas.Fmt.{length-decimal-le}
use Rattle.addr_map.proofs.text.write_length.Goals as goal

pub write_digits-requires : goal.write_digits-requires
write_digits-requires c =
    let short = length-decimal-le 3 c.args.len (lit< tt) (omega (arith, c.ranges.len)) (omega (arith, c.ranges.len)) in
    (omega (arith, short), omega arith)

pub returns-clause-short : goal.returns-clause-short
returns-clause-short c =
    let short = length-decimal-le 3 c.args.len (lit< tt) (omega (arith, c.ranges.len)) (omega (arith, c.ranges.len)) in
    omega (arith, short, c.write_digits.ensures.start)
