use Rattle.std.proofs.Common.{arith}
use Rattle.rv_reloc.proofs.Lebs.{tail-end}
use Rattle.rv_reloc.proofs.tails.tail_from.Goals as goal

pub tail_below-requires-clause-known : goal.tail_below-requires-clause-known
tail_below-requires-clause-known c = tail-end c.args.elf.now 18446744073709551615 c.requires (omega arith)
