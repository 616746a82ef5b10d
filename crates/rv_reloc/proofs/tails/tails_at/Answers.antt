use Rattle.std.proofs.Common.{arith, rules}
use Rattle.rv_reloc.proofs.Lebs.{tail-end}
use Rattle.rv_reloc.proofs.tails.tails_at.Goals as goal

pub loop-place-init : goal.loop-place-init
loop-place-init c = record {
  next = tail-end c.args.elf.now 18446744073709551615 c.requires (omega arith);
  known = search rules;
}
