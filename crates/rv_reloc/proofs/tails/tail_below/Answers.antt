use Rattle.std.proofs.Common.{◌≡◌, subst, ℕ, arith}
use Rattle.rv_reloc.specs.Tails.{TailAt}
use Rattle.rv_reloc.proofs.tails.tail_below.Goals as goal

pub returns : goal.returns
returns c =
    let e : c.loop-address.address ≡ c.args.from = omega arith in
    subst (λ (a : ℕ). TailAt c.args.elf.now a c.loop-address.tail) e c.loop-address.invariant.here
