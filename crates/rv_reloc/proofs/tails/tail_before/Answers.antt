use Rattle.std.proofs.Common.{sym, subst, ◌+◌, Option}
use Rattle.rv_reloc.specs.declared.tails.LebRest.{LebRest}
use Rattle.rv_reloc.specs.Tails.{TailAt}
use Rattle.rv_reloc.proofs.Lebs.{tail-unloaded, tail-last, tail-more, tail-never}
use Rattle.rv_reloc.proofs.tails.tail_before.Goals as goal

pub returns-in_err-byte : goal.returns-in_err-byte
returns-in_err-byte c = rw c.from_residual.ensures (tail-unloaded _ _ (sym c.in_err-byte.ensures.value))

pub returns-then-byte-lt128 : goal.returns-then-byte-lt128
returns-then-byte-lt128 c =
    tail-last _ _ _ _
    (sym c.in_ok-byte.ensures.value) c.if-byte-lt128.true c.last_tail.ensures.end c.last_tail.ensures.zeros c.last_tail.ensures.ones

pub returns : goal.returns
returns c =
    let next = subst (λ (o : Option LebRest). TailAt c.args.elf.now (c.args.address + 1) o) c.in_ok-tail.was c.requires.next in
    tail-more _ _ _ c.in_ok-tail.tail _
    (sym c.in_ok-byte.ensures.value) c.if-byte-lt128.false next c.longer_tail.ensures.end c.longer_tail.ensures.zeros
    c.longer_tail.ensures.ones

pub returns-in_err-tail : goal.returns-in_err-tail
returns-in_err-tail c =
    let next = subst (λ (o : Option LebRest). TailAt c.args.elf.now (c.args.address + 1) o) c.in_err-tail.was c.requires.next in
    rw c.from_residual-in_err-tail.ensures (tail-never _ _ _ (sym c.in_ok-byte.ensures.value) c.if-byte-lt128.false next)
