use Rattle.std.proofs.Common.{◌≡◌, sym, subst, true, IsTrue, Option, ℕ}
use borrow.Author.Tests.{ltb-true}
use Rattle.rb_bytes.specs.Leb.{is_last}
use Rattle.rv_reloc.specs.Tails.{ends_with}
use Rattle.rv_reloc.proofs.Lebs.{tail-unloaded, tail-last}
use Rattle.rv_reloc.proofs.tails.tail_of_last.Goals as goal

pub returns-in_err-byte : goal.returns-in_err-byte
returns-in_err-byte c = rw c.from_residual.ensures (tail-unloaded _ _ (sym c.in_err-byte.ensures.value))

pub returns : goal.returns
returns c =
    let ends : is_last c.in_ok-byte.byte ≡ true =
    subst (λ (o : Option ℕ). IsTrue (ends_with o)) (sym c.in_ok-byte.ensures.value) c.requires.ends in
    tail-last _ _ _ _ (sym c.in_ok-byte.ensures.value)
    (ltb-true c.in_ok-byte.byte 128 ends) c.last_tail.ensures.end c.last_tail.ensures.zeros c.last_tail.ensures.ones
