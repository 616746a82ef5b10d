use Rattle.std.proofs.Common.{arith, inl, inr}
use Rattle.rv_decode.proofs.front.decode.Goals as goal

pub returns-in_ok-inst-2-clause-only : goal.returns-in_ok-inst-2-clause-only
returns-in_ok-inst-2-clause-only c =
    λ i bytes d. elim d
    [ inl p ↦ (c.in_ok-inst-2.ensures.only i p.row, p.two_bytes) | inr p ↦ absurd (omega (arith, p.is_full)) ]

pub returns-in_err-inst-2-clause-none : goal.returns-in_err-inst-2-clause-none
returns-in_err-inst-2-clause-none c =
    rw c.from_residual-in_err-inst-2.ensures (λ i bytes d. elim d
    [ inl p ↦ c.in_err-inst-2.ensures i p.row | inr p ↦ absurd (omega (arith, p.is_full)) ])
