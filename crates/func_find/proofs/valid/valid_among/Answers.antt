use Rattle.func_find.proofs.valid.valid_among.Goals as goal

pub returns-clause-only : goal.returns-clause-only
returns-clause-only c = λ inst bytes valid. c.in_ok-inst.ensures.only inst bytes valid.before

pub returns-in_err-inst-clause-only : goal.returns-in_err-inst-clause-only
returns-in_err-inst-clause-only c = rw c.from_residual.ensures (λ inst bytes valid. c.in_err-inst.ensures.only inst bytes valid.before)
