use Rattle.std.proofs.Common.{arith}
use Rattle.std.proofs.lemmas.Bool.{eqb-true, eq-eqb}
use Rattle.line_rewrite.proofs.TextEnds.{ends_some, ends_none}
use Rattle.line_rewrite.proofs.text.last_end.Goals as goal

pub returns-in-Some : goal.returns-in-Some
returns-in-Some c =
    ends_some c.args.section.now c.in-Some.last c.in-Some.ensures.0.high (eqb-true _ _ c.in-Some.ensures.1)
    (λ k above within zero. c.in-Some.ensures.0.after k (omega arith) within (eq-eqb _ _ zero))

pub returns-in-None : goal.returns-in-None
returns-in-None c = ends_none c.args.section.now (λ k within zero. c.in-None.ensures k (omega arith) within (eq-eqb _ _ zero))
