use Rattle.std.proofs.Common.{◌≤◌, ◌<◌, ◌+◌, ⊎_elim, arith}
use Rattle.std.proofs.lemmas.Bool.{cases_lt, eqb-true, eq-eqb}
use Rattle.elf_image.proofs.names.last_end.Goals as goal

pub returns-in-Some : goal.returns-in-Some
returns-in-Some c = record {
  unended = λ k above i from within zero. c.in-Some.ensures.0.after i (omega arith) within (eq-eqb _ _ zero);
  ended = λ k unended.
      ⊎_elim
      (λ (low : k < c.in-Some.last + 1). absurd
      (unended c.in-Some.last (omega arith) c.in-Some.ensures.0.high (eqb-true _ _ c.in-Some.ensures.1)))
      (λ (high : c.in-Some.last + 1 ≤ k). high)
      (cases_lt k (c.in-Some.last + 1));
}

pub returns-in-None : goal.returns-in-None
returns-in-None c = record {
  unended = λ k above i from within zero. c.in-None.ensures i (omega arith) within (eq-eqb _ _ zero);
  ended = λ k unended. omega arith;
}
