use Rattle.std.proofs.Common.{◌≡◌, ◌∙◌, arith, subst, refl, true, inl, inr}
use Rattle.std.proofs.lemmas.Bool.{cases_lt}
use Rattle.rv_code.specs.machine.Machine.{plus}
use Rattle.sym_machine.specs.internal.OtherBytes.{has_group}
use Rattle.sym_machine.proofs.memory.SymMemory.reserve.Goals as goal

pub loop-i-preserved : goal.loop-i-preserved
loop-i-preserved c = record {
  kept = λ q. c.reserve.ensures.kept q ∙ c.loop-i.invariant.kept q;
  room = λ k within. elim (cases_lt k c.loop-i.i) [
    | inl less ↦ c.reserve.ensures.groups (plus c.args.address k) (c.loop-i.invariant.room k less)
    | inr more ↦ let same : c.loop-i.i ≡ k = omega arith in
        subst (λ j. has_group c.reserve.new.self (plus c.args.address j) ≡ true) same (c.in_ok-reserve.ensures.room refl)
  ];
  space_kept = c.loop-i.invariant.space_kept;
}
