use Rattle.std.proofs.Common.{◌≡◌, ◌∙◌, inl, inr, arith, rules, subst, refl}
use Rattle.std.specs.Prelude.{IsSome}
use Rattle.std.proofs.lemmas.Bool.{cases_lt}
use Rattle.rv_code.specs.machine.Machine.{plus}
use Rattle.rv_memory.specs.Pages.{page_byte}
use Rattle.rv_memory.proofs.memory.Memory.reserve.Goals as goal

pub loop-i-preserved : goal.loop-i-preserved
loop-i-preserved c = record {
  kept = λ q. c.reserve_byte.ensures.kept q ∙ c.loop-i.invariant.kept q;
  room = λ k within. elim (cases_lt k c.loop-i.i) [
    | inl less ↦ c.reserve_byte.ensures.others (plus c.args.address k) (c.loop-i.invariant.room k less)
    | inr more ↦ let same : c.loop-i.i ≡ k = omega arith in
        subst (λ j. IsSome (page_byte c.reserve_byte.new.self.pages (plus c.args.address j))) same
        (c.in_ok-reserve_byte.ensures.room refl)
  ];
  space_kept = search (rules, c.loop-i.invariant.space_kept, c.reserve_byte.ensures.space_kept);
}
