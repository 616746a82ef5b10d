use Rattle.std.proofs.Common.{◌≡◌, ℕ, List, Option, sym, subst}
use Rattle.answer_runs.specs.CarriedAnswers.{IsCarried}
use Rattle.dw_lists.specs.Tables.{range_answers}
use Rattle.range_loc_rewrite.proofs.range_lists.RangesAddrTable.write_runs.Goals as goal

pub returns-clause-law : goal.returns-clause-law
returns-clause-law c = λ i f from stands.
    let law = c.in_ok-written.ensures.law i f from stands in (
      subst (λ (wanted : ℕ → Option (List ℕ)). IsCarried (λ x y. x ≡ y) c.args.map.now wanted (range_answers f))
          (λ k p. sym (c.requires.answers p) k)
          law.0,
      law.1,
      tt,
    )
