use Rattle.std.proofs.Common.{◌≡◌, ◌≤◌, ◌-◌, ◌∙◌, ap, arith, List}
use Rattle.std.proofs.lemmas.Bool.Decides.{nat_tests}
use Rattle.std.proofs.lemmas.Option.{none-some, same_Some}
use Rattle.line_rewrite.specs.declared.registers.Registers.{Registers}
use Rattle.line_rewrite.specs.Walks.{next_above}
use Rattle.line_rewrite.proofs.Between.{rows_alike}
use Rattle.line_rewrite.proofs.near.NearRows.last_alike.Goals as goal

pub returns-in-Some-clause-alike : goal.returns-in-Some-clause-alike
returns-in-Some-clause-alike c = λ x from to.
    rows_alike c.args.a x c.args.self.now.rows.items from c.requires (λ next e.
    let same : c.in-Some.next ≡ next = same_Some _ _ (c.in-Some.ensures.next
    ∙ ap (λ (l : List Registers). next_above c.args.a l) c.deref.ensures.value ∙ e) in
    let low : x ≤ c.in-Some.next - 1 = grind (arith, nat_tests, to, c.min.ensures) in
    let above = c.in-Some.ensures.above in
    omega (arith, same, low, above))

pub returns-in-None-clause-alike : goal.returns-in-None-clause-alike
returns-in-None-clause-alike c = λ x from to.
    rows_alike c.args.a x c.args.self.now.rows.items from c.requires (λ next e.
    absurd (none-some next (c.in-None.ensures.next ∙ ap (λ (l : List Registers). next_above c.args.a l) c.deref.ensures.value ∙ e)))
