use Rattle.std.proofs.Common.{◌-◌, ◌<◌, ◌∙◌, ℕ, ap, arith, get_or, subst}
use Rattle.line_rewrite.specs.declared.kept.Kept.{Kept}
use Rattle.line_rewrite.proofs.Lookups.{kept_get, kept_rise, no_state}
use Rattle.line_rewrite.proofs.NearRows.{enough, none_enough}
use Rattle.line_rewrite.proofs.lookup.SequenceView.rows_from.Goals as goal

pub returns-then-reached-eq0-clause-enough : goal.returns-then-reached-eq0-clause-enough
returns-then-reached-eq0-clause-enough c = λ list has begins.
    let v = c.args.self.now in
    let rise = kept_rise v.program.coding.now v.program.lengths.now v.program.bytes.now list v.kept.now has.kept has.ascend in
    let none = c.if-reached-eq0.true in
    none_enough v.program.coding.now v.program.lengths.now v.program.bytes.now list v.kept.now v.rows c.args.a no_state c.new.result.items
    has.kept begins has.ascend has.count
    (λ k h. subst (λ (n : ℕ). c.args.a < (get_or v.kept.now n k).address) none
    (c.count_up_to-reached.ensures.next rise k (omega (arith, none, h)))) c.new.ensures.items

pub returns-then-state-self-clause-enough : goal.returns-then-state-self-clause-enough
returns-then-state-self-clause-enough c = λ list has begins.
    let v = c.args.self.now in
    let within = (kept_get v.program.coding.now v.program.lengths.now v.program.bytes.now list v.kept.now
    (c.count_up_to-reached.result - 1) no_state has.kept (omega arith)).within in
    absurd (omega (arith, within))

pub returns-clause-enough : goal.returns-clause-enough
returns-clause-enough c = λ list has begins.
    let v = c.args.self.now in
    let reached : ℕ = c.count_up_to-reached.result in
    let k : Kept = get_or v.kept.now (reached - 1) no_state in
    let rise = kept_rise v.program.coding.now v.program.lengths.now v.program.bytes.now list v.kept.now has.kept has.ascend in
    enough v.program.coding.now v.program.lengths.now v.program.bytes.now list v.kept.now v.rows (reached - 1) reached
    c.saturating_sub-count.result c.args.a c.last_before-last.result c.in_ok-rows.last no_state c.in_ok-rows.rows.items has.kept has.ascend
    has.count (omega arith) (omega arith) (c.count_up_to-reached.ensures.last rise no_state (omega arith))
    (λ k h. c.last_before-last.ensures.before k h (c.count_up_to-reached.ensures.next rise k h))
    (c.saturating_sub-count.ensures ∙ ap (λ (n : ℕ). n - k.index) c.row_at.ensures)
    c.in_ok-rows.ensures.front
