use Rattle.std.proofs.Common.{arith, ◌≡◌, ◌≢◌, ◌∙◌, sym, ap, Some}
use Rattle.std.proofs.lemmas.Bool.Decides.{nat_tests}
use Rattle.std.proofs.lemmas.Option.{get_or_from_slice_get, slice_get_within}
use Rattle.answer_runs.proofs.Grown.{last-get, said-last}
use Rattle.cover_lists.specs.Stretches.{bounds_before}
use Rattle.cover_lists.proofs.stretches.goes_on.Goals as goal

pub returns-in-Some-clause-has : goal.returns-in-Some-clause-has
returns-in-Some-clause-has c = λ same.
    let is = sym c.in-Some.ensures.value in
    let within = slice_get_within c.args.stretches.now _ _ is in
    let equal : c.bounds_before-before.result ≡ c.bounds_before-now.result = grind (arith, nat_tests, same) in
    said-last (bounds_before c.args.bounds.now) (λ m. Some (bounds_before c.args.bounds.now c.args.a) ≡ Some m) c.args.stretches.now
    (last-get (λ r. Some (bounds_before c.args.bounds.now c.args.a) ≡ Some (bounds_before c.args.bounds.now r.answer)) c.args.stretches.now
    _
    c.in-Some.last.now (omega (arith, within)) (sym (get_or_from_slice_get c.args.stretches.now _ _ _ is))
    (ap Some (sym c.bounds_before-now.ensures ∙ sym equal ∙ c.bounds_before-before.ensures)))

pub returns-in-Some-clause-lacks : goal.returns-in-Some-clause-lacks
returns-in-Some-clause-lacks c = λ differ.
    let is = sym c.in-Some.ensures.value in
    let within = slice_get_within c.args.stretches.now _ _ is in
    let apart : c.bounds_before-before.result ≢ c.bounds_before-now.result = λ e. grind (arith, nat_tests, differ, e) in
    said-last (bounds_before c.args.bounds.now) (λ m. m ≢ bounds_before c.args.bounds.now c.args.a) c.args.stretches.now
    (last-get (λ r. bounds_before c.args.bounds.now r.answer ≢ bounds_before c.args.bounds.now c.args.a) c.args.stretches.now _
    c.in-Some.last.now (omega (arith, within)) (sym (get_or_from_slice_get c.args.stretches.now _ _ _ is))
    (λ same. apart (c.bounds_before-before.ensures ∙ same ∙ sym c.bounds_before-now.ensures)))
