use Rattle.std.proofs.Common.{arith, ◌≡◌, ◌≢◌, ◌∙◌, sym, ap, Some, false, IsTrue}
use Rattle.std.proofs.lemmas.Option.{get_or_from_slice_get, slice_get_within}
use Rattle.answer_runs.proofs.Grown.{last-get, said-last}
use Rattle.cover_lists.specs.KeptLists.{items_in}
use Rattle.cover_lists.specs.ListRuns.{said}
use Rattle.cover_lists.proofs.list_runs.ends_with.Goals as goal

pub returns-in-Some-clause-has : goal.returns-in-Some-clause-has
returns-in-Some-clause-has c = λ same.
    let is = sym c.in-Some.ensures.value in
    let within = slice_get_within c.args.runs.now _ _ is in
    said-last said (λ m. Some (items_in c.args.answer.now) ≡ Some m) c.args.runs.now
    (last-get (λ r. Some (items_in c.args.answer.now) ≡ Some (said r.answer)) c.args.runs.now _ c.in-Some.last.now
    (omega (arith, within)) (sym (get_or_from_slice_get c.args.runs.now _ _ _ is))
    (ap Some (sym (ap items_in (sym c.deref.ensures.value) ∙ c.same_expressions.ensures.0 same))))

pub returns-in-Some-clause-lacks : goal.returns-in-Some-clause-lacks
returns-in-Some-clause-lacks c = λ differ.
    let is = sym c.in-Some.ensures.value in
    let within = slice_get_within c.args.runs.now _ _ is in
    said-last said (λ m. m ≢ items_in c.args.answer.now) c.args.runs.now
    (last-get (λ r. said r.answer ≢ items_in c.args.answer.now) c.args.runs.now _ c.in-Some.last.now
    (omega (arith, within)) (sym (get_or_from_slice_get c.args.runs.now _ _ _ is))
    (λ same. let t : IsTrue c.same_expressions.result = c.same_expressions.ensures.1 (ap items_in c.deref.ensures.value ∙ same) in
    let f : c.same_expressions.result ≡ false = differ in cc))
