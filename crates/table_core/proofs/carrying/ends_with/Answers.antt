use Rattle.std.proofs.Common.{arith, ◌≡◌, ◌≢◌, sym, ap, Some, false, IsTrue}
use Rattle.std.proofs.lemmas.Option.{get_or_from_slice_get, slice_get_within}
use Rattle.answer_runs.proofs.Grown.{last-get, said-last}
use Rattle.table_core.proofs.carrying.ends_with.Goals as goal

pub returns-in-Some-clause-has : goal.returns-in-Some-clause-has
returns-in-Some-clause-has g c = λ same.
    let is = sym c.in-Some.ensures.value in
    let within = slice_get_within c.args.runs.now _ _ is in
    said-last g.T.ByAddress.said (λ m. Some (g.T.ByAddress.said c.args.answer.now) ≡ Some m) c.args.runs.now
    (last-get (λ r. Some (g.T.ByAddress.said c.args.answer.now) ≡ Some (g.T.ByAddress.said r.answer)) c.args.runs.now _ c.in-Some.last.now
    (omega (arith, within)) (sym (get_or_from_slice_get c.args.runs.now _ _ _ is)) (ap Some (sym (c.same.ensures.0 same))))

pub returns-in-Some-clause-lacks : goal.returns-in-Some-clause-lacks
returns-in-Some-clause-lacks g c = λ differ.
    let is = sym c.in-Some.ensures.value in
    let within = slice_get_within c.args.runs.now _ _ is in
    said-last g.T.ByAddress.said (λ m. m ≢ g.T.ByAddress.said c.args.answer.now) c.args.runs.now
    (last-get (λ r. g.T.ByAddress.said r.answer ≢ g.T.ByAddress.said c.args.answer.now) c.args.runs.now _ c.in-Some.last.now
    (omega (arith, within)) (sym (get_or_from_slice_get c.args.runs.now _ _ _ is))
    (λ same. let t : IsTrue c.same.result = c.same.ensures.1 same in let f : c.same.result ≡ false = differ in cc))
