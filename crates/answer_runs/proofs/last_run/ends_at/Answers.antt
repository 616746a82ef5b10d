use Rattle.std.proofs.Common.{arith, ◌≤◌, ◌+◌, sym}
use Rattle.std.proofs.lemmas.Option.{get_or_from_slice_get, slice_get_within}
use Rattle.answer_runs.proofs.Grown.{ends-get, get-last, last-within}
use Rattle.answer_runs.proofs.last_run.ends_at.Goals as goal

pub overflow_add-result : goal.overflow_add-result
overflow_add-result g c =
    let is = sym c.in-Some.ensures.value in
    let within = slice_get_within c.args.runs.now _ _ is in
    let e = get-last (λ r. r.start + r.len ≤ c.args.end) c.args.runs.now _ c.in-Some.last.now (omega (arith, within))
    (sym (get_or_from_slice_get c.args.runs.now _ _ _ is)) (last-within 0 c.args.runs.now c.args.end c.requires) in
    omega (arith, e, c.ranges.end.fits)

pub returns-in-Some : goal.returns-in-Some
returns-in-Some g c =
    let is = sym c.in-Some.ensures.value in
    let within = slice_get_within c.args.runs.now _ _ is in
    ends-get c.args.runs.now _ c.in-Some.last.now c.args.end (omega (arith, within))
    (sym (get_or_from_slice_get c.args.runs.now _ _ _ is))
