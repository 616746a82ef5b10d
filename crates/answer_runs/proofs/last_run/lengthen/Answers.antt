use Rattle.std.proofs.Common.{arith, ◌≡◌, ◌<◌, ◌+◌, ◌^◌, length, vec_len, refl}
use Rattle.answer_runs.proofs.Grown.{get-last, set-longer}
use Rattle.answer_runs.proofs.last_run.lengthen.Goals as goal

pub overflow_add-last : goal.overflow_add-last
overflow_add-last g c =
    let n : vec_len c.args.runs.now ≡ length c.args.runs.now.items = omega (arith, c.args.runs.now.ok.0) in
    let b : 0 < vec_len c.args.runs.now = c.in-Some.ensures.variant.0 refl in
    let e = get-last (λ r. r.len + c.args.len < 2 ^ 64) c.args.runs.now.items _ c.in-Some.last.now (omega (arith, n, b))
    c.in-Some.ensures.value c.requires in
    omega (arith, e)

pub returns-in-Some : goal.returns-in-Some
returns-in-Some g c =
    let n : vec_len c.args.runs.now ≡ length c.args.runs.now.items = omega (arith, c.args.runs.now.ok.0) in
    let b : 0 < vec_len c.args.runs.now = c.in-Some.ensures.variant.0 refl in
    set-longer c.args.runs.now.items _ c.in-Some.last.now c.args.len (omega (arith, n, b)) c.in-Some.ensures.value
