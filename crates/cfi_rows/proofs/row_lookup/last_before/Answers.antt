use Rattle.std.proofs.Common.{arith, ap, ◌≡◌, ◌<◌, ◌≤◌, get_or, rules}
use Rattle.std.proofs.lemmas.Bool.Decides.{nat_tests}
use Rattle.cfi_rows.specs.declared.row_history.KeptRow.{KeptRow}
use Rattle.cfi_rows.proofs.row_lookup.last_before.Goals as goal

pub returns-in-Some : goal.returns-in-Some
returns-in-Some c = λ x k d low le within.
    let row = c.in-Some.row.now in
    let is : row ≡ get_or c.args.rows.now c.args.i d = search rules in
    let up : (get_or c.args.rows.now c.args.i d).start ≤ (get_or c.args.rows.now k d).start = c.requires.rises c.args.i k d le within in
    let above : c.args.a < (get_or c.args.rows.now c.args.i d).start = c.requires.above c.args.i d (omega arith) (omega arith) in
    let first : row.start ≡ (get_or c.args.rows.now c.args.i d).start = ap (λ (r : KeptRow). r.start) is in
    let start : x < row.start = grind (arith, nat_tests, c.saturating_sub.ensures) in
    omega (arith, start, first, up)
