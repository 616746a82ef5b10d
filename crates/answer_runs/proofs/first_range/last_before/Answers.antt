use Rattle.std.proofs.Common.{arith, ap, length, ◌≡◌, ◌<◌, ◌≤◌, get_or, rules}
use Rattle.std.proofs.lemmas.Bool.Decides.{nat_tests}
use Rattle.answer_runs.specs.declared.pieces.Piece.{Piece}
use Rattle.answer_runs.proofs.first_range.last_before.Goals as goal

pub returns-in-Some-clause-later : goal.returns-in-Some-clause-later
returns-in-Some-clause-later c = λ x k d low le within.
    let piece = c.in-Some.piece.now in
    let is : piece ≡ get_or c.args.pieces.now c.args.i d = search rules in
    let up : (get_or c.args.pieces.now c.args.i d).start ≤ (get_or c.args.pieces.now k d).start = c.requires.rises c.args.i k d le within in
    let above : c.args.a < (get_or c.args.pieces.now c.args.i d).start = c.requires.above c.args.i d (omega arith) (omega arith) in
    let first : piece.start ≡ (get_or c.args.pieces.now c.args.i d).start = ap (λ (p : Piece). p.start) is in
    let start : x < piece.start = grind (arith, nat_tests, c.min.ensures, c.saturating_sub.ensures) in
    omega (arith, start, first, up)

pub returns-in-Some-clause-above : goal.returns-in-Some-clause-above
returns-in-Some-clause-above c =
    let piece = c.in-Some.piece.now in
    let is : piece ≡ get_or c.args.pieces.now c.args.i piece = search rules in
    let within : c.args.i < length c.args.pieces.now = search rules in
    let above : c.args.a < (get_or c.args.pieces.now c.args.i piece).start = c.requires.above c.args.i piece (omega arith) within in
    let first : piece.start ≡ (get_or c.args.pieces.now c.args.i piece).start = ap (λ (p : Piece). p.start) is in
    grind (arith, nat_tests, c.min.ensures, c.saturating_sub.ensures)
