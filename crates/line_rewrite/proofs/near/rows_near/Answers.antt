use Rattle.std.proofs.Common.{◌≤◌, ℕ, arith, min, subst, sym}
use Rattle.std.proofs.lemmas.Bool.Decides.{nat_tests}
use Rattle.line_rewrite.specs.LineMachine.{in_force}
use Rattle.line_rewrite.specs.SequenceIndex.{unit_sequence}
use Rattle.line_rewrite.proofs.LineLookups.{none_there, place_there, found_there}
use Rattle.line_rewrite.proofs.near.rows_near.Goals as goal

low_left : (x m n : ℕ) → x ≤ min m n → x ≤ m
low_left x m n h = grind (arith, nat_tests)

low_right : (x m n : ℕ) → x ≤ min m n → x ≤ n
low_right x m n h = grind (arith, nat_tests)

low_both : (x m n : ℕ) → x ≤ m → x ≤ n → x ≤ min m n
low_both x m n h k = grind (arith, nat_tests)

pub returns-in_default : goal.returns-in_default
returns-in_default c =
    none_there c.args.units.now c.args.index.now c.requires c.args.a _
    (c.find-found.ensures.first c.args.a (omega arith) c.find-found.ensures.last) c.in_default.is

pub returns-in_default-view_at : goal.returns-in_default-view_at
returns-in_default-view_at c =
    absurd (place_there c.args.units.now c.args.index.now c.requires c.args.a _ c.in-Some.place
    (c.find-found.ensures.first c.args.a (omega arith) c.find-found.ensures.last) c.in-Some.is c.in_default-view_at.ensures.none)

pub returns : goal.returns
returns c =
    let p = c.in-Some.place in
    let at = c.in-Some-view_at.ensures.found in
    let enough = c.in_ok-rows.ensures.enough (unit_sequence at.unit at.sequence).rows at.has at.begins in
    let m = c.in_ok-rows.high in
    let n = c.find-found.result.1 in (
      record {
        ascend = enough.ascend;
        found = λ x low high.
            let to : x ≤ min m n = subst (λ (k : ℕ). x ≤ k) c.min.ensures high in
            found_there c.args.units.now c.args.index.now c.requires x _ p (c.find-found.ensures.first x low (low_right x m n to))
            c.in-Some.is
            at.unit at.unit_is at.sequence at.sequence_is (in_force x c.in_ok-rows.rows.items) (enough.same x low (low_left x m n to));
      },
      record {
        low = omega arith;
        high = subst (λ (k : ℕ). c.args.a ≤ k) (sym c.min.ensures)
            (low_both c.args.a m n c.in_ok-rows.ensures.least c.find-found.ensures.last);
      },
    )
