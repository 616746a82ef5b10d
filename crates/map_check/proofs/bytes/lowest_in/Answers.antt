use Rattle.std.proofs.Common.{arith, ◌<◌, ◌≤◌, ⊎_elim}
use Rattle.std.proofs.lemmas.Bool.{both_ways, cases_lt}
use Rattle.map_check.proofs.bytes.lowest_in.Goals as goal

pub loop-a-preserved : goal.loop-a-preserved
loop-a-preserved c = record {
  from = omega (arith, c.kept_up_to-a.ensures.above);
  kept = λ r of ch q from below. ⊎_elim
      (λ (before : q < c.loop-a.a). c.loop-a.invariant.kept r of ch q from before)
      (λ (beyond : c.loop-a.a ≤ q).
      c.kept_up_to-a.ensures.kept r of ((c.is_kept.ensures r of ch).0 c.if-not-is_kept.false) q beyond below)
      (cases_lt q c.loop-a.a);
}

pub loop-a-smaller : goal.loop-a-smaller
loop-a-smaller c = omega (arith, c.kept_up_to-a.ensures.above)

pub returns-then-not-is_kept : goal.returns-then-not-is_kept
returns-then-not-is_kept c = λ r of ch. (
  c.loop-a.invariant.from,
  c.loop-a-test.true,
  (λ kept. both_ways c.is_kept.result c.if-not-is_kept.true ((c.is_kept.ensures r of ch).1 kept)),
  (λ q from below. c.loop-a.invariant.kept r of ch q from below),
)

pub returns : goal.returns
returns c = λ r of ch q from below. c.loop-a.invariant.kept r of ch q from (omega (arith, c.loop-a-test.false))
