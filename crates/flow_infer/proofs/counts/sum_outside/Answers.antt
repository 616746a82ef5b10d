use Rattle.std.proofs.Common.{arith}
use Rattle.std.specs.Prelude.{not, if◌then◌else◌}
use Rattle.std.proofs.lemmas.List.Sums.{sum_by_more, sum_by_more_le}
use Rattle.rv_code.specs.layout.FunctionMembers.{func_holds}
use Rattle.edge_profile.specs.PairCounts.{Counted}
use Rattle.flow_infer.proofs.PairSums.{sum_chosen_le}
use Rattle.flow_infer.proofs.counts.sum_outside.Goals as goal

pub overflow_add-sum : goal.overflow_add-sum
overflow_add-sum c =
    let q = λ (p : Counted). not (func_holds p.1 c.args.func.now) in
    let whole = sum_by_more_le (λ (p : Counted). if q p then p.2 else 0) c.args.pairs.now c.loop-pair.pair-index (0, 0, 0)
    c.loop-pair-test.true in
    let chosen = sum_chosen_le (λ (p : Counted). p.2) q c.args.pairs.now in
    omega (arith, c.loop-pair.invariant, c.count_unless_held-sum.ensures, whole, chosen, c.requires)

pub loop-pair-preserved : goal.loop-pair-preserved
loop-pair-preserved c =
    let q = λ (p : Counted). not (func_holds p.1 c.args.func.now) in
    let more = sum_by_more (λ (p : Counted). if q p then p.2 else 0) c.args.pairs.now c.loop-pair.pair-index (0, 0, 0)
    c.loop-pair-test.true in
    omega (arith, c.loop-pair.invariant, c.count_unless_held-sum.ensures, more)
