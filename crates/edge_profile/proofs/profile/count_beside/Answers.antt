use Rattle.std.proofs.Common.{◌∙◌, sym, arith}
use Rattle.edge_profile.specs.PairCounts.{Counted}
use Rattle.edge_profile.specs.Pairs.{is_before}
use Rattle.edge_profile.proofs.AscendingPairs.{partitioned}
use Rattle.edge_profile.proofs.Partitions.{passes_up_to, fails_from}
use Rattle.edge_profile.proofs.profile.count_beside.Goals as goal

pub loop-k-init : goal.loop-k-init
loop-k-init c = c.are_before.ensures c.if-not-are_before.false

pub returns-then-not-is_before : goal.returns-then-not-is_before
returns-then-not-is_before c = record {
  within = omega (arith, c.loop-k-test.true, c.min-end.ensures);
  below = c.loop-k.invariant;
  above = fails_from (λ (p : Counted). is_before p (c.args.from, c.args.to, 0)) c.args.pairs.now
      (partitioned c.args.pairs.now c.requires (c.args.from, c.args.to, 0)) c.loop-k.k _
      (sym c.is_before.ensures ∙ c.if-not-is_before.true);
}

pub loop-k-preserved : goal.loop-k-preserved
loop-k-preserved c =
    passes_up_to (λ (p : Counted). is_before p (c.args.from, c.args.to, 0)) c.args.pairs.now
    (partitioned c.args.pairs.now c.requires (c.args.from, c.args.to, 0)) c.loop-k.k _
    (omega (arith, c.loop-k-test.true, c.min-end.ensures)) (sym c.is_before.ensures ∙ c.if-not-is_before.false)
