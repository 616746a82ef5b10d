use Rattle.std.proofs.Common.{◌-◌, ◌∙◌, sym, arith}
use Rattle.edge_profile.specs.PairCounts.{Counted}
use Rattle.edge_profile.specs.Pairs.{is_before}
use Rattle.edge_profile.proofs.AscendingPairs.{partitioned}
use Rattle.edge_profile.proofs.Partitions.{passes_up_to}
use Rattle.edge_profile.proofs.profile.are_before.Goals as goal

pub returns : goal.returns
returns c = λ last k d less.
    passes_up_to (λ (p : Counted). is_before p (c.args.from, c.args.to, 0)) c.args.pairs.now
    (partitioned c.args.pairs.now c.requires (c.args.from, c.args.to, 0)) (c.args.count - 1) _
    (omega (arith, c.if-count-eq0.false, c.if-pairs-count.false)) (sym c.is_before.ensures ∙ last) k d
    (omega (arith, c.if-count-eq0.false))
