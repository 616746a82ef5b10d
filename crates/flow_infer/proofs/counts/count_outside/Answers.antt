use Rattle.std.proofs.Common.{◌∙◌, ap, List, sym, subst, sum_by, if◌then◌else◌}
use Rattle.std.specs.Prelude.{◌==◌, ◌<◌, ◌^◌, not}
use Rattle.rv_code.specs.layout.FunctionMembers.{func_holds}
use Rattle.edge_profile.specs.PairCounts.{Counted, total_count}
use Rattle.flow_infer.proofs.PairSums.{filtered_few, sum_filtered}
use Rattle.flow_infer.proofs.counts.count_outside.Goals as goal

pub sum_outside-requires : goal.sum_outside-requires
sum_outside-requires c = subst (λ (ps : List Counted). total_count ps < 2 ^ 100) (sym c.pairs_from.ensures)
    (filtered_few (λ (p : Counted). p.0 == c.args.address) c.args.pairs.now c.requires.few)

pub returns : goal.returns
returns c = c.sum_outside.ensures
    ∙ ap (λ (ps : List Counted). sum_by (λ (p : Counted). if not (func_holds p.1 c.args.func.now) then p.2 else 0) ps)
    c.pairs_from.ensures
    ∙ sum_filtered (λ (p : Counted). p.2) (λ (p : Counted). p.0 == c.args.address)
    (λ (p : Counted). not (func_holds p.1 c.args.func.now)) c.args.pairs.now
