use Rattle.std.proofs.Common.{◌<◌}
use Rattle.std.proofs.lemmas.List.Elements.{All-cons}
use Rattle.std.proofs.lemmas.List.Sorted.{All-permutation}
use Rattle.flow_infer.proofs.distances.push_node.Goals as goal

pub returns : goal.returns
returns c = λ nodes below all. All-permutation (λ e. e.1 < nodes) _ _ c.in_ok-push.ensures.permutation
    (All-cons (λ e. e.1 < nodes) _ _ below all)
