use Rattle.std.proofs.Common.{◌<◌, ℕ}
use Rattle.std.specs.declared.cmp.Reverse.{Reverse}
use Rattle.std.proofs.lemmas.List.Elements.{All-head, All-tail}
use Rattle.std.proofs.lemmas.List.Sorted.{All-permutation}
use Rattle.flow_infer.proofs.distances.pop_node.Goals as goal

pub returns : goal.returns
returns c = λ nodes all.
    let both = All-permutation (λ (e : Reverse ℕ × ℕ). e.1 < nodes) _ _ c.in_ok-distance.ensures.permutation all in (
      All-head (λ (e : Reverse ℕ × ℕ). e.1 < nodes) _ _ both,
      All-tail (λ (e : Reverse ℕ × ℕ). e.1 < nodes) _ _ both,
    )
