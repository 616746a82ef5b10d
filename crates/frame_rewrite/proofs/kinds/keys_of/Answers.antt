use Rattle.std.proofs.Common.{◌≡◌, rules, sym, subst}
use Rattle.std.specs.Prelude.{All, Contains}
use Rattle.std.specs.List.{IsDistinct}
use Rattle.frame_rewrite.specs.SpelledFrames.{is_key}
use Rattle.frame_rewrite.proofs.KeyOrder.{keys-differ}
use Rattle.frame_rewrite.proofs.kinds.keys_of.Goals as goal

pub returns-clause-distinct : goal.returns-clause-distinct
returns-clause-distinct c =
    let same : c.in_ok-collect.field-0.items ≡ c.in_ok-kinds.kinds.keys = search rules in
    subst (IsDistinct is_key) (sym same) (keys-differ c.in_ok-kinds.kinds.keys c.iter.ensures.ordered)

pub returns-clause-needed : goal.returns-clause-needed
returns-clause-needed c = λ among all.
    let same : c.in_ok-collect.field-0.items ≡ c.in_ok-kinds.kinds.keys = search rules in
    subst (All (Contains among)) (sym same) (c.in_ok-kinds.ensures.needed among all)
