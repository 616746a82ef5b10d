use Rattle.std.specs.Prelude.{◌-ℤ◌}
use Rattle.std.specs.Int.{w64}
use Rattle.std.proofs.Common.{◌≡◌, ◌+◌, FitsSigned, pos, length, rules, ◌∙◌}
use Rattle.std.proofs.lemmas.Int.{to_z-of_z}
use Rattle.flow_infer.proofs.Levels.{prices_next}
use Rattle.flow_infer.proofs.joining.prices.Goals as goal

pub loop-n-preserved : goal.loop-n-preserved
loop-n-preserved c =
    let long : length c.push.new.self.items ≡ length c.loop-n.prices.items + 1 = search rules in
    let fits : FitsSigned w64 c.price.result = search rules in
    prices_next c.args.heights.now c.loop-n.prices.items c.push.new.self.items c.loop-n.n _ c.in_ok-push.ensures.items
    (to_z-of_z w64 c.price.result fits ∙ c.price.ensures
    ∙ (λ i. pos (c.in_ok-level.ensures.level i) -ℤ pos (c.in_ok-outside.ensures.level i)))
    c.in_ok-level.ensures.near long c.loop-n.invariant
