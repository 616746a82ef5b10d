use Rattle.std.proofs.Common.{◌≡◌, ◌≤◌, arith, length, rules}
use Rattle.std.proofs.lemmas.Result.{on_ok_weaker}
use Rattle.flow_infer.proofs.Moves.{lifted}
use Rattle.flow_infer.proofs.lifting.lift.Goals as goal

pub returns : goal.returns
returns c =
    let tall : length c.raise.new.heights ≡ length c.args.heights.now = search rules in
    let within : c.longest_step-step.result ≤ c.longest_step-step.result = omega arith in
    on_ok_weaker c.raise.result
    (λ rises. lifted c.args.heights.now c.raise.new.heights c.args.first c.longest_step-step.result c.args.links.now
    c.args.distances.now tall c.requires.steady rises (c.longest_step-step.ensures c.longest_step-step.result within))
    c.raise.ensures
