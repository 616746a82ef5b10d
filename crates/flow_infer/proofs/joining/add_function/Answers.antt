use Rattle.std.proofs.Common.{◌≡◌, ◌+◌, ◌++◌, length, rules, arith}
use Rattle.std.proofs.lemmas.Grind.{common_steps}
use Rattle.flow_infer.specs.Heights.{AllHoldBy, AreAmong, AreLevel, ArePricesBy, BalancesWithin}
use Rattle.flow_infer.proofs.JoinedLinks.{settled_added}
use Rattle.flow_infer.proofs.joining.add_function.Goals as goal

pub returns-clause-settled : goal.returns-clause-settled
returns-clause-settled c =
    let first : c.len-first.result ≡ length c.args.flow.now.prices.items = search rules in
    let tall : length c.in_ok-heights.heights.items ≡ c.args.nodes = search rules in
    let links : c.extend_from_slice-2.new.self.items ≡ c.args.flow.now.links.items ++ c.settle.new.links = search rules in
    let prices : c.extend_from_slice.new.self.items ≡ c.args.flow.now.prices.items ++ c.in_ok-prices.prices.items = search rules in
    let long : length c.in_ok-prices.prices.items + 1 ≡ length c.in_ok-heights.heights.items = search rules in
    let by : ArePricesBy c.in_ok-heights.heights.items c.in_ok-prices.prices.items = search rules in
    let are : AreLevel c.in_ok-heights.heights.items = search rules in
    let among : AreAmong c.len-first.result c.args.nodes c.settle.new.links = search rules in
    let balanced : BalancesWithin c.len-first.result c.args.nodes c.settle.new.links = search rules in
    let hold : AllHoldBy c.in_ok-heights.heights.items c.len-first.result c.settle.new.links = search rules in
    settled_added c.args.flow.now.links.items c.settle.new.links c.extend_from_slice-2.new.self.items c.args.flow.now.prices.items
    c.in_ok-prices.prices.items c.extend_from_slice.new.self.items c.in_ok-heights.heights.items c.len-first.result c.args.nodes
    first tall links prices long are by among balanced hold

pub returns-clause-same : goal.returns-clause-same
returns-clause-same c = grind (arith, common_steps)
