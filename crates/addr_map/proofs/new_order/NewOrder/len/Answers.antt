use Rattle.std.proofs.Common.{◌≡◌, length, arith}
use Rattle.addr_map.specs.internal.Orders.{column_spans}
use Rattle.addr_map.proofs.Owners.{length_spans}
use Rattle.addr_map.proofs.new_order.NewOrder.len.Goals as goal

pub returns-clause-count : goal.returns-clause-count
returns-clause-count c =
    let m = c.self.inside in
    let i = c.self.invariant in
    let count : length (column_spans m.outs m.lens.items m.inputs.items) ≡ length m.outs
    = length_spans m.outs m.lens.items m.inputs.items i.lens_count i.inputs_count in
    rw (← c.self.view_is) (omega (arith, c.len.ensures, i.inputs_count, count, m.inputs.ok))

pub returns-clause-few : goal.returns-clause-few
returns-clause-few c =
    omega (arith, c.len.ensures, c.self.invariant.inputs_count, c.self.invariant.few, c.self.inside.inputs.ok)
