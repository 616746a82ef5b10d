use Rattle.std.proofs.Common.{◌∙◌, ◌*◌, ◌^◌, ◌<◌, length, arith}
use Rattle.addr_map.proofs.Owners.{by_new_parts, spans_parts}
use Rattle.addr_map.proofs.new_order.NewOrder.new.Goals as goal

pub invariant_of-result : goal.invariant_of-result
invariant_of-result c =
    let few : 24 * length c.args.lines.now < 2 ^ 63 = omega arith in
    by_new_parts c.args.lines.now _ _ _ _
    (c.in_ok-outs.ensures ∙ c.in_ok-outs_of.ensures) c.in_ok-lens.ensures c.in_ok-inputs.ensures few c.requires.ascending
    c.requires.disjoint
    (rw c.deref.ensures.value at c.in_ok-holders.ensures.count)
    (rw c.deref.ensures.value at c.in_ok-holders.ensures.held)

pub returns : goal.returns
returns c =
    rw (c.in_ok-outs.ensures ∙ c.in_ok-outs_of.ensures, c.in_ok-lens.ensures, c.in_ok-inputs.ensures)
    (spans_parts c.args.lines.now)
