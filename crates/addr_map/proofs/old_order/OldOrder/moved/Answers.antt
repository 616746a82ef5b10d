use Rattle.std.proofs.Common.{◌≡◌, ◌∙◌, ◌<◌, ◌≤◌, Some, arith, sym, ap, length, get_or}
use Rattle.std.proofs.lemmas.Grind.{get_or_default_zero}
use Rattle.addr_map.proofs.Lookups.{moved_here, moved_nowhere}
use Rattle.addr_map.proofs.old_order.OldOrder.moved.Goals as goal

pub returns-then-i-len : goal.returns-then-i-len
returns-then-i-len c =
    let order = c.args.self.now in
    let all : c.count_below-i.result ≡ length order.inputs.items = omega (arith, c.if-i-len.true, c.len.ensures) in
    sym (moved_nowhere order.inputs.items order.outs.items c.args.a c.count_below-i.result order.rises order.same_count
    (rw c.deref.ensures.value at c.count_below-i.ensures.below) (rw c.deref.ensures.value at c.count_below-i.ensures.above)
    (λ inside e. omega arith))

pub returns-then-index-a : goal.returns-then-index-a
returns-then-index-a c =
    let order = c.args.self.now in
    let i = c.count_below-i.result in
    let bound : i ≤ length order.inputs.items = rw c.deref.ensures.value at c.count_below-i.ensures.bound in
    let inside : i < length order.inputs.items = omega (arith, c.if-i-len.false, c.len.ensures) in
    let here : get_or order.inputs.items i 0 ≡ c.args.a
    = sym (c.index.ensures ∙ get_or_default_zero order.inputs.items i c.index.result.now inside) ∙ c.if-index-a.true in
    let out : c.index-then-index-a.result.now ≡ get_or order.outs.items i 0
    = c.index-then-index-a.ensures
    ∙ get_or_default_zero order.outs.items i c.index-then-index-a.result.now (omega (arith, order.same_count)) in
    ap Some out
    ∙ sym (moved_here order.inputs.items order.outs.items c.args.a i order.rises order.same_count inside here)

pub returns-else-index-a : goal.returns-else-index-a
returns-else-index-a c =
    let order = c.args.self.now in
    let i = c.count_below-i.result in
    sym (moved_nowhere order.inputs.items order.outs.items c.args.a i order.rises order.same_count
    (rw c.deref.ensures.value at c.count_below-i.ensures.below) (rw c.deref.ensures.value at c.count_below-i.ensures.above)
    (λ inside e. c.if-index-a.false
    (c.index.ensures ∙ get_or_default_zero order.inputs.items i c.index.result.now inside ∙ e)))
