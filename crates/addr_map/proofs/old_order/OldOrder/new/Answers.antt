use Rattle.addr_map.proofs.Orders.{moved_columns}
use Rattle.addr_map.proofs.old_order.OldOrder.new.Goals as goal

pub returns : goal.returns
returns c a =
    moved_columns a c.requires c.in_ok-sorted.ensures.same
    (rw c.deref.ensures.value at c.in_ok-inputs.ensures)
    (rw c.deref-3.ensures.value at c.in_ok-outs.ensures)
