use Rattle.addr_map.proofs.Orders.{lines_ascend, lines_apart, lines_disjoint}
use Rattle.addr_map.proofs.addr_map.AddrMap.new.Goals as goal

pub new-requires : goal.new-requires
new-requires c = rw c.deref.ensures.value (lines_apart c.in_ok-sort_by_line.ensures c.requires.once)

pub new-requires-2-clause-ascending : goal.new-requires-2-clause-ascending
new-requires-2-clause-ascending c = rw c.deref-2.ensures.value (lines_ascend c.in_ok-sort_by_line.ensures)

pub new-requires-2-clause-disjoint : goal.new-requires-2-clause-disjoint
new-requires-2-clause-disjoint c =
    rw c.deref-2.ensures.value (lines_disjoint c.in_ok-sort_by_line.ensures c.requires.disjoint)

pub invariant_of-result : goal.invariant_of-result
invariant_of-result c a =
    rw (c.in_ok-by_new.ensures, c.deref-2.ensures.value) (rw c.deref.ensures.value at c.in_ok-by_old.ensures a)
