use Rattle.cover_lists.proofs.bounds.count_beside.Goals as goal

pub loop-k-init : goal.loop-k-init
loop-k-init c = c.are_up_to.ensures c.if-not-are_up_to.false
