use Rattle.std.proofs.Common.{refl}
use Rattle.rv_memory.specs.PageIndex.{beside}
use Rattle.rv_memory.proofs.page_group.PageGroup.new.Goals as goal

pub returns : goal.returns
unfolding beside
returns c = λ q. rw ((c.in_ok-numbers.ensures).items, (c.in_ok-places.ensures).items) refl
