use Rattle.rv_code.specs.layout.Lists.{ListsNumbers}
use Rattle.block_layout.proofs.Marking.{IsLeft}
use Rattle.block_layout.proofs.parts.cold_part.Given as goal

abbrev pub invariant-loop-block : goal.invariant-loop-block
invariant-loop-block l = ListsNumbers (IsLeft l.hot l.start l.block) l.part.items
