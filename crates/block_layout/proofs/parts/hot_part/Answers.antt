use Rattle.std.proofs.Common.{sym, append_assoc, arith}
use Rattle.std.proofs.lemmas.List.{append-nil, take_all}
use Rattle.std.proofs.lemmas.Grind.{common_steps}
use Rattle.block_layout.proofs.ChainLists.{flat_more}
use Rattle.block_layout.proofs.parts.hot_part.Goals as goal

pub loop-other-init : goal.loop-other-init
loop-other-init c = sym (append-nil c.in_ok-part.part.items)

pub loop-other-preserved : goal.loop-other-preserved
loop-other-preserved c = grind (arith, common_steps, append_assoc, flat_more)

pub returns : goal.returns
returns c = grind (arith, common_steps, take_all)
