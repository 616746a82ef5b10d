use Rattle.std.proofs.Common.{arith}
use Rattle.std.proofs.lemmas.Grind.{common_steps}
use Rattle.block_layout.proofs.Firsts.{first_block_at_start, first_block_test}
use Rattle.block_layout.proofs.links.is_first_block.Goals as goal

pub returns-then-block-eq0 : goal.returns-then-block-eq0
returns-then-block-eq0 c = grind (arith, common_steps, first_block_at_start)

pub returns : goal.returns
returns c = first_block_test c.args.blocks.now c.requires.blocks c.args.block _ _ c.requires.inside (omega arith)
