use Rattle.std.proofs.Common.{slice_index, arith}
use Rattle.std.proofs.lemmas.Grind.{common_steps}
use Rattle.block_layout.specs.Walks.{links_of}
use Rattle.block_layout.proofs.Starting.{start_at_none}
use Rattle.block_layout.proofs.PartLists.{split_none, split_more}
use Rattle.block_layout.proofs.functions.function_parts.Goals as goal

pub loop-func-init : goal.loop-func-init
loop-func-init c = grind (arith, common_steps, start_at_none, split_none, slice_index)

pub loop-func-preserved : goal.loop-func-preserved
loop-func-preserved c = (
  c.in_ok-parts.ensures.next,
  split_more c.args.blocks.now (λ k. slice_index c.args.weights.now k)
      (links_of c.args.links.now) c.loop-func.func c.loop-func.hot c.loop-func.cold
      c.push.new.self c.push-in-loop-func.new.self c.in_ok-parts.parts.hot c.in_ok-parts.parts.cold c.in_ok-push.ensures.items
      c.in_ok-push-2.ensures.items
      c.in_ok-parts.ensures.parts c.loop-func.invariant.1,
)

pub returns : goal.returns
returns c = grind (arith, common_steps, slice_index)
