use Rattle.std.proofs.Common.{◌≡◌, ◌+◌, ◌≤◌, ◌-◌, length, arith, get_or, Some, None, [], ◌∷◌, ◌++◌, ap}
use Rattle.std.proofs.lemmas.Grind.{common_steps}
use Rattle.block_layout.specs.Walks.{links_of}
use Rattle.block_layout.proofs.Paths.{IsPath, IsWithin, path_short, path_more, path_one, last_more, as_chain}
use Rattle.block_layout.proofs.walks.chain.Goals as goal

pub loop-block-smaller : goal.loop-block-smaller
loop-block-smaller c =
    let within : IsWithin (length c.args.links.now.next.items) (links_of c.args.links.now) =
    record { inside = λ s t e. (c.requires.links.between.inside s t e).1; back = c.requires.links.between.back } in
    let e : get_or c.args.links.now.next.items c.loop-block.last None ≡ Some c.in-Some.block = grind (arith, common_steps) in
    let f : get_or c.args.links.now.next.items (get_or c.loop-block.chain.items (length c.loop-block.chain.items - 1) 0) None
    ≡ Some c.in-Some.block = rw (← c.loop-block.invariant.1) e in
    let more : IsPath (links_of c.args.links.now) c.args.head (c.loop-block.chain.items ++ c.in-Some.block ∷ []) =
    path_more c.loop-block.invariant.0 f in
    let short : length (c.loop-block.chain.items ++ c.in-Some.block ∷ []) ≤ length c.args.links.now.next.items =
    path_short within c.requires.first c.requires.inside more in
    let is = ap length c.in_ok-push-2.ensures.items in
    let one : length (c.loop-block.chain.items ++ c.in-Some.block ∷ []) ≡ length c.loop-block.chain.items + 1 =
    grind (arith, common_steps) in
    omega arith

pub loop-block-preserved : goal.loop-block-preserved
loop-block-preserved c =
    let e : get_or c.args.links.now.next.items c.loop-block.last None ≡ Some c.in-Some.block = grind (arith, common_steps) in (
      rw c.in_ok-push-2.ensures.items (path_more c.loop-block.invariant.0 (rw (← c.loop-block.invariant.1) e)),
      rw c.in_ok-push-2.ensures.items (last_more c.loop-block.chain.items c.in-Some.block),
      (c.requires.links.between.inside _ _ e).1,
    )

pub loop-block-init : goal.loop-block-init
loop-block-init c = grind (arith, common_steps, path_one, last_more)

pub returns : goal.returns
returns c = as_chain c.loop-block.invariant.0 c.requires.first c.loop-block.invariant.1 (grind (arith, common_steps))
