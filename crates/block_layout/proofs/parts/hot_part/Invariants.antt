use Rattle.std.proofs.Common.{◌≡◌, ◌++◌, take, flat_map}
use Rattle.block_layout.proofs.parts.hot_part.Given as goal

abbrev pub invariant-loop-other : goal.invariant-loop-other
invariant-loop-other l = l.part.items ≡ l.initial.part.items ++ flat_map (λ c. c.blocks.items) (take l.other-index l.other-items)
