use Rattle.std.proofs.Common.{◌≡◌, ◌-◌, ◌<◌, length, get_or}
use Rattle.block_layout.specs.Walks.{links_of}
use Rattle.block_layout.proofs.Paths.{IsPath}
use Rattle.block_layout.proofs.walks.chain.Given as goal

abbrev pub invariant-loop-block : goal.invariant-loop-block
invariant-loop-block l =
    IsPath (links_of l.links) l.head l.chain.items
    × (l.last ≡ get_or l.chain.items (length l.chain.items - 1) 0)
    × (l.last < length l.links.next.items)

abbrev pub decreases-loop-block : goal.decreases-loop-block
decreases-loop-block l = length l.links.next.items - length l.chain.items
