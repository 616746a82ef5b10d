use Rattle.inline_frames.proofs.UnitChains.{AreLinks}
use Rattle.inline_frames.proofs.unit_chain.links_in.Given as goal

abbrev pub invariant-loop-number : goal.invariant-loop-number
invariant-loop-number l = AreLinks l.covering l.entries l.str_offsets l.depth l.number l.links.items
