use Rattle.inline_frames.proofs.Followings.{AreWith}
use Rattle.inline_frames.proofs.follow.add_namings.Given as goal

abbrev pub invariant-loop-entry : goal.invariant-loop-entry
invariant-loop-entry l = AreWith l.str_offsets l.entries l.wanted l.fn.found l.entry-index l.found
