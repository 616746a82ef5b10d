use Rattle.inline_frames.proofs.FileUnits.{AreFound}
use Rattle.inline_frames.proofs.walk.file_links.Given as goal

abbrev pub invariant-loop-number : goal.invariant-loop-number
invariant-loop-number l = AreFound l.reader.abbrevs l.reader.addr l.str_offsets l.covering l.reader.units l.number l.found.items
