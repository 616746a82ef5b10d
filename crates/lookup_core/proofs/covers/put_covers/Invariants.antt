use Rattle.std.proofs.Common.{◌≡◌, ◌++◌, take, flat_map}
use Rattle.lookup_core.specs.Report.{covers_line}
use Rattle.lookup_core.proofs.covers.put_covers.Given as goal

abbrev pub invariant-loop-place : goal.invariant-loop-place
invariant-loop-place l = l.text.items ≡ l.initial.text.items ++ flat_map covers_line (take l.place-index l.places)
