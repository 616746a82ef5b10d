use Rattle.std.proofs.Common.{◌≡◌, drop, map}
use Rattle.dw_lists.specs.Locations.{place_said}
use Rattle.range_loc_rewrite.proofs.place_answer.same_places.Given as goal

abbrev pub invariant-loop-i : goal.invariant-loop-i
invariant-loop-i l = drop l.i (map place_said l.x) ≡ drop l.i (map place_said l.y) → map place_said l.x ≡ map place_said l.y
