use Rattle.std.proofs.Common.{◌≡◌, ◌++◌, take, flat_map, map}
use Rattle.lookup_core.specs.Report.{places_lines}
use Rattle.range_loc_rewrite.specs.Locations.{place_said}
use Rattle.lookup_core.proofs.places.put_places.Given as goal

abbrev pub invariant-loop-place : goal.invariant-loop-place
invariant-loop-place l = l.text.items ≡ l.initial.text.items ++ flat_map places_lines (map place_said (take l.place-index l.places))
