use Rattle.std.proofs.Common.{◌≡◌, take}
use Rattle.std.specs.Prelude.{flat_map}
use Rattle.range_loc_rewrite.specs.KeptPlaces.{said_by_number}
use Rattle.dw_lists.specs.Locations.{all_said}
use Rattle.range_loc_rewrite.proofs.located_places.places_at.Given as goal

abbrev pub invariant-loop-number : goal.invariant-loop-number
invariant-loop-number l = all_said l.places ≡ flat_map (said_by_number l.kept l.a) (take l.number-index l.numbers)
