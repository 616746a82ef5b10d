use Rattle.std.proofs.Common.{◌≡◌, map, take}
use Rattle.range_loc_rewrite.specs.KeptPlaces.{ranged_of}
use Rattle.range_loc_rewrite.proofs.located_places.ranged_of.Given as goal

abbrev pub invariant-loop-attr : goal.invariant-loop-attr
invariant-loop-attr l = l.ranged.items ≡ map ranged_of (take l.attr-index l.located)
