use Rattle.std.proofs.Common.{◌≡◌, take}
use Rattle.std.specs.Prelude.{filter_map}
use Rattle.cover_lists.specs.CoverIndex.{place_at}
use Rattle.range_loc_rewrite.proofs.places.places_of.Given as goal

abbrev pub invariant-loop-number : goal.invariant-loop-number
invariant-loop-number l = l.places.items ≡ filter_map (place_at l.ranged) (take l.number-index l.numbers)
