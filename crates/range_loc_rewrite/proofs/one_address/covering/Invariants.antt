use Rattle.std.proofs.Common.{◌≡◌, take}
use Rattle.std.specs.Prelude.{flat_map}
use Rattle.range_loc_rewrite.specs.OneAddress.{place_if}
use Rattle.range_loc_rewrite.proofs.one_address.covering.Given as goal

abbrev pub invariant-loop-entry : goal.invariant-loop-entry
invariant-loop-entry l = l.places.items ≡ flat_map (place_if l.found) (take l.entry-index l.ranged)
