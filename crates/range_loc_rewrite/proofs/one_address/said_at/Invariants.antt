use Rattle.std.proofs.Common.{◌≡◌, take}
use Rattle.std.specs.Prelude.{flat_map}
use Rattle.dw_lists.specs.Locations.{all_said}
use Rattle.range_loc_rewrite.specs.OneAddress.{said_if}
use Rattle.range_loc_rewrite.proofs.one_address.said_at.Given as goal

abbrev pub invariant-loop-attr : goal.invariant-loop-attr
invariant-loop-attr l = all_said l.places ≡ flat_map (said_if l.found l.lists l.a) (take l.attr-index l.located)
