use Rattle.std.proofs.Common.{◌≡◌, take, map}
use Rattle.cover_lists.specs.KeptLists.{items_in}
use Rattle.cover_lists.specs.ListPlaces.{located_of}
use Rattle.cover_lists.specs.Located.{expressions}
use Rattle.cover_lists.proofs.kept_lists.expressions_of.Given as goal

abbrev pub invariant-loop-place : goal.invariant-loop-place
invariant-loop-place l = items_in l.copies.items ≡ expressions (map located_of (take l.place-index l.places))
