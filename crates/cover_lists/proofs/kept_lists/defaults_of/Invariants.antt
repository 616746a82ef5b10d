use Rattle.std.proofs.Common.{◌≡◌, take, map, filter}
use Rattle.cover_lists.specs.KeptLists.{items_in}
use Rattle.cover_lists.specs.ListPlaces.{located_of}
use Rattle.cover_lists.specs.Located.{expressions, is_default}
use Rattle.cover_lists.proofs.kept_lists.defaults_of.Given as goal

abbrev pub invariant-loop-place : goal.invariant-loop-place
invariant-loop-place l = items_in l.copies.items ≡ expressions (filter is_default (map located_of (take l.place-index l.places)))
