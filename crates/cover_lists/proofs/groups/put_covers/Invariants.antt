use Rattle.std.proofs.Common.{◌≡◌, ◌++◌, take, map}
use Rattle.cover_lists.specs.Groups.{covers_in}
use Rattle.cover_lists.specs.ListPlaces.{located_of}
use Rattle.cover_lists.proofs.groups.put_covers.Given as goal

abbrev pub invariant-loop-place : goal.invariant-loop-place
invariant-loop-place l =
    l.covers.items ≡ l.fn.covers.items ++ covers_in l.group (map located_of (take l.place-index l.places))
