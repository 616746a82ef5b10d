use Rattle.std.proofs.Common.{◌≡◌, take, map}
use Rattle.cover_lists.specs.EntryAddresses.{first_start}
use Rattle.cover_lists.specs.ListPlaces.{located_of}
use Rattle.cover_lists.specs.Located.{ranges_in}
use Rattle.cover_lists.proofs.groups.first_start.Given as goal

abbrev pub invariant-loop-place : goal.invariant-loop-place
invariant-loop-place l = l.first ≡ first_start (ranges_in (map located_of (take l.place-index l.places)))
