use Rattle.std.proofs.Common.{◌≡◌, ◌++◌, drop, map}
use Rattle.cover_lists.specs.KeptLists.{numbered_covers}
use Rattle.cover_lists.specs.ListPlaces.{located_of}
use Rattle.cover_lists.proofs.kept_lists.covers_of.Given as goal

abbrev pub invariant-loop-number : goal.invariant-loop-number
invariant-loop-number l =
    l.covers.items ++ numbered_covers l.number (drop l.number (map located_of l.places)) ≡ numbered_covers 0 (map located_of l.places)
