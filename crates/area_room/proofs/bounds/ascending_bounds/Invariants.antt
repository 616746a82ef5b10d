use Rattle.std.proofs.Common.{◌≡◌, take}
use Rattle.area_room.specs.EntryNeeds.{bounds_of}
use Rattle.area_room.proofs.bounds.ascending_bounds.Given as goal

abbrev pub invariant-loop-entry : goal.invariant-loop-entry
invariant-loop-entry l = l.bounds.items ≡ bounds_of (take l.entry-index l.entries)
