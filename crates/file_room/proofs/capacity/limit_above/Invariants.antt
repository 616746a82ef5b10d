use Rattle.std.proofs.Common.{◌≡◌, take}
use Rattle.file_room.specs.Room.{limit_above}
use Rattle.file_room.proofs.capacity.limit_above.Given as goal

abbrev pub invariant-loop-p : goal.invariant-loop-p
invariant-loop-p l = l.limit ≡ limit_above l.end (take l.p-index l.segments)
