use Rattle.std.proofs.Common.{◌≡◌, ◌<◌, ◌^◌, take}
use Rattle.file_room.specs.Room.{highest_end}
use Rattle.file_room.proofs.capacity.highest_end.Given as goal

abbrev pub invariant-loop-p : goal.invariant-loop-p
invariant-loop-p l = (l.end ≡ highest_end (take l.p-index l.segments)) × (l.end < 2 ^ 65)
