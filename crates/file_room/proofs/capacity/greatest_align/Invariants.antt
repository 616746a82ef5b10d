use Rattle.std.proofs.Common.{◌≡◌, ◌<◌, take}
use Rattle.file_room.specs.Room.{greatest_align}
use Rattle.file_room.proofs.capacity.greatest_align.Given as goal

abbrev pub invariant-loop-p : goal.invariant-loop-p
invariant-loop-p l = (l.align ≡ greatest_align (take l.p-index l.segments)) × (0 < l.align)
