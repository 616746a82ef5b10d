use Rattle.std.proofs.Common.{◌≡◌, take}
use Rattle.area_room.specs.EntryNeeds.{entries_need}
use Rattle.file_room.specs.Numbers.{capped}
use Rattle.area_room.proofs.frame_need.sum_of_needs.Given as goal

abbrev pub invariant-loop-entry : goal.invariant-loop-entry
invariant-loop-entry l = l.sum ≡ capped (entries_need l.funcs l.blocks l.bounds (take l.entry-index l.entries))
