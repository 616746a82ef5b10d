use Rattle.std.proofs.Common.{◌≡◌, ◌++◌, drop, map}
use Rattle.std.specs.List.{flat_map, enumerate_from}
use Rattle.elf_image.specs.memory.HiddenFields.{hidden_in_segment}
use Rattle.sym_machine.specs.internal.Fields.{range_of_field}
use Rattle.sym_machine.proofs.hidden.push_all.Given as goal

abbrev pub invariant-loop-index : goal.invariant-loop-index
invariant-loop-index l =
    map range_of_field l.out.items ++ flat_map (hidden_in_segment l.elf) (enumerate_from l.index (drop l.index l.segments))
    ≡ map range_of_field l.initial.out.items ++ flat_map (hidden_in_segment l.elf) (enumerate_from 0 l.segments)
