use Rattle.std.proofs.Common.{◌≤◌}
use Rattle.elf_image.specs.faults.SegmentLayout.{IsLowestCodeBelow}
use Rattle.elf_image.proofs.faults.loading.lowest_code_from.Given as goal

abbrev pub invariant-loop-index : goal.invariant-loop-index
invariant-loop-index l = record { lowest : IsLowestCodeBelow l.segments.file.now l.index l.lowest; order : l.lowest ≤ l.index }
