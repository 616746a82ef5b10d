use Rattle.std.proofs.Common.{◌≡◌, drop}
use Rattle.std.specs.Prelude.{find, ◌&&◌}
use Rattle.std.specs.List.{enumerate_from}
use Rattle.elf_image.specs.memory.CodeSegment.{executable_segment, is_lowest}
use Rattle.elf_image.specs.faults.SegmentLayout.{is_code_segment}
use Rattle.elf_image.proofs.code_segment.executable_segment.Given as goal

abbrev pub invariant-loop-i : goal.invariant-loop-i
invariant-loop-i l = find (λ e. is_code_segment e.1 && is_lowest l.segments e.1) (enumerate_from l.i (drop l.i l.segments))
    ≡ executable_segment l.segments
