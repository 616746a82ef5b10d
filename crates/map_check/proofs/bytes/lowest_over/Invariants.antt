use Rattle.move_law.specs.Rewrite.{Rewrite}
use Rattle.elf_image.specs.faults.LowestPlace.{IsLowest, SomeBelow}
use Rattle.map_check.specs.internal.KeptBytes.{AreBytesOf, AreChangesOf, ChangedAt}
use Rattle.map_check.proofs.bytes.lowest_over.Given as goal

abbrev pub invariant-loop-segment : goal.invariant-loop-segment
invariant-loop-segment l =
    (r : Rewrite) → AreBytesOf r l.input l.output → AreChangesOf r l.changes →
    IsLowest (SomeBelow l.segment-index (ChangedAt r l.segments)) l.lowest
