use Rattle.std.proofs.Common.{take}
use Rattle.elf_plan.proofs.KeptRanges.{AreRanges}
use Rattle.elf_plan.proofs.kept_bytes.moved_ranges.Given as goal

abbrev pub invariant-loop-p : goal.invariant-loop-p
invariant-loop-p l = AreRanges l.from (take l.p-index l.segments) l.ranges.items
