use Rattle.std.proofs.Common.{take}
use Rattle.std.specs.Prelude.{◌<◌, All}
use Rattle.elf_plan.specs.LoadedRanges.{HaveLoaded}
use Rattle.elf_plan.proofs.loaded_ranges.loaded_ranges.Given as goal

abbrev pub invariant-loop-p : goal.invariant-loop-p
invariant-loop-p l = record {
  full : All (λ s. s.start < s.end) l.ranges.items;
  bytes : HaveLoaded (take l.p-index l.segments) l.ranges.items;
}
