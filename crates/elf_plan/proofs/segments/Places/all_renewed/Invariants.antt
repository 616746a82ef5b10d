use Rattle.std.proofs.Common.{take}
use Rattle.elf_plan.specs.NewSegments.{AreRenewed, grows_at}
use Rattle.elf_plan.specs.PlacedHeaders.{AreNewEach}
use Rattle.elf_plan.proofs.segments.Places.all_renewed.Given as goal

abbrev pub invariant-loop-i : goal.invariant-loop-i
invariant-loop-i l = record {
  renewed : AreRenewed l.self.shift.from l.self.shift.by l.self.area.end l.self.area.tight
      (grows_at l.self.area.tight l.code) (take l.i l.self.elf.now.segments.items) l.segments.items;
  each : AreNewEach l.self l.code l.segments.items;
}
