use Rattle.std.proofs.Common.{List}
use Rattle.elf_image.specs.declared.segment.Segment.{Segment}
use Rattle.elf_plan.specs.declared.area.Area.{Area}
use Rattle.elf_plan.specs.declared.area.Shift.{Shift}
use Rattle.elf_plan.specs.KeptBytes.{Keeps}
use Rattle.elf_plan.specs.WrittenSections.{is_written_by}
use Rattle.elf_plan.proofs.SectionOrder.{ListsBelow}
use Rattle.elf_plan.proofs.sections.Sections.order.Given as goal

abbrev pub invariant-loop-i : goal.invariant-loop-i
invariant-loop-i l =
    (segments : List Segment) (area : Area) (shift : Shift) → Keeps segments area shift l.self.kept.now →
    ListsBelow l.self.elf.now.sections.items (is_written_by l.self segments area shift) l.i l.order.items
