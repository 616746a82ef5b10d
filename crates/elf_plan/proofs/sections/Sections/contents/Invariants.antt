use Rattle.std.proofs.Common.{◌≡◌, ℕ, List, Some, length}
use Rattle.std.specs.Prelude.{position, slice_get}
use Rattle.elf_image.specs.declared.section.Section.{Section}
use Rattle.elf_image.specs.declared.segment.Segment.{Segment}
use Rattle.elf_plan.specs.declared.area.Area.{Area}
use Rattle.elf_plan.specs.declared.area.Shift.{Shift}
use Rattle.elf_plan.specs.declared.sections.Contents.{Contents}
use Rattle.elf_plan.specs.Contents.{contents_by, is_at, own_contents}
use Rattle.elf_plan.specs.KeptBytes.{Keeps}
use Rattle.elf_plan.proofs.sections.Sections.contents.Given as goal

abbrev pub invariant-loop-i : goal.invariant-loop-i
invariant-loop-i l = record {
  count : length l.contents.items ≡ l.i;
  each : (segments : List Segment) (area : Area) (shift : Shift) → Keeps segments area shift l.self.kept.now →
      (i : ℕ) (s : Section) (c : Contents) → slice_get l.self.elf.now.sections.items i ≡ Some s →
      slice_get l.contents.items i ≡ Some c →
      c ≡ contents_by l.self.own.section_names l.self.own.symbols l.self.own.symbol_names
      (position (is_at i) l.self.replaced.now) (own_contents segments area shift s) i s;
}
