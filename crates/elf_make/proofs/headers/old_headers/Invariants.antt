use Rattle.std.proofs.Common.{◌≡◌, ℕ, ◌<◌, ◌++◌, Some, length, slice_get, slice_index_or, take}
use Rattle.std.specs.Prelude.{flat_map}
use Rattle.elf_image.specs.declared.section.Section.{Section}
use Rattle.elf_image.specs.declared.section.SectionHeader.{SectionHeader}
use Rattle.elf_image.specs.file.Sections.{section_header}
use Rattle.elf_plan.specs.NewNames.{old_ended}
use Rattle.elf_make.specs.SetHeaders.{IsRenamed}
use Rattle.elf_make.proofs.headers.old_headers.Given as goal

abbrev pub invariant-loop-i : goal.invariant-loop-i
invariant-loop-i l =
    (length l.headers.items ≡ l.i)
    × ((k : ℕ) (s : Section) (d : SectionHeader) → k < l.i → slice_get l.elf.sections.items k ≡ Some s →
    IsRenamed l.names.bytes.items s (section_header l.elf.file.now k) (slice_index_or l.headers.items k d))
    × (l.names.bytes.items ≡ l.initial.names.bytes.items ++ flat_map old_ended (take l.i l.elf.sections.items))
