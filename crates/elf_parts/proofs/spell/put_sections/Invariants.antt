use Rattle.std.proofs.Common.{◌≡◌, ℕ, ◌<◌, ◌++◌, take, slice_index_or}
use Rattle.elf_image.specs.declared.section.SectionHeader.{SectionHeader}
use Rattle.elf_parts.specs.Spellings.{SectionFits, section_table}
use Rattle.elf_parts.proofs.spell.put_sections.Given as goal

abbrev pub invariant-loop-s : goal.invariant-loop-s
invariant-loop-s l =
    (l.out.items ≡ l.fn.out.items ++ section_table (take l.s-index l.sections))
    × ((k : ℕ) (d : SectionHeader) → k < l.s-index → SectionFits (slice_index_or l.sections k d))
