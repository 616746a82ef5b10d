use Rattle.std.proofs.Common.{◌≡◌, ℕ, ◌<◌, ◌≤◌, length, slice_index_or}
use Rattle.elf_image.specs.declared.section.Section.{Section}
use Rattle.elf_image.specs.declared.section.SectionHeader.{SectionHeader}
use Rattle.elf_plan.specs.declared.sections.Contents.{Contents}
use Rattle.elf_make.specs.PlacedContents.{set_header}
use Rattle.elf_make.proofs.new_sections.set_all_contents.Given as goal

abbrev pub invariant-loop-i : goal.invariant-loop-i
invariant-loop-i l =
    (length l.headers ≡ length l.initial.headers)
    × ((k : ℕ) (h : SectionHeader) (s : Section) (c : Contents) → k < l.i → slice_index_or l.headers k h
    ≡ set_header l.shift (slice_index_or l.contents k c) (slice_index_or l.sections k s)
    (slice_index_or l.initial.headers k h))
    × ((k : ℕ) (h : SectionHeader) → l.i ≤ k → slice_index_or l.headers k h ≡ slice_index_or l.initial.headers k h)
