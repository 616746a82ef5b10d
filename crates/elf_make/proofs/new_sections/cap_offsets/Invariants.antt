use Rattle.std.proofs.Common.{◌≡◌, ℕ, ◌<◌, ◌≤◌, length, slice_index_or}
use Rattle.elf_image.specs.declared.section.SectionHeader.{SectionHeader}
use Rattle.elf_make.specs.SectionTable.{capped}
use Rattle.elf_make.proofs.new_sections.cap_offsets.Given as goal

abbrev pub invariant-loop-i : goal.invariant-loop-i
invariant-loop-i l =
    (length l.headers ≡ length l.initial.headers)
    × ((k : ℕ) (d : SectionHeader) → k < l.i → slice_index_or l.headers k d ≡ capped l.end (slice_index_or l.initial.headers k d))
    × ((k : ℕ) (d : SectionHeader) → l.i ≤ k → slice_index_or l.headers k d ≡ slice_index_or l.initial.headers k d)
