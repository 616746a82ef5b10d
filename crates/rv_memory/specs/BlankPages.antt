-- Pages with no byte of the file.
use Rattle.std.specs.Prelude.{ℕ, ◌+◌, ◌||◌, nat_le, not, Bool}
use Rattle.elf_image.specs.declared.segment.Segment.{Segment}
use Rattle.elf_image.specs.memory.Image.{is_load}

-- None of a segment's file bytes is loaded to the page at address `from`.
abbrev pub misses : ℕ → Segment → Bool
misses from p = not (is_load p) || nat_le (p.vaddr + p.filesz) from || nat_le (from + 4096) p.vaddr
