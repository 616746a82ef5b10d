-- Sections that were read.
use Rattle.std.specs.Prelude.{ℕ, if◌then◌else◌}
use Rattle.elf_image.specs.declared.section.Section.{Section}
use Rattle.elf_image.specs.file.Sections.{holds_code}

-- the size of a section in bytes, if it has code; `header_code_bytes` gives it by the section's header
abbrev pub section_code_bytes : Section → ℕ
section_code_bytes section = if holds_code section.flags then section.size else 0
