-- New names of sections whose names are used in the new area.
use Rattle.std.specs.Prelude.{ℕ, ◌||◌, if◌then◌else◌, Bool, nat_eq, List, ◌++◌, codes}
use Rattle.std.specs.List.{starts_with}
use Rattle.elf_image.specs.declared.section.Section.{Section}
use Rattle.elf_image.specs.file.Sections.{holds_code}
use Rattle.elf_image.specs.file.SectionNames.{names_frames}

-- Sections with instructions are renamed, and so are all sections with the names of unwind tables, loaded or not.
abbrev pub is_renamed : Section → Bool
is_renamed s = holds_code s.flags || names_frames s.name.now

abbrev pub old_name : List ℕ → List ℕ
old_name name = if starts_with nat_eq name (codes ".") then codes ".old" ++ name else codes ".old." ++ name

abbrev pub new_name : Section → List ℕ
new_name s = if is_renamed s then old_name s.name.now else s.name.now
