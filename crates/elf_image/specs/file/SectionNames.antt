-- The section that a name refers to, if several sections of a file have the name. LSB, "The .eh_frame section" and "The
-- .eh_frame_hdr section"; DWARF 5, appendix B.
use Rattle.std.specs.Prelude.{ℕ, ◌&&◌, ◌||◌, not, if◌then◌else◌, Bool, true, nat_eq, List, Option, find, codes}
use Rattle.std.specs.List.{starts_with}
use Rattle.std.specs.Str.{bytes_eq}
use Rattle.elf_image.specs.declared.section.Section.{Section}
use Rattle.elf_image.specs.declared.section.TheConstants.{SHF_ALLOC}
use Rattle.elf_image.specs.file.Sections.{holds_code}
use Rattle.elf_image.specs.file.Header.{is_set}

abbrev pub is_loaded : Section → Bool
is_loaded section = is_set SHF_ALLOC section.flags

-- The name of the loaded unwind tables, or of their index.
abbrev pub names_frames : List ℕ → Bool
names_frames name = bytes_eq name (codes ".eh_frame") || bytes_eq name (codes ".eh_frame_hdr")

abbrev pub names_debug : List ℕ → Bool
names_debug name = starts_with nat_eq name (codes ".debug_")

-- Unwind tables are loaded and debug tables aren't, and neither is code. Other names refer to any section.
abbrev pub is_meant_by : List ℕ → Section → Bool
is_meant_by name section =
    if names_frames name then is_loaded section && not (holds_code section.flags)
    else if names_debug name then not (is_loaded section) && not (holds_code section.flags)
    else true

abbrev pub is_called : List ℕ → Section → Bool
is_called name section = bytes_eq section.name.now name && is_meant_by name section

-- The first section that a name refers to.
abbrev pub section_called : List Section → List ℕ → Option Section
section_called sections name = find (is_called name) sections
