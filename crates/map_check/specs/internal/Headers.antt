-- Which fields of a file's headers are hidden, in the terms of the code.
use Rattle.std.specs.Prelude.{◌≡◌, ◌++◌, ◌||◌, nat_le, is_none, Bool, List}
use Rattle.elf_image.specs.declared.elf.Elf.{Elf}
use Rattle.elf_image.specs.memory.CodeSegment.{executable_end, executable_segment}
use Rattle.elf_image.specs.memory.HiddenFields.{e_entry_field, e_phnum_field, e_phoff_field, only, section_fields}
use Rattle.elf_image.specs.memory.LoadedBytes.{Range, address_of}
use Rattle.map_check.specs.declared.headers.Headers.{Headers}

pub record AreHeadersOf (elf : Elf) (tight : Bool) (h : Headers) : Type 0 where
  pub tight_is : h.tight ≡ tight
  pub entry_is : h.entry ≡ address_of elf e_entry_field
  pub executable_is : h.executable ≡ executable_segment elf.segments.items

-- the hidden fields of the file's own header
abbrev pub file_fields : Elf → Bool → List Range
file_fields elf tight =
    section_fields
    ++ only (tight || nat_le (executable_end elf.segments.items) elf.phoff) e_phoff_field
    ++ only tight e_phnum_field
    ++ only (is_none (address_of elf e_entry_field)) e_entry_field
