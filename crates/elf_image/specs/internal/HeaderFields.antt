-- The fields of the file header that the code reads at once.
use Rattle.std.specs.Prelude.{ℕ, List}
use Rattle.elf_image.specs.declared.header.HeaderFields.{HeaderFields}
use Rattle.elf_image.specs.file.Header.{e_type, e_entry, e_phoff, e_shoff, e_flags, e_phentsize, e_phnum, e_shentsize}
use Rattle.elf_image.specs.file.Header.{e_shnum, e_shstrndx}

abbrev pub header_fields : List ℕ → HeaderFields
header_fields file = record {
  kind = e_type file;
  entry = e_entry file;
  phoff = e_phoff file;
  shoff = e_shoff file;
  flags = e_flags file;
  phentsize = e_phentsize file;
  phnum = e_phnum file;
  shentsize = e_shentsize file;
  shnum = e_shnum file;
  shstrndx = e_shstrndx file;
}
