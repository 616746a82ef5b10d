-- The sections with a special use, which are known before a file is written.
use Rattle.std.specs.Prelude.{◌≡◌, false, IfSome}
use Rattle.elf_image.specs.declared.elf.Elf.{Elf}
use Rattle.elf_image.specs.file.Header.{e_shstrndx}
use Rattle.elf_plan.specs.Contents.{is_at}
use Rattle.elf_plan.specs.declared.name_tables.OwnSections.{OwnSections}
use Rattle.elf_plan.specs.NameTables.{place_of_symbols, place_of_names}

pub record IsOwnOf (elf : Elf) (own : OwnSections) : Type 0 where
  pub names : own.section_names ≡ e_shstrndx elf.file.now
  pub symbols : own.symbols ≡ place_of_symbols elf
  pub symbol_names : own.symbol_names ≡ place_of_names elf
  -- the symbol table has no names, neither those of sections nor those of symbols
  pub apart : is_at own.section_names own.symbols ≡ false
  pub names_apart : IfSome own.symbol_names (λ i. is_at i own.symbols ≡ false)
