-- The symbol table of a file that isn't truncated.
use Rattle.std.proofs.Common.{◌≡◌, ◌<◌, ◌≤◌, ◌+◌, ◌*◌, ℕ, List, Option, Some, IfSome, length, get_or, arith, subst, ⊎_elim, sym, ◌∙◌}
use Rattle.std.specs.Prelude.{◌==◌}
use Rattle.std.proofs.lemmas.Bool.{eqb-true}
use Rattle.std.proofs.lemmas.Option.{slice_get-get_or}
use Rattle.rb_bytes.proofs.Searches.{find-found}
use Rattle.elf_image.specs.declared.section.SectionHeader.{SectionHeader}
use Rattle.elf_image.specs.declared.section.TheConstants.{SHT_NOBITS, SHT_SYMTAB}
use Rattle.elf_image.specs.declared.symbol.Symbol.{Symbol}
use Rattle.elf_image.specs.declared.symbol.TheConstants.{SYM_SIZE}
use Rattle.elf_image.specs.faults.Truncation.{IsReadable, HasSymbolNames}
use Rattle.elf_image.specs.file.Header.{number_at}
use Rattle.elf_image.specs.file.ParsedFile.{AreSymbols}
use Rattle.elf_image.specs.file.Sections.{section_headers, text_of}
use Rattle.elf_image.specs.file.Symbols.{symbol_table, symbol_count, symbol_names, symbol_place}

-- an entry of the symbol table is in the file
pub entry_within : (file : List ℕ) (table : SectionHeader) (i : ℕ) → IsReadable file → symbol_table file ≡ Some table →
    i < symbol_count table → table.offset + SYM_SIZE * (i + 1) ≤ length file
entry_within file table i readable is few =
    let has : HasSymbolNames file table =
    subst (λ (t : Option SectionHeader). IfSome t (HasSymbolNames file)) is readable.symbol_names in
    let kind : table.kind ≡ SHT_SYMTAB =
    eqb-true table.kind SHT_SYMTAB (find-found (λ s. s.kind == SHT_SYMTAB) (section_headers file) table is).0 in
    ⊎_elim
    (λ (none : table.kind ≡ SHT_NOBITS). absurd (let same : SHT_SYMTAB ≡ SHT_NOBITS = sym kind ∙ none in omega (arith, same)))
    (λ whole. ⊎_elim (λ (empty : table.size ≡ 0). absurd (omega (arith, empty, few))) (λ inside. omega (arith, inside, few)) whole)
    has.0

-- the name of an entry
pub name_is : (file : List ℕ) (table : SectionHeader) (symbols : List Symbol) (i : ℕ) (d : Symbol) →
    AreSymbols file table (symbol_count table) symbols → i < length symbols →
    (get_or symbols i d).name.now ≡ text_of (symbol_names file table) (number_at file (symbol_place table i) 4)
name_is file table symbols i d are within = (are.each i (get_or symbols i d) (slice_get-get_or symbols i d within)).name
