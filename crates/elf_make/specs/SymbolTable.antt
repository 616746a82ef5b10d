-- The symbol table of a written file, as it is made. gABI, "Symbol Table".
use Rattle.std.specs.Prelude.{◌≡◌, ℕ, ◌+◌, ◌*◌, ◌<◌, ◌++◌, List, [], Option, Some, None, IsSome, IfSome, All, length}
use Rattle.std.specs.Prelude.{take, drop, slice_get, slice_index_or}
use Rattle.addr_map.specs.declared.span.Span.{Span}
use Rattle.addr_map.specs.Spans.{moved}
use Rattle.elf_image.specs.declared.elf.Elf.{Elf}
use Rattle.elf_image.specs.declared.section.Section.{Section}
use Rattle.elf_image.specs.declared.section.SectionHeader.{SectionHeader}
use Rattle.elf_image.specs.declared.symbol.Symbol.{Symbol}
use Rattle.elf_image.specs.declared.symbol.TheConstants.{STT_FUNC, SYM_SIZE}
use Rattle.elf_image.specs.file.Header.{number_at}
use Rattle.rv_code.specs.declared.placed.Func.{Func}
use Rattle.elf_parts.specs.declared.spell.SymbolEntry.{SymbolEntry}
use Rattle.elf_parts.specs.Patches.{Stands}
use Rattle.elf_parts.specs.Spellings.{SymbolFits, symbol_entries}
use Rattle.elf_plan.specs.declared.sections.Contents.{Contents}
use Rattle.elf_plan.specs.declared.sections.Contents.TheVariants.{Symbols}
use Rattle.elf_plan.specs.ColdSymbols.{cold_name, named_around}
use Rattle.elf_plan.specs.Contents.{section_bytes}
use Rattle.elf_plan.specs.Fragments.{IsFragmentAt}
use Rattle.elf_plan.specs.NameTables.{place_of_names, place_of_symbols}
use Rattle.elf_make.specs.NewSymbols.{IsNewSymbol, bytes_behind, local_count, named_parts, new_info}
use Rattle.elf_plan.specs.PairedLists.{GoTogether}
use Rattle.elf_make.specs.declared.headers.NewContents.{NewContents}
use Rattle.elf_plan.specs.NewNames.{ended}

-- Entries.

-- the symbol of an entry, with the name of `s`
abbrev pub with_entry : Symbol → SymbolEntry → Symbol
with_entry s e = record s {
  value = e.value;
  size = e.size;
  info = e.info;
  other = e.other;
  section = e.section;
}

-- The entry of the symbol `s` of the input. Its name is at the offset `at` of the table of names, as it was.
pub record IsEntryOf (funcs : List Func) (spans : List Span) (text at : ℕ) (s : Symbol) (e : SymbolEntry) : Type 0 where
  pub name : e.name ≡ at
  pub is : IsNewSymbol funcs spans text s (with_entry s e)

-- The entries of symbols whose entries in the input's table `table` are those from the index `first` on.
pub record AreEntriesOf (funcs : List Func) (spans : List Span) (text : ℕ) (table : List ℕ) (first : ℕ)
    (symbols : List Symbol) (entries : List SymbolEntry) : Type 0 where
  pub count : length entries ≡ length symbols
  pub each : (i : ℕ) (s : Symbol) (e : SymbolEntry) → slice_get symbols i ≡ Some s → slice_get entries i ≡ Some e →
      IsEntryOf funcs spans text (number_at table (SYM_SIZE * (first + i)) 4) s e

-- What the entry of a cold part says, except for its name.
pub record IsColdPlace (funcs : List Func) (spans : List Span) (text address : ℕ) (e : SymbolEntry) : Type 0 where
  pub info : e.info ≡ STT_FUNC
  pub other : e.other ≡ 0
  pub value : moved spans address ≡ Some e.value
  pub section : e.section ≡ text
  pub fragment : IsFragmentAt funcs spans address e.value e.size

-- The entry of the cold part at `address`, whose name is in the table `names`.
pub record IsColdEntry (names : List ℕ) (symbols : List Symbol) (funcs : List Func) (spans : List Span)
    (text address : ℕ) (e : SymbolEntry) : Type 0 where
  pub name : IfSome (named_around symbols funcs address) (λ s. Stands names e.name (ended (cold_name s.name.now)))
  pub place : IsColdPlace funcs spans text address e

-- The table.

-- Entries that are P were appended to the bytes of a table.
pub record Appends (P : List SymbolEntry → Type 0) (old new : List ℕ) : Type 0 where
  pub entries : List SymbolEntry
  pub are : P entries
  pub fits : All SymbolFits entries
  pub bytes : new ≡ old ++ symbol_entries entries

-- The bytes of a table: the entries of the local symbols, those that are added, those of the other symbols, and what is
-- after the last whole symbol of the input's table, whose header is `section`.
pub record IsTableOf (elf : Elf) (section : Section) (funcs : List Func) (spans : List Span) (text : ℕ)
    (added : List SymbolEntry) (bytes : List ℕ) : Type 0 where
  pub front : List SymbolEntry
  pub behind : List SymbolEntry
  pub front_are : AreEntriesOf funcs spans text (section_bytes elf.file.now section) 0
      (take (local_count elf.symbols.items section) elf.symbols.items) front
  pub behind_are : AreEntriesOf funcs spans text (section_bytes elf.file.now section)
      (local_count elf.symbols.items section)
      (drop (local_count elf.symbols.items section) elf.symbols.items) behind
  pub fits : All SymbolFits (front ++ (added ++ behind))
  pub is : bytes ≡ symbol_entries (front ++ (added ++ behind)) ++ bytes_behind elf section

-- The symbol table at the index `k`, and the number of local symbols that its header says, which is Info. The names of
-- added symbols are in the table `names`; none are added if there is no such table.
pub record HasTable (elf : Elf) (funcs : List Func) (spans : List Span) (cold : List ℕ) (symbol_names : Option ℕ)
    (text k : ℕ) (names bytes : List ℕ) (Info : ℕ → Type 0) : Type 0 where
  pub section : Section
  pub at : slice_get elf.sections.items k ≡ Some section
  pub added : List SymbolEntry
  pub named : IsSome symbol_names → GoTogether (IsColdEntry names elf.symbols.items funcs spans text)
      (named_parts elf.symbols.items funcs cold) added
  pub none : symbol_names ≡ None → added ≡ []
  pub table : IsTableOf elf section funcs spans text added bytes
  pub info : Info (new_info elf.symbols.items (length added) section)

-- the field `info` of the header at `k`, if there is one
abbrev pub SaysInfo : List SectionHeader → ℕ → ℕ → Type 0
SaysInfo headers k info = (d : SectionHeader) → k < length headers → (slice_index_or headers k d).info ≡ info

-- What is made of the input's symbol table, if it has one. `set` are the headers before contents have their places.
abbrev pub HasSymbols : Elf → List Func → List Span → List ℕ → List Contents → NewContents → List SectionHeader → Type 0
HasSymbols elf funcs spans cold contents new set = IfSome (place_of_symbols elf) (λ k.
    HasTable elf funcs spans cold (place_of_names elf) (length elf.sections.items) k new.symbol_names.now
    new.symbols.now (λ info. slice_get contents k ≡ Some Symbols → SaysInfo set k info))
