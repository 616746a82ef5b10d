-- The symbols of a written file, beside those of its input. gABI, "Symbol Table".
use Rattle.std.specs.Prelude.{◌≡◌, ℕ, ◌+◌, ◌*◌, ◌==◌, is_some, min, if◌then◌else◌, List, Some, IsFalse, IsTrue}
use Rattle.std.specs.Prelude.{MatchOption, IfSome, length, filter, take, drop}
use Rattle.addr_map.specs.declared.span.Span.{Span}
use Rattle.addr_map.specs.Spans.{moved}
use Rattle.elf_image.specs.declared.elf.Elf.{Elf}
use Rattle.elf_image.specs.declared.section.Section.{Section}
use Rattle.elf_image.specs.declared.symbol.Symbol.{Symbol}
use Rattle.elf_image.specs.declared.symbol.TheConstants.{STT_FUNC, SYM_SIZE}
use Rattle.elf_image.specs.file.Cuts.{names_function}
use Rattle.rv_code.specs.declared.placed.Func.{Func}
use Rattle.elf_plan.specs.ColdSymbols.{cold_name, named_around}
use Rattle.elf_plan.specs.Contents.{section_bytes}
use Rattle.elf_plan.specs.Fragments.{IsFragmentAt}
use Rattle.elf_plan.specs.PairedLists.{GoTogether}
use Rattle.elf_plan.specs.NameTables.{place_of_symbols, symbols_section}

-- A symbol whose value isn't the address of an instruction stays.
pub record IsUnmoved (s n : Symbol) : Type 0 where
  pub value : n.value ≡ s.value
  pub shndx : n.section ≡ s.section
  pub size : n.size ≡ s.size

-- Any other names the instruction's new address, in the section of the new code.
-- The size of a function is that of its new code from there on.
pub record IsMoved (funcs : List Func) (spans : List Span) (text to : ℕ) (s n : Symbol) : Type 0 where
  pub value : n.value ≡ to
  pub shndx : n.section ≡ text
  pub size : IsFalse (names_function s) → n.size ≡ s.size
  pub fragment : IsTrue (names_function s) → IsFragmentAt funcs spans s.value to n.size

pub record IsNewSymbol (funcs : List Func) (spans : List Span) (text : ℕ) (s n : Symbol) : Type 0 where
  pub name : n.name.now ≡ s.name.now
  pub info : n.info ≡ s.info
  pub other : n.other ≡ s.other
  pub place : MatchOption (moved spans s.value) (IsUnmoved s n) (λ to. IsMoved funcs spans text to s n)

-- The symbol of a cold part is a local one of a function.
pub record IsColdSymbol (symbols : List Symbol) (funcs : List Func) (spans : List Span) (text address : ℕ)
    (n : Symbol) : Type 0 where
  pub name : IfSome (named_around symbols funcs address) (λ s. n.name.now ≡ cold_name s.name.now)
  pub info : n.info ≡ STT_FUNC
  pub other : n.other ≡ 0
  pub value : moved spans address ≡ Some n.value
  pub shndx : n.section ≡ text
  pub fragment : IsFragmentAt funcs spans address n.value n.size

-- The cold parts that get a symbol are those of functions that have a name.
abbrev pub named_parts : List Symbol → List Func → List ℕ → List ℕ
named_parts symbols funcs cold = filter (λ a. is_some (named_around symbols funcs a)) cold

-- How many symbols are local by the table's header, and what a written one says:
-- the number up to the last that is added.
abbrev pub local_count : List Symbol → Section → ℕ
local_count symbols table = min (length symbols) table.info

abbrev pub new_info : List Symbol → ℕ → Section → ℕ
new_info symbols added table = if added == 0 then table.info else local_count symbols table + added

-- The added symbols are after the local ones.
pub record AreNewSymbols (old new : List Symbol) (funcs : List Func) (spans : List Span) (cold : List ℕ) (text : ℕ)
    (table new_table : Section) : Type 0 where
  pub info : new_table.info ≡ new_info old (length (named_parts old funcs cold)) table
  pub front : GoTogether (IsNewSymbol funcs spans text) (take (local_count old table) old)
      (take (local_count old table) new)
  pub added : GoTogether (IsColdSymbol old funcs spans text) (named_parts old funcs cold)
      (take (length (named_parts old funcs cold)) (drop (local_count old table) new))
  pub behind : GoTogether (IsNewSymbol funcs spans text) (drop (local_count old table) old)
      (drop (length (named_parts old funcs cold)) (drop (local_count old table) new))

-- what is in a symbol table after its last whole symbol
abbrev pub bytes_behind : Elf → Section → List ℕ
bytes_behind elf table = drop (SYM_SIZE * length elf.symbols.items) (section_bytes elf.file.now table)

-- The tables of two files: both have one, at the same index, or neither has symbols.
pub record HaveNewSymbols (elf new : Elf) (funcs : List Func) (spans : List Span) (cold : List ℕ) : Type 0 where
  pub place : place_of_symbols new ≡ place_of_symbols elf
  pub rest : (table new_table : Section) → symbols_section elf ≡ Some table → symbols_section new ≡ Some new_table →
      bytes_behind new new_table ≡ bytes_behind elf table
  pub symbols : (table new_table : Section) → symbols_section elf ≡ Some table → symbols_section new ≡ Some new_table →
      AreNewSymbols elf.symbols.items new.symbols.items funcs spans cold (length elf.sections.items) table new_table
