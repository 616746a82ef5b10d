-- The places of names without an end, as the code finds them.
use Rattle.std.proofs.Common.{◌≡◌, ◌≢◌, inr, ⊎_elim, zero, ◌≤◌, ◌<◌, ◌+◌, ◌-◌, ℕ, suc, List, rules}
use Rattle.std.proofs.Common.{Option, Some, None, nat_le, if◌then◌else◌, subst, ap, arith}
use Rattle.std.proofs.lemmas.Bool.{eq-eqb}
use Rattle.std.proofs.lemmas.Bool.Decides.{nat_tests, eqb_tells}
use Rattle.elf_image.specs.faults.Truncation.{HasSymbolNames, IsUnnamedSymbol, IsUnnamedSymbolOf, HasHeader, IsTruncatedBeyond, IsTruncated}
use Rattle.elf_image.specs.file.StringTables.{IsUnended}
use Rattle.elf_image.specs.internal.TextEnds.{IsLastEnd}
use Rattle.elf_image.specs.faults.LowestPlace.{IsLowest, SomeBelow}
use Rattle.elf_image.specs.file.Sections.{section_header}
use Rattle.elf_image.specs.file.Symbols.{symbol_count}
use Rattle.elf_image.specs.declared.section.SectionHeader.{SectionHeader}
use Rattle.elf_image.specs.declared.section.TheConstants.{SHT_SYMTAB}
use Rattle.elf_image.proofs.LowestPlaces.{IsLowest-place, IsLowest-same, IsLowest-none}
use Rattle.std.specs.Prelude.{◌==◌, find, map}
use Rattle.std.specs.List.{range_with_len}

pub IsLowest-unended : (table : List ℕ) (end read name at place : ℕ) (r : Option ℕ) → IsLastEnd table end → read ≡ name →
    r ≡ (if nat_le end read then Some at else None) → at ≡ place → IsLowest (λ p. IsUnended table name × (p ≡ place)) r
IsLowest-unended table end read name at place r last same e there =
    IsLowest-place (IsUnended table name) (nat_le end read) at place r e there (
      λ is. let above : end ≤ name = grind (arith, nat_tests) in last.unended name above,
      λ unended. let above : end ≤ name = last.ended name unended in grind (arith, nat_tests),
    )

-- The first symbol table among n sections from index i on.
abbrev pub symbol_table_from : List ℕ → ℕ → ℕ → Option SectionHeader
symbol_table_from file i n = find (λ section. section.kind == SHT_SYMTAB) (map (section_header file) (range_with_len i n))

-- One of the remaining sections.
pub symbol_table_from-next : (file : List ℕ) (i n : ℕ) → i < n →
    symbol_table_from file i (n - i)
    ≡ (if (section_header file i).kind == SHT_SYMTAB then Some (section_header file i)
    else symbol_table_from file (i + 1) (n - (i + 1)))
symbol_table_from-next file i n below =
    let left : n - i ≡ suc (n - (i + 1)) = omega arith in
    ap (λ (k : ℕ). symbol_table_from file i k) left

pub symbol_table_from-found : (file : List ℕ) (i n : ℕ) → i < n → (section_header file i).kind ≡ SHT_SYMTAB →
    symbol_table_from file i (n - i) ≡ Some (section_header file i)
symbol_table_from-found file i n below is = search (rules, section_header, eq-eqb, symbol_table_from-next)

pub symbol_table_from-other : (file : List ℕ) (i n : ℕ) → i < n → (section_header file i).kind ≢ SHT_SYMTAB →
    symbol_table_from file (i + 1) (n - (i + 1)) ≡ symbol_table_from file i (n - i)
symbol_table_from-other file i n below other = search (rules, section_header, eqb_tells, symbol_table_from-next)

pub symbol_table_from-none : (file : List ℕ) (i n : ℕ) → n ≤ i → symbol_table_from file i (n - i) ≡ None
symbol_table_from-none file i n past = let left : n - i ≡ zero = omega arith in ap (λ (k : ℕ). symbol_table_from file i k) left

-- The names of the symbols of an optional table.
pub IsLowest-symbols : (file : List ℕ) (o : Option SectionHeader) (table : SectionHeader) (r : Option ℕ) → Some table ≡ o →
    HasSymbolNames file table → IsLowest (SomeBelow (symbol_count table) (IsUnnamedSymbol file table)) r →
    IsLowest (IsUnnamedSymbolOf file o) r
IsLowest-symbols file o table r same has is =
    subst
    (λ (t : Option SectionHeader). IsLowest (IsUnnamedSymbolOf file t) r)
    same
    (IsLowest-same r (λ p unnamed. (has, unnamed)) (λ p unnamed. unnamed.1) is)

pub IsLowest-no_names : (file : List ℕ) (o : Option SectionHeader) (table : SectionHeader) → Some table ≡ o →
    (HasSymbolNames file table → ⊥) → IsLowest (IsUnnamedSymbolOf file o) None
IsLowest-no_names file o table same lacks =
    subst
    (λ (t : Option SectionHeader). IsLowest (IsUnnamedSymbolOf file t) None)
    same
    (IsLowest-none (λ p unnamed. lacks unnamed.0))

-- The places of structures in a file with a complete header.
pub IsLowest-beyond : (file : List ℕ) (r : Option ℕ) → HasHeader file → IsLowest (IsTruncatedBeyond file) r →
    IsLowest (IsTruncated file) r
IsLowest-beyond file r has is =
    IsLowest-same r (λ p beyond. inr (has, beyond)) (λ p. ⊎_elim (λ truncated. absurd (truncated.0 has)) (λ beyond. beyond.1)) is
