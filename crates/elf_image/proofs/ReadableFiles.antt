-- A file that isn't truncated contains all its structures.
use Rattle.std.proofs.Common.{◌≡◌, ◌≤◌, ◌<◌, ◌+◌, inl, inr, ⊎_elim, ℕ, zero, suc, List, Option, Some, None}
use Rattle.std.proofs.Common.{length, IfSome, IfNone, refl, arith, rules}
use Rattle.std.proofs.lemmas.Bool.{cases_lt, cases_Bool}
use Rattle.std.proofs.lemmas.Bool.Decides.{eqb_tells}
use Rattle.elf_image.specs.declared.section.SectionHeader.{SectionHeader}
use Rattle.elf_image.specs.declared.segment.TheConstants.{PT_LOAD}
use Rattle.elf_image.specs.faults.Truncation.{IsWhole, HasHeader, HasSegments, HasSections, HasContents, HasSymbolNames}
use Rattle.elf_image.specs.faults.Truncation.{IsTruncated, IsTruncatedBeyond, IsReadable}
use Rattle.elf_image.specs.file.Header.{e_phnum, e_shnum, e_shstrndx, e_phoff, e_shoff, segment}
use Rattle.elf_image.specs.file.Sections.{section_header}
use Rattle.elf_image.proofs.TruncatedPlaces.{symbol_table_from}
use Rattle.elf_image.specs.faults.LowestPlace.{IsLowest}

-- Completeness of a range is decidable, so a range that can't be incomplete is complete.
IsWhole-stable : (file : List ℕ) (offset size : ℕ) → ((IsWhole file offset size → ⊥) → ⊥) → IsWhole file offset size
IsWhole-stable file offset size not_truncated = search (rules, eqb_tells)

HasContents-stable : (file : List ℕ) (s : SectionHeader) → ((HasContents file s → ⊥) → ⊥) → HasContents file s
HasContents-stable file s not_truncated = search (rules, eqb_tells, IsWhole-stable)

-- What holds for all sections holds for the symbol table.
symbol_table_from-all : (P : SectionHeader → Type 0) (file : List ℕ) (i n count : ℕ) → i + n ≡ count →
    ((j : ℕ) → j < count → P (section_header file j)) → IfSome (symbol_table_from file i n) P
symbol_table_from-all P file i zero count e all = search rules
symbol_table_from-all P file i (suc n) count e all =
    search (rules, section_header, cases_Bool, symbol_table_from-all P file (i + 1) n count (omega arith) all)

module _ (file : List ℕ) (none : (place : ℕ) → IsTruncated file place → ⊥) where
  header : HasHeader file
  header =
      ⊎_elim
      (λ (short : length file < 64). absurd
      (none 0 (inl (λ (has : HasHeader file). let fits : 64 ≤ length file = has in omega arith, refl))))
      (λ (fits : 64 ≤ length file). fits)
      (cases_lt (length file) 64)

  beyond : (place : ℕ) → IsTruncatedBeyond file place → ⊥
  beyond place truncated = none place (inr (header, truncated))

  segments : HasSegments file
  segments = IsWhole-stable file _ _ (λ truncated. beyond (e_phoff file) (inl (inr (inl (truncated, refl)))))

  sections : HasSections file
  sections = IsWhole-stable file _ _ (λ truncated. beyond (e_shoff file) (inl (inr (inr (truncated, refl)))))

  ranges : (i : ℕ) → i < e_phnum file → (segment file i).kind ≡ PT_LOAD →
      IsWhole file (segment file i).offset (segment file i).filesz
  ranges i below load =
      IsWhole-stable file (segment file i).offset (segment file i).filesz
      (λ truncated. beyond (segment file i).offset (inr (inl (segments, (i, below, ((load, truncated), refl))))))

  contents : (i : ℕ) → i < e_shnum file → HasContents file (section_header file i)
  contents i below =
      HasContents-stable file (section_header file i)
      (λ truncated. beyond (section_header file i).offset (inr (inr (sections, inl (i, below, (truncated, refl))))))

  named : e_shstrndx file < e_shnum file
  named =
      ⊎_elim
      (λ (below : e_shstrndx file < e_shnum file). below)
      (λ (past : e_shnum file ≤ e_shstrndx file). absurd (beyond 0x3e (inl (inl (inr (past, refl))))))
      (cases_lt (e_shstrndx file) (e_shnum file))

  pub not_truncated-readable : IsReadable file
  not_truncated-readable = record {
    header = header;
    segments = segments;
    sections = sections;
    ranges = ranges;
    contents = contents;
    section_names = (named, contents (e_shstrndx file) named);
    symbol_names =
        symbol_table_from-all (HasSymbolNames file) file 0 (e_shnum file) (e_shnum file) (omega arith)
        (λ j below. (contents j below, λ linked. contents (section_header file j).link linked));
  }

pub lowest-readable : (file : List ℕ) (r : Option ℕ) → IsLowest (IsTruncated file) r → IfNone r (IsReadable file)
lowest-readable file None is = not_truncated-readable file (λ p truncated. is.least p truncated)
lowest-readable file (Some place) is = search rules
