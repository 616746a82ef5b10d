-- Tables of section headers and of symbols that are in a file are read back.
use Rattle.std.proofs.Common.{◌≡◌, ◌∙◌, ap, subst, refl, ℕ, zero, suc, ◌+◌, ◌*◌, ◌≤◌, ◌<◌, ◌^◌, List, [], ◌∷◌, ◌++◌}
use Rattle.std.proofs.Common.{length, get_or, arith}
use Rattle.std.specs.Prelude.{All}
use Rattle.elf_image.specs.declared.section.SectionHeader.{SectionHeader}
use Rattle.elf_image.specs.declared.section.TheConstants.{SHDR_SIZE}
use Rattle.elf_image.specs.declared.symbol.TheConstants.{SYM_SIZE}
use Rattle.elf_image.specs.file.Header.{number_at}
use Rattle.elf_image.specs.file.Sections.{section_header_at}
use Rattle.elf_parts.specs.declared.spell.SymbolEntry.{SymbolEntry}
use Rattle.elf_parts.specs.Patches.{Stands}
use Rattle.elf_parts.specs.Spellings.{Number, number, spelled, section_header_bytes, section_numbers, section_table, SectionFits}
use Rattle.elf_parts.specs.Spellings.{symbol_entries, symbol_entry_bytes, symbol_numbers, SymbolFits}
use Rattle.elf_parts.proofs.Patches.{number_at-stands}
use Rattle.elf_parts.proofs.Spellings.{length-spelled_more, length-spelled_none, number_at-here, number_at-next, stands-first, stands-rest}

-- Any of the numbers that are spelled.

-- how many bytes those before the one of an index take
pub before : List Number → ℕ → ℕ
before ns zero = 0
before [] (suc k) = 0
before (n ∷ ns) (suc k) = n.width + before ns k

number_at-item : (ns : List Number) (k : ℕ) (d : Number) → k < length ns →
    (get_or ns k d).value < 256 ^ (get_or ns k d).width →
    number_at (spelled ns) (before ns k) (get_or ns k d).width ≡ (get_or ns k d).value
unfolding before spelled
number_at-item [] k d below fits = absurd (omega arith)
number_at-item (n ∷ ns) zero d below fits = number_at-here n.width n.value ns fits
number_at-item (n ∷ ns) (suc k) d below fits =
    number_at-next n.width n.value ns (before ns k) (get_or ns k d).width ∙ number_at-item ns k d (omega arith) fits

item-within : (ns : List Number) (k : ℕ) (d : Number) → k < length ns →
    before ns k + (get_or ns k d).width ≤ length (spelled ns)
unfolding before
item-within [] k d below = absurd (omega arith)
item-within (n ∷ ns) zero d below = let size = length-spelled_more n.width n.value ns in omega (arith, size)
item-within (n ∷ ns) (suc k) d below =
    let size = length-spelled_more n.width n.value ns in
    let rest = item-within ns k d (omega arith) in
    omega (arith, size, rest)

-- where the numbers are in a file
pub number_at-spelled : (ns : List Number) (file : List ℕ) (o k : ℕ) (d : Number) → k < length ns →
    (get_or ns k d).value < 256 ^ (get_or ns k d).width → Stands file o (spelled ns) →
    number_at file (o + before ns k) (get_or ns k d).width ≡ (get_or ns k d).value
number_at-spelled ns file o k d below fits stands =
    number_at-stands file o (spelled ns) (before ns k) (get_or ns k d).width stands (item-within ns k d below)
    ∙ number_at-item ns k d below fits

-- Any of the headers of a table, each of which takes `size` bytes.
module _ {A : Type 0} (spell : A → List ℕ) (table : List A → List ℕ) (size : ℕ) (long : (x : A) → length (spell x) ≡ size)
    (more : (x : A) (xs : List A) → table (x ∷ xs) ≡ spell x ++ table xs) where
  pub stands-item : (xs : List A) (file : List ℕ) (o i : ℕ) (d : A) → i < length xs → Stands file o (table xs) →
      Stands file (o + size * i) (spell (get_or xs i d))
  stands-item [] file o i d below stands = absurd (omega arith)
  stands-item (x ∷ xs) file o zero d below stands =
      let here : o ≡ o + size * 0 = omega arith in
      subst (λ (p : ℕ). Stands file p (spell x)) here
      (stands-first file o (spell x) (table xs) (subst (Stands file o) (more x xs) stands))
  stands-item (x ∷ xs) file o (suc i) d below stands =
      let rest : Stands file (o + length (spell x)) (table xs) =
      stands-rest file o (spell x) (table xs) (subst (Stands file o) (more x xs) stands) in
      let next : Stands file (o + size) (table xs) = subst (λ (n : ℕ). Stands file (o + n) (table xs)) (long x) rest in
      let there : o + size + size * i ≡ o + size * suc i = grind arith in
      subst (λ (p : ℕ). Stands file p (spell (get_or xs i d))) there (stands-item xs file (o + size) i d (omega arith) next)

-- Section headers.

pub length-section_header_bytes : (s : SectionHeader) → length (section_header_bytes s) ≡ 64
length-section_header_bytes s = simp (length-spelled_more, length-spelled_none)

pub section_header_at-stands : (file : List ℕ) (o : ℕ) (s : SectionHeader) → SectionFits s →
    Stands file o (section_header_bytes s) → section_header_at file o ≡ s
unfolding before
section_header_at-stands file o s fits stands = λ i. record {
  name = (ap (λ (p : ℕ). number_at file p 4) first ∙ at 0 (omega arith) fits.name) i;
  kind = at 1 (omega arith) fits.kind i;
  flags = at 2 (omega arith) fits.flags i;
  addr = at 3 (omega arith) fits.addr i;
  offset = at 4 (omega arith) fits.offset i;
  size = at 5 (omega arith) fits.size i;
  link = at 6 (omega arith) fits.links.link i;
  info = at 7 (omega arith) fits.links.info i;
  align = at 8 (omega arith) fits.links.align i;
  entsize = at 9 (omega arith) fits.links.entsize i;
}
  where
    first : o ≡ o + 0
    first = omega arith

    at : (k : ℕ) → k < 10 →
        (get_or (section_numbers s) k (number 0 0)).value < 256 ^ (get_or (section_numbers s) k (number 0 0)).width →
        number_at file (o + before (section_numbers s) k) (get_or (section_numbers s) k (number 0 0)).width
        ≡ (get_or (section_numbers s) k (number 0 0)).value
    at k below fit = number_at-spelled (section_numbers s) file o k (number 0 0) below fit stands

-- a table of section headers that is in a file
pub section_header-stands : (ss : List SectionHeader) (file : List ℕ) (o i : ℕ) (d : SectionHeader) → i < length ss →
    All SectionFits ss → Stands file o (section_table ss) → section_header_at file (o + SHDR_SIZE * i) ≡ get_or ss i d
unfolding section_table
section_header-stands ss file o i d below fits stands =
    section_header_at-stands file (o + SHDR_SIZE * i) (get_or ss i d) (fits i d below)
    (stands-item section_header_bytes section_table SHDR_SIZE length-section_header_bytes (λ s more. refl) ss file o i d below stands)

-- Symbols.

pub length-symbol_entry_bytes : (s : SymbolEntry) → length (symbol_entry_bytes s) ≡ 24
length-symbol_entry_bytes s = simp (length-spelled_more, length-spelled_none)

-- what the entry at a place says
pub record IsEntryAt (file : List ℕ) (place : ℕ) (s : SymbolEntry) : Type 0 where
  pub name : number_at file place 4 ≡ s.name
  pub info : number_at file (place + 4) 1 ≡ s.info
  pub other : number_at file (place + 5) 1 ≡ s.other
  pub section : number_at file (place + 6) 2 ≡ s.section
  pub value : number_at file (place + 8) 8 ≡ s.value
  pub size : number_at file (place + 16) 8 ≡ s.size

pub symbol_at-stands : (file : List ℕ) (o : ℕ) (s : SymbolEntry) → SymbolFits s → Stands file o (symbol_entry_bytes s) →
    IsEntryAt file o s
unfolding before
symbol_at-stands file o s fits stands = record {
  name = ap (λ (p : ℕ). number_at file p 4) first ∙ at 0 (omega arith) fits.name;
  info = at 1 (omega arith) fits.info;
  other = at 2 (omega arith) fits.other;
  section = at 3 (omega arith) fits.section;
  value = at 4 (omega arith) fits.value;
  size = at 5 (omega arith) fits.size;
}
  where
    first : o ≡ o + 0
    first = omega arith

    at : (k : ℕ) → k < 6 →
        (get_or (symbol_numbers s) k (number 0 0)).value < 256 ^ (get_or (symbol_numbers s) k (number 0 0)).width →
        number_at file (o + before (symbol_numbers s) k) (get_or (symbol_numbers s) k (number 0 0)).width
        ≡ (get_or (symbol_numbers s) k (number 0 0)).value
    at k below fit = number_at-spelled (symbol_numbers s) file o k (number 0 0) below fit stands

pub symbol-stands : (ss : List SymbolEntry) (file : List ℕ) (o i : ℕ) (d : SymbolEntry) → i < length ss → All SymbolFits ss →
    Stands file o (symbol_entries ss) → IsEntryAt file (o + SYM_SIZE * i) (get_or ss i d)
unfolding symbol_entries
symbol-stands ss file o i d below fits stands =
    symbol_at-stands file (o + SYM_SIZE * i) (get_or ss i d) (fits i d below)
    (stands-item symbol_entry_bytes symbol_entries SYM_SIZE length-symbol_entry_bytes (λ s more. refl) ss file o i d below stands)
