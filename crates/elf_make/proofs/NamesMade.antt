-- The tables of names of a file that was made are those that it must have, by what is read of it.
use Rattle.std.proofs.Common.{◌≡◌, ◌∙◌, sym, ap, subst, refl, ℕ, ◌<◌, List, [], Bool, true, false, Option, Some, None, String}
use Rattle.std.proofs.Common.{Vec, length, take, drop, slice_get, arith}
use Rattle.std.specs.Prelude.{All, IfSome, ◌==◌, ◌≢◌, if◌then◌else◌, nat_lt, option_and_then}
use Rattle.std.specs.Option.{option_map_or}
use Rattle.std.proofs.lemmas.Bool.{eq-eqb, eqb-false, ne_eqb}
use Rattle.std.proofs.lemmas.Option.{none-some, same_Some}
use Rattle.rv_code.specs.declared.placed.Func.{Func}
use Rattle.elf_image.specs.declared.elf.Elf.{Elf}
use Rattle.elf_image.specs.declared.section.Section.{Section}
use Rattle.elf_image.specs.declared.section.SectionHeader.{SectionHeader}
use Rattle.elf_image.specs.declared.section.TheConstants.{SHT_NOBITS, SHT_SYMTAB}
use Rattle.elf_image.specs.faults.FileFaults.{IsSound}
use Rattle.elf_image.specs.file.Header.{e_shnum, e_shstrndx}
use Rattle.elf_image.specs.file.ParsedFile.{IsElfOf}
use Rattle.elf_image.specs.file.Sections.{contents, section_header}
use Rattle.elf_image.specs.file.StringTables.{IsUnended}
use Rattle.elf_image.specs.file.Symbols.{symbol_names}
use Rattle.rb_bytes.proofs.ListLemmas.{slice_get_found}
use Rattle.elf_plan.specs.declared.sections.Contents.{Contents}
use Rattle.elf_plan.specs.declared.sections.Contents.TheVariants.{SymbolNames}
use Rattle.elf_plan.specs.Contents.{contents_by, is_at, own_contents, section_bytes, table_for}
use Rattle.elf_plan.specs.NameTables.{among, place_of_names, place_of_symbols, symbols_section}
use Rattle.elf_plan.specs.NewNames.{HaveNewNames, table_bytes}
use Rattle.elf_plan.specs.NewSections.{kind_of_own}
use Rattle.elf_make.specs.FileParts.{IsMade}
use Rattle.elf_make.specs.MadeNames.{HasNames}
use Rattle.elf_make.specs.MadeSections.{HasSections}
use Rattle.elf_make.specs.Source.{Source}
use Rattle.elf_make.proofs.AddedNames.{no_names}
use Rattle.elf_make.proofs.CellPieces.{CanHoldPiece}
use Rattle.elf_make.proofs.LayoutRead.{counted}
use Rattle.elf_make.proofs.MadeHeaders.{e_shstrndx-written}
use Rattle.elf_make.proofs.SectionsFollow.{held, says-written, x-is}
use Rattle.elf_make.proofs.SectionsNamed.{contents-read, own-held, table-read}
use Rattle.elf_make.proofs.SoundFiles.{readable}
use Rattle.elf_make.proofs.SymbolTables.{first-at, name-ended, name_at, names-at, names-there}

-- the section of symbols' names is that, if it has no other use
symbol_names-at : (names k : ℕ) (symbols symbol_names table : Option ℕ) (own : Contents) (x : Section) → (names == k) ≡ false →
    is_at k symbols ≡ false → is_at k symbol_names ≡ true → contents_by names symbols symbol_names table own k x ≡ SymbolNames
symbol_names-at names k symbols symbol_names table own x other apart at = grind (arith)

-- In a sound file that section has bytes, since the name of a symbol ends there.
module _ (elf : Elf) (read : IsElfOf elf.file.now elf) (sound : IsSound elf.file.now) (i : ℕ)
    (place : place_of_names elf ≡ Some i) where
  abbrev file : List ℕ
  file = elf.file.now

  some-symbol : 0 < length elf.symbols.items
  some-symbol = cases (length elf.symbols.items == 0) refl place
    where
      cases : (b : Bool) → (length elf.symbols.items == 0) ≡ b →
          (if b then None else option_and_then (λ s. among elf.sections.items s.link) (symbols_section elf)) ≡ Some i →
          0 < length elf.symbols.items
      cases true e is = absurd (none-some i is)
      cases false e is = let other = eqb-false (length elf.symbols.items) 0 e in omega (arith, other)

  -- the symbol table, whose header links to it
  module _ (k : ℕ) (t : Section) (there : place_of_symbols elf ≡ Some k) (at_t : slice_get elf.sections.items k ≡ Some t) where
    abbrev h : SectionHeader
    h = section_header file k

    link : h.link ≡ i
    link = sym (read.sections.each k t at_t).link
        ∙ same_Some t.link i (sym (names-at file elf read sound k t there at_t some-symbol) ∙ place)

    link-inside : i < length elf.sections.items
    link-inside =
        let low = names-there file elf read sound k t there at_t some-symbol in
        let same = link in
        let count = read.sections.count_is in
        omega (arith, low, same, count)

    link-bytes : (x : Section) → slice_get elf.sections.items i ≡ Some x → (x.kind == SHT_NOBITS) ≡ true → symbol_names file h ≡ []
    link-bytes x at_x e = either (nat_lt h.link (e_shnum file))
      where
        either : (b : Bool) → (if b then contents file (section_header file h.link) else []) ≡ []
        either false = refl
        either true =
            ap (λ (n : ℕ). contents file (section_header file n)) link
            ∙ contents-read file i x (read.sections.each i x at_x)
            ∙ ap (λ (b : Bool). if b then [] else take x.size (drop x.offset file)) e

    link-with_bytes : (x : Section) → slice_get elf.sections.items i ≡ Some x → (x.kind == SHT_NOBITS) ≡ false
    link-with_bytes x at_x = cases (x.kind == SHT_NOBITS) refl
      where
        cases : (b : Bool) → (x.kind == SHT_NOBITS) ≡ b → (x.kind == SHT_NOBITS) ≡ false
        cases false e = e
        cases true e =
            let (y, at_y) = slice_get_found elf.symbols.items 0 some-symbol in
            absurd (name-ended file elf read sound k t there at_t 0 y at_y
            (subst (λ (ys : List ℕ). IsUnended ys (name_at file elf read sound k t there at_t 0)) (sym (link-bytes x at_x e))
            (λ j from below. absurd (omega (arith, below)))))

  both-parts : (i < length elf.sections.items)
      × ((x : Section) → slice_get elf.sections.items i ≡ Some x → (x.kind == SHT_NOBITS) ≡ false)
  both-parts = cases (place_of_symbols elf) refl
    where
      cases : (o : Option ℕ) → place_of_symbols elf ≡ o → (i < length elf.sections.items)
          × ((x : Section) → slice_get elf.sections.items i ≡ Some x → (x.kind == SHT_NOBITS) ≡ false)
      cases None e = absurd (none-some i (sym (no_names elf e) ∙ place))
      cases (Some k) e =
          let is = first-at (λ (s : Section). s.kind == SHT_SYMTAB) elf.sections.items k e in
          (link-inside k is.x e is.at, link-with_bytes k is.x e is.at)

-- a fact of the place of names, if there is one
with-place : (o : Option ℕ) (P Q R : ℕ → Type 0) → ((i : ℕ) → o ≡ Some i → P i → Q i → R i) → IfSome o P → IfSome o Q → IfSome o R
with-place None P Q R gives p q = tt
with-place (Some i) P Q R gives p q = gives i refl p q

module _ {Y Z : Type 0} (s : Source) (tight : Bool) (w : List ℕ) (read : IsElfOf s.elf.file.now s.elf)
    (sound : IsSound s.elf.file.now) (made : IsMade s tight w) (can : All (CanHoldPiece s.elf) s.cells)
    (tables : List (String Y × Vec ℕ Z)) (has : HasSections s tables tight w made) (new : Elf) (new_read : IsElfOf w new)
    (funcs : List Func) (cold : List ℕ) (names : HasNames s.elf tables made.layout.area funcs cold has.put.new) where
  abbrev olds : List Section
  olds = s.elf.sections.items

  abbrev at : ℕ
  at = e_shstrndx s.elf.file.now

  bytes-are : (k : ℕ) (n : Section) → slice_get new.sections.items k ≡ Some n → table_bytes new k ≡ section_bytes w n
  bytes-are k n at_n =
      ap (λ (o : Option Section). option_map_or (section_bytes new.file.now) o []) at_n
      ∙ ap (λ (f : List ℕ). section_bytes f n) new_read.file_is

  there : (k : ℕ) → k < length olds → (n : Section) × (slice_get new.sections.items k ≡ Some n)
  there k low =
      let more = has.put.more in
      let all = counted s tight w read sound made can tables has new new_read in
      let (n, at_n) = slice_get_found new.sections.items k (omega (arith, low, more, all)) in
      (n, at_n)

  of-sections : table_bytes new at ≡ has.put.new.section_names.now
  of-sections =
      let inside = (readable s.elf.file.now sound).section_names.0 in
      let count = read.sections.count_is in
      let (n, at_n) = there at (omega (arith, inside, count)) in
      bytes-are at n at_n ∙ sym (contents-read w at n (new_read.sections.each at n at_n))
      ∙ sym (ap (λ (i : ℕ). contents w (section_header w i)) (e_shstrndx-written s tight w made))
      ∙ table-read s tight w read sound made can tables has new new_read

  of-symbols : (i : ℕ) → place_of_names s.elf ≡ Some i → is_at i (place_of_symbols s.elf) ≡ false → i ≢ at →
      table_bytes new i ≡ has.put.new.symbol_names.now
  of-symbols i place apart other =
      let low = (both-parts s.elf read sound i place).0 in
      let (x, at_x) = slice_get_found olds i low in
      let (n, at_n) = there i low in
      let here : is_at i (place_of_names s.elf) ≡ true = ap (is_at i) place ∙ eq-eqb i i refl in
      let known = symbol_names-at at i (place_of_symbols s.elf) (place_of_names s.elf) (table_for tables olds i)
      (own_contents s.elf.segments.items made.layout.area made.layout.shift x) x
      (ne_eqb at i (λ same. other (sym same))) apart here in
      let old = x-is s tight w read sound made can tables has new new_read i x n at_x at_n in
      let said = says-written s tight w read sound made can tables has new new_read i x n at_x at_n SymbolNames known refl in
      bytes-are i n at_n
      ∙ (held s tight w read sound made can tables has new new_read i x n at_x at_n SymbolNames known refl (kind_of_own x.kind)
      has.put.new.symbol_names.now (said.kind ∙ ap kind_of_own (sym old.kind)) refl
      (own-held x.kind has.put.new.symbol_names.now ((both-parts s.elf read sound i place).1 x at_x))).contents

  pub names-read : HaveNewNames s.elf new tables made.layout.area funcs cold
  names-read = record {
    sections = of-sections ∙ names.sections;
    symbols = with-place (place_of_names s.elf) _ _ _
        (λ i place apart are other. of-symbols i place apart other ∙ are other) has.names_apart names.symbols;
  }
