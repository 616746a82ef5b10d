-- The symbols of a file that was made, by its sections and its tables of names.
use Rattle.std.proofs.Common.{◌≡◌, ◌≢◌, ◌∙◌, sym, ap, subst, refl, ℕ, ◌≤◌, ◌<◌, ⊎_elim, List, [], ◌++◌, Option}
use Rattle.std.proofs.Common.{Some, None, Bool, String, Vec, length, arith, rules}
use Rattle.std.specs.Prelude.{All, Contains, IsSome, option_and_then, slice_get, ◌==◌, if◌then◌else◌}
use Rattle.std.specs.Option.{option_map_or}
use Rattle.std.proofs.lemmas.Bool.{cases_eq, cases_lt, lt-ltb}
use Rattle.std.proofs.lemmas.List.{nil_from_length}
use Rattle.std.proofs.lemmas.Option.{none-some, same_Some, slice_get_within}
use Rattle.rv_code.specs.declared.placed.Func.{Func}
use Rattle.elf_image.specs.declared.elf.Elf.{Elf}
use Rattle.elf_image.specs.declared.section.Section.{Section}
use Rattle.elf_image.specs.declared.section.SectionHeader.{SectionHeader}
use Rattle.elf_image.specs.declared.section.TheConstants.{SHT_SYMTAB}
use Rattle.elf_image.specs.declared.symbol.Symbol.{Symbol}
use Rattle.elf_image.specs.declared.symbol.TheConstants.{SYM_SIZE}
use Rattle.elf_image.specs.faults.FileFaults.{IsSound}
use Rattle.elf_image.specs.file.Header.{e_shnum, e_shstrndx}
use Rattle.elf_image.specs.file.ParsedFile.{AreSymbols, IsElfOf, IsSectionAt}
use Rattle.elf_image.specs.file.Sections.{contents, section_header, text_of}
use Rattle.elf_image.specs.file.Symbols.{symbol_count, symbol_names}
use Rattle.elf_parts.specs.Patches.{Stands}
use Rattle.elf_parts.proofs.Patches.{stands-front}
use Rattle.elf_plan.specs.declared.sections.Contents.{Contents}
use Rattle.elf_plan.specs.declared.sections.Contents.TheVariants.{Symbols}
use Rattle.elf_plan.specs.Contents.{section_bytes}
use Rattle.elf_plan.specs.NameTables.{among, place_of_names, place_of_symbols, symbols_section}
use Rattle.elf_plan.specs.NewNames.{HaveNewNames, cold_names, names_added, table_bytes}
use Rattle.elf_plan.specs.NewSections.{AreNewSections, Follows, HoldsContents, adds_ranges, kind_of_own}
use Rattle.elf_plan.specs.PairedLists.{GoTogether}
use Rattle.elf_plan.proofs.Positions.{find-from_position, find-no_position}
use Rattle.rb_bytes.proofs.ListLemmas.{contains_at, if_found, slice_get_found}
use Rattle.elf_make.specs.NewSymbols.{AreNewSymbols, HaveNewSymbols, bytes_behind, named_parts, new_info}
use Rattle.elf_make.specs.FileParts.{IsMade}
use Rattle.elf_make.specs.MadeNames.{HasNames}
use Rattle.elf_make.specs.MadeSections.{HasSections}
use Rattle.elf_make.specs.Source.{Source}
use Rattle.elf_make.specs.SymbolTable.{HasSymbols, HasTable, IsColdEntry, SaysInfo}
use Rattle.elf_make.proofs.CellPieces.{CanHoldPiece}
use Rattle.elf_make.proofs.NamesRead.{IsClean, clean-text, text-kept}
use Rattle.elf_make.proofs.SectionsFollow.{at-contents, held, known, says-written, set-as, stands-written}
use Rattle.elf_make.proofs.SectionsNamed.{contents-read}
use Rattle.elf_make.proofs.SectionsRead.{no_header}
use Rattle.elf_make.proofs.SymbolTables.{is_table, kind-is, name-ended, name-read, name_at, names-at, names-there, rest-small}
use Rattle.elf_make.proofs.SymbolTables.{section-is, symbols-of}
use Rattle.elf_make.proofs.SymbolsPlaced.{known-symbols, place-same}
use Rattle.elf_make.proofs.SymbolsRead.{are-new, no-parts, rest-same}

-- the bytes of a section that is there
bytes-at : (elf : Elf) (i : ℕ) (x : Section) → slice_get elf.sections.items i ≡ Some x → table_bytes elf i ≡ section_bytes elf.file.now x
bytes-at elf i x at = ap (λ (o : Option Section). option_map_or (section_bytes elf.file.now) o []) at

module _ {Y Z : Type 0} (s : Source) (tight : Bool) (w : List ℕ) (read : IsElfOf s.elf.file.now s.elf)
    (sound : IsSound s.elf.file.now) (made : IsMade s tight w) (can : All (CanHoldPiece s.elf) s.cells)
    (tables : List (String Y × Vec ℕ Z)) (has : HasSections s tables tight w made) (new : Elf) (new_read : IsElfOf w new)
    (funcs : List Func) (cold : List ℕ)
    (has_symbols : HasSymbols s.elf funcs s.spans cold has.contents has.put.new has.put.set)
    (has_names : HasNames s.elf tables made.layout.area funcs cold has.put.new)
    (sections : AreNewSections s.elf new tables made.layout.area made.layout.shift s.code)
    (names : HaveNewNames s.elf new tables made.layout.area funcs cold) where
  abbrev f : List ℕ
  f = s.elf.file.now

  abbrev olds : List Symbol
  olds = s.elf.symbols.items

  -- the written table of the names of symbols
  abbrev texts : List ℕ
  texts = has.put.new.symbol_names.now

  abbrev bytes : List ℕ
  bytes = has.put.new.symbols.now

  place : place_of_symbols new ≡ place_of_symbols s.elf
  place = place-same s.elf new tables made.layout.area made.layout.shift s.code sections has.apart

  -- It begins with the old one, and is what is read.
  texts-read : (i : ℕ) → place_of_names s.elf ≡ Some i →
      (table_bytes new i ≡ texts) × ((more : List ℕ) × (texts ≡ table_bytes s.elf i ++ more))
  texts-read i at = ⊎_elim
      (λ (same : i ≡ e_shstrndx f).
      let more : List ℕ = names_added s.elf made.layout.area (adds_ranges s.elf.sections.items tables) funcs cold in
      let is : texts ≡ has.put.new.section_names.now = if_found _ (place_of_names s.elf) i at has_names.shared same in (
        ap (table_bytes new) same ∙ names.sections ∙ sym has_names.sections ∙ sym is,
        (more, is ∙ has_names.sections ∙ ap (λ (k : ℕ). table_bytes s.elf k ++ more) (sym same)),
      ))
      (λ (other : i ≢ e_shstrndx f).
      let is : texts ≡ table_bytes s.elf i ++ cold_names olds funcs cold =
      if_found _ (place_of_names s.elf) i at has_names.symbols other in (
        if_found _ (place_of_names s.elf) i at names.symbols other ∙ sym is,
        (cold_names olds funcs cold, is),
      ))
      (cases_eq i (e_shstrndx f))

  -- If the input has a symbol table.
  module _ (k : ℕ) (e : place_of_symbols s.elf ≡ Some k)
      (t : HasTable s.elf funcs s.spans cold (place_of_names s.elf) (length s.elf.sections.items) k texts bytes
      (λ info. slice_get has.contents k ≡ Some Symbols → SaysInfo has.put.set k info)) (n : Section)
      (at_n : slice_get new.sections.items k ≡ Some n) where
    abbrev x : Section
    x = t.section

    abbrev at_x : slice_get s.elf.sections.items k ≡ Some x
    at_x = t.at

    is-symbols : known s tight w read sound made can tables has new new_read k x ≡ Symbols
    is-symbols = known-symbols s.elf new tables made.layout.area made.layout.shift s.code sections has.apart k x e at_x

    x-kind : x.kind ≡ SHT_SYMTAB
    x-kind = kind-is f s.elf read sound k x e at_x

    said : (n.kind ≡ kind_of_own x.kind) × (n.link ≡ x.link)
    said =
        let is = subst (λ (c : Contents). Follows tables made.layout.shift f new.file.now c x n) is-symbols
        (sections.follows k x n at_x at_n) in
        (is.kind, is.fields.link)

    holds : HoldsContents w bytes n
    holds = held s tight w read sound made can tables has new new_read k x n at_x at_n Symbols is-symbols refl SHT_SYMTAB bytes
        (said.0 ∙ ap kind_of_own x-kind) refl (λ none. absurd (cc))

    stands : Stands w n.offset bytes
    stands = stands-written s tight w read sound made can tables has new new_read k x n at_x at_n Symbols is-symbols refl

    abbrev h : SectionHeader
    h = section_header w k

    abbrev is_n : IsSectionAt w k n
    is_n = new_read.sections.each k n at_n

    new-symbols : AreSymbols w h (symbol_count h) new.symbols.items
    new-symbols = symbols-of w new new_read k (place ∙ e)

    info : n.info ≡ new_info olds (length t.added) x
    info =
        let below = slice_get_within s.elf.sections.items k x at_x in
        let more = has.put.more in
        (says-written s tight w read sound made can tables has new new_read k x n at_x at_n Symbols is-symbols refl).info
        ∙ ap (λ (g : SectionHeader). g.info)
        (sym (set-as s tight w read sound made can tables has new new_read k x n at_x at_n Symbols is-symbols))
        ∙ t.info
        (at-contents s tight w read sound made can tables has new new_read k x n at_x at_n ∙ ap (λ (c : Contents). Some c) is-symbols)
        no_header (omega (arith, below, more))

    -- The names of symbols, if there are symbols.
    module _ (some : 0 < length olds) where
      abbrev i : ℕ
      i = x.link

      at-names : place_of_names s.elf ≡ Some i
      at-names = names-at f s.elf read sound k x e at_x some

      link-within : i < length s.elf.sections.items
      link-within =
          let there = names-there f s.elf read sound k x e at_x some in
          let link = (read.sections.each k x at_x).link in
          let count = read.sections.count_is in
          omega (arith, there, link, count)

      names-are : symbol_names w h ≡ texts
      names-are =
          let low = link-within in
          let count = new_read.sections.count_is in
          let all = sections.count in
          let (m, at_m) = slice_get_found new.sections.items i (omega (arith, low, all)) in
          let link : h.link ≡ i = sym is_n.link ∙ said.1 in
          ap (λ (b : Bool). if b then contents w (section_header w h.link) else [])
          (lt-ltb h.link (e_shnum w) (omega (arith, low, count, all, link)))
          ∙ ap (λ (j : ℕ). contents w (section_header w j)) link
          ∙ contents-read w i m (new_read.sections.each i m at_m)
          ∙ ap (λ (g : List ℕ). section_bytes g m) (sym new_read.file_is)
          ∙ sym (bytes-at new i m at_m) ∙ (texts-read i at-names).0

      old-names : symbol_names f (section_header f k) ≡ table_bytes s.elf i
      old-names =
          let there = names-there f s.elf read sound k x e at_x some in
          let link : (section_header f k).link ≡ i = sym (read.sections.each k x at_x).link in
          let (y, at_y) = slice_get_found s.elf.sections.items i link-within in
          ap (λ (b : Bool). if b then contents f (section_header f (section_header f k).link) else [])
          (lt-ltb (section_header f k).link (e_shnum f) there)
          ∙ ap (λ (j : ℕ). contents f (section_header f j)) link
          ∙ contents-read f i y (read.sections.each i y at_y) ∙ sym (bytes-at s.elf i y at_y)

      name-kept : (j : ℕ) (y : Symbol) → slice_get olds j ≡ Some y →
          text_of (symbol_names w h) (name_at f s.elf read sound k x e at_x j) ≡ y.name.now
      name-kept j y at =
          let (more, is) = (texts-read i at-names).1 in
          ap (λ (ts : List ℕ). text_of ts (name_at f s.elf read sound k x e at_x j)) names-are
          ∙ text-kept (symbol_names f (section_header f k)) texts (name_at f s.elf read sound k x e at_x j)
          (λ o xs there. subst (λ (ts : List ℕ). Stands ts o xs) (sym is)
          (stands-front (table_bytes s.elf i) more o xs (subst (λ (ts : List ℕ). Stands ts o xs) old-names there)))
          (name-ended f s.elf read sound k x e at_x j y at)
          ∙ sym (name-read f s.elf read sound k x e at_x j y at)

    some-at : (j : ℕ) (y : Symbol) → slice_get olds j ≡ Some y → 0 < length olds
    some-at j y at = let below = slice_get_within olds j y at in omega (arith, below)

    clean-name : (y : Symbol) → Contains olds y → IsClean y.name.now
    clean-name y there =
        let (j, at) = contains_at olds y there in
        subst IsClean (sym (name-read f s.elf read sound k x e at_x j y at))
        (clean-text (symbol_names f (section_header f k)) (name_at f s.elf read sound k x e at_x j))

    parts : GoTogether (IsColdEntry texts olds funcs s.spans (length s.elf.sections.items)) (named_parts olds funcs cold) t.added
    parts = ⊎_elim
        (λ (some : 0 < length olds). t.named (subst IsSome (sym (at-names some)) (any-some (x.link))))
        (λ (few : length olds ≤ 0).
        let none : olds ≡ [] = nil_from_length olds (omega (arith, few)) in
        let no_names : place_of_names s.elf ≡ None = no-place (length olds) (omega (arith, few)) in
        subst (GoTogether (IsColdEntry texts olds funcs s.spans (length s.elf.sections.items)) (named_parts olds funcs cold))
        (sym (t.none no_names))
        (subst (λ (xs : List ℕ). GoTogether (IsColdEntry texts olds funcs s.spans (length s.elf.sections.items)) xs [])
        (sym (no-parts olds funcs cold none)) (record { count = refl; each = λ i a b at other. absurd (none-some a at) })))
        (cases_lt 0 (length olds))
      where
        any-some : (i : ℕ) → IsSome (Some i)
        any-some i = search rules

        no-place : (count : ℕ) → count ≡ 0 → (if count == 0 then None else
            option_and_then (λ y. among s.elf.sections.items y.link) (symbols_section s.elf)) ≡ None
        no-place count is = ap (λ (c : ℕ). if c == 0 then None else
            option_and_then (λ y. among s.elf.sections.items y.link) (symbols_section s.elf)) is

    abbrev small : length (bytes_behind s.elf x) < SYM_SIZE
    small = rest-small f s.elf read sound k x e at_x

    same-rest : bytes_behind new n ≡ bytes_behind s.elf x
    same-rest = rest-same s.elf x funcs s.spans cold (length s.elf.sections.items) t.added bytes t.table small w new
        new_read.file_is h n stands holds.contents (sym is_n.offset) (sym is_n.size ∙ holds.size) new-symbols

    new-are : AreNewSymbols olds new.symbols.items funcs s.spans cold (length s.elf.sections.items) x n
    new-are = are-new s.elf x funcs s.spans cold (length s.elf.sections.items) t.added bytes t.table small w new
        new_read.file_is h n stands holds.contents (sym is_n.offset) (sym is_n.size ∙ holds.size) new-symbols
        (λ j y at. name-kept (some-at j y at) j y at) texts parts names-are clean-name n info

  pub symbols-read : HaveNewSymbols s.elf new funcs s.spans cold
  symbols-read = cases (place_of_symbols s.elf) refl
    where
      cases : (o : Option ℕ) → place_of_symbols s.elf ≡ o → HaveNewSymbols s.elf new funcs s.spans cold
      cases None e =
          let none : symbols_section s.elf ≡ None = find-no_position is_table s.elf.sections.items e in
          record {
            place = place;
            rest = λ x n is_x is_n. absurd (none-some x (sym none ∙ is_x));
            symbols = λ x n is_x is_n. absurd (none-some x (sym none ∙ is_x));
          }
      cases (Some k) e =
          let t = if_found _ (place_of_symbols s.elf) k e has_symbols in
          let old : symbols_section s.elf ≡ Some t.section = section-is f s.elf read sound k t.section e t.at in
          let below = slice_get_within s.elf.sections.items k t.section t.at in
          let all = sections.count in
          let (n, at_n) = slice_get_found new.sections.items k (omega (arith, below, all)) in
          let now : symbols_section new ≡ Some n = find-from_position is_table new.sections.items k (place ∙ e) ∙ at_n in
          record {
            place = place;
            rest = λ y m is_y is_m.
                subst (λ (z : Section). bytes_behind new m ≡ bytes_behind s.elf z) (same_Some t.section y (sym old ∙ is_y))
                (subst (λ (z : Section). bytes_behind new z ≡ bytes_behind s.elf t.section) (same_Some n m (sym now ∙ is_m))
                (same-rest k e t n at_n));
            symbols = λ y m is_y is_m.
                subst (λ (z : Section). AreNewSymbols olds new.symbols.items funcs s.spans cold (length s.elf.sections.items) z m)
                (same_Some t.section y (sym old ∙ is_y))
                (subst (λ (z : Section). AreNewSymbols olds new.symbols.items funcs s.spans cold (length s.elf.sections.items)
                t.section z) (same_Some n m (sym now ∙ is_m)) (new-are k e t n at_n));
          }
