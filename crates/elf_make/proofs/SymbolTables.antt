-- The symbol table of a file that was read.
use Rattle.std.proofs.Common.{◌≡◌, ◌∙◌, sym, ap, subst, refl, ℕ, zero, suc, ◌+◌, ◌*◌, ◌≤◌, ◌<◌, inr, ⊎_elim}
use Rattle.std.proofs.Common.{List, [], ◌∷◌, Option, Some, None, Bool, true, false, cond, length, get_or, take, drop, arith}
use Rattle.std.specs.Prelude.{IfSome, find, map, nat_lt, option_and_then, position, slice_get, ◌==◌, if◌then◌else◌}
use Rattle.std.specs.List.{position_or_len, range_with_len}
use Rattle.std.proofs.lemmas.Bool.{eqb-true, le-ltb, lt-ltb, ltb-true, ne_eqb}
use Rattle.std.proofs.lemmas.List.{get_or-drop, get_or-take, length-drop, length-take}
use Rattle.std.proofs.lemmas.List.Quantifiers.{position-Some}
use Rattle.std.proofs.lemmas.List.Sums.{position_or_len_is}
use Rattle.std.proofs.lemmas.Option.{get_or_from_slice_get, same_Some, slice_get-get_or, slice_get_within}
use Rattle.elf_image.specs.declared.elf.Elf.{Elf}
use Rattle.elf_image.specs.declared.section.Section.{Section}
use Rattle.elf_image.specs.declared.section.SectionHeader.{SectionHeader}
use Rattle.elf_image.specs.declared.section.TheConstants.{SHT_NOBITS, SHT_SYMTAB}
use Rattle.elf_image.specs.declared.symbol.Symbol.{Symbol}
use Rattle.elf_image.specs.declared.symbol.TheConstants.{SYM_SIZE}
use Rattle.elf_image.specs.faults.FileFaults.{IsSound}
use Rattle.elf_image.specs.faults.Truncation.{HasSymbolNames, IsReadable, IsUnnamedSymbolOf}
use Rattle.elf_image.specs.file.Header.{e_shnum, number_at}
use Rattle.elf_image.specs.file.ParsedFile.{AreSymbols, AreSymbolsOf, IsElfOf, IsSectionAt}
use Rattle.elf_image.specs.file.Sections.{contents, section_header, text_of}
use Rattle.elf_image.specs.file.StringTables.{IsUnended}
use Rattle.elf_image.specs.file.Symbols.{symbol_count, symbol_names, symbol_place, symbol_table}
use Rattle.rb_bytes.specs.declared.fault.FaultKind.TheVariants.{Truncated}
use Rattle.rb_bytes.proofs.ListLemmas.{find_none, slice_get_found}
use Rattle.elf_parts.specs.Patches.{Stands}
use Rattle.elf_parts.proofs.Patches.{number_at-stands}
use Rattle.elf_plan.specs.Contents.{section_bytes}
use Rattle.elf_plan.specs.NameTables.{among, place_of_names, place_of_symbols, symbols_section}
use Rattle.elf_plan.proofs.Positions.{find-from_position, find-no_position}
use Rattle.elf_make.proofs.SoundFiles.{readable}

-- The first element that passes a test.

-- what is known of it by its index
pub record IsFirstAt {X : Type 0} (p : X → Bool) (xs : List X) (i : ℕ) : Type 0 where
  pub x : X
  pub at : slice_get xs i ≡ Some x
  pub passes : p x ≡ true
  pub before : (j : ℕ) (y : X) → j < i → slice_get xs j ≡ Some y → p y ≡ false

pub first-at : {X : Type 0} (p : X → Bool) (xs : List X) (i : ℕ) → position p xs ≡ Some i → IsFirstAt p xs i
first-at p [] i e = absurd (cc)
first-at {X} p (x ∷ xs) i e =
    let is = position-Some p (x ∷ xs) i x e in
    record {
      x = get_or (x ∷ xs) i x;
      at = slice_get-get_or (x ∷ xs) i x is.0;
      passes = is.1;
      before = λ j y low at. ap p (sym (get_or_from_slice_get (x ∷ xs) j y x at)) ∙ is.2 j low;
    }

pub position-at : {X : Type 0} (p : X → Bool) (xs : List X) (i : ℕ) → IsFirstAt p xs i → position p xs ≡ Some i
position-at p xs i is =
    let inside = slice_get_within xs i is.x is.at in
    let here : position_or_len p xs ≡ i = position_or_len_is p xs i is.x (omega (arith, inside))
    (λ k low. is.before k (get_or xs k is.x) low (slice_get-get_or xs k is.x (omega (arith, low, inside))))
    (λ low. ap p (get_or_from_slice_get xs i is.x is.x is.at) ∙ is.passes) in
    ap (λ (n : ℕ). cond (nat_lt n (length xs)) (Some n) None) here
    ∙ ap (λ (b : Bool). cond b (Some i) None) (lt-ltb i (length xs) inside)

pub position-none : {X : Type 0} (p : X → Bool) (xs : List X) → ((j : ℕ) (y : X) → slice_get xs j ≡ Some y → p y ≡ false) →
    position p xs ≡ None
position-none p [] fails = refl
position-none p (x ∷ xs) fails =
    let past : position_or_len p (x ∷ xs) ≡ length (x ∷ xs) = position_or_len_is p (x ∷ xs) (length (x ∷ xs)) x (omega arith)
    (λ k low. fails k (get_or (x ∷ xs) k x) (slice_get-get_or (x ∷ xs) k x low)) (λ low. absurd (omega (arith, low))) in
    ap (λ (n : ℕ). cond (nat_lt n (length (x ∷ xs))) (Some n) None) past
    ∙ ap (λ (b : Bool). cond b (Some (length (x ∷ xs))) None) (le-ltb (length (x ∷ xs)) (length (x ∷ xs)) (omega arith))

-- none passes
pub none-passes : {X : Type 0} (p : X → Bool) (xs : List X) → position p xs ≡ None → (j : ℕ) (y : X) → slice_get xs j ≡ Some y →
    p y ≡ false
none-passes {X} p xs none j y at = cases (p y) refl
  where
    cases : (b : Bool) → p y ≡ b → b ≡ false
    cases false e = refl
    cases true e =
        let inside = slice_get_within xs j y at in
        absurd (find_none p xs y (find-no_position p xs none) (j, inside, get_or_from_slice_get xs j y y at) e)

-- Bytes that are in a file.

pub stands-taken : (file : List ℕ) (o n : ℕ) → o + n ≤ length file → Stands file o (take n (drop o file))
stands-taken file o n inside =
    let left = length-drop o file in
    let size = length-take n (drop o file) in
    record {
      within = omega (arith, left, size, inside);
      same = λ j below. sym (get_or-take n (drop o file) j 0 (omega (arith, below, left, size)) ∙ get_or-drop o file j 0);
    }

-- The first symbol table, by its index.
abbrev is_header : SectionHeader → Bool
is_header h = h.kind == SHT_SYMTAB

header-found : (at : ℕ → SectionHeader) (n from k : ℕ) → k < n → ((j : ℕ) → j < k → is_header (at (from + j)) ≡ false) →
    is_header (at (from + k)) ≡ true → find is_header (map at (range_with_len from n)) ≡ Some (at (from + k))
header-found at zero from k below others here = absurd (omega (arith, below))
header-found at (suc n) from zero below others here =
    let none : from + 0 ≡ from = omega arith in
    ap (λ (b : Bool). cond b (Some (at from)) (find is_header (map at (range_with_len (from + 1) n))))
    (ap (λ (i : ℕ). is_header (at i)) (sym none) ∙ here)
    ∙ ap (λ (i : ℕ). Some (at i)) (sym none)
header-found at (suc n) from (suc k) below others here =
    let none : from + 0 ≡ from = omega arith in
    let next : (j : ℕ) → (from + 1) + j ≡ from + suc j = λ j. omega arith in
    ap (λ (b : Bool). cond b (Some (at from)) (find is_header (map at (range_with_len (from + 1) n))))
    (ap (λ (i : ℕ). is_header (at i)) (sym none) ∙ others 0 (omega arith))
    ∙ header-found at n (from + 1) k (omega (arith, below))
    (λ j low. ap (λ (i : ℕ). is_header (at i)) (next j) ∙ others (suc j) (omega (arith, low)))
    (ap (λ (i : ℕ). is_header (at i)) (next k) ∙ here)
    ∙ ap (λ (i : ℕ). Some (at i)) (next k)

abbrev pub is_table : Section → Bool
is_table s = s.kind == SHT_SYMTAB

pub table-found : (f : List ℕ) (elf : Elf) → IsElfOf f elf → (k : ℕ) → place_of_symbols elf ≡ Some k →
    symbol_table f ≡ Some (section_header f k)
table-found f elf read k place =
    let count = read.sections.count_is in
    let is : IsFirstAt is_table elf.sections.items k = first-at is_table elf.sections.items k place in
    let inside = slice_get_within elf.sections.items k is.x is.at in
    header-found (section_header f) (e_shnum f) 0 k (omega (arith, count, inside))
    (λ j low.
    let (y, at) = slice_get_found elf.sections.items j (omega (arith, low, inside)) in
    ap (λ (i : ℕ). is_header (section_header f i)) (start j)
    ∙ ap (λ (n : ℕ). n == SHT_SYMTAB) (sym (read.sections.each j y at).kind) ∙ is.before j y low at)
    (ap (λ (i : ℕ). is_header (section_header f i)) (start k)
    ∙ ap (λ (n : ℕ). n == SHT_SYMTAB) (sym (read.sections.each k is.x is.at).kind) ∙ is.passes)
    ∙ ap (λ (i : ℕ). Some (section_header f i)) (start k)
  where
    start : (i : ℕ) → 0 + i ≡ i
    start i = omega arith

-- the same header has the symbols
pub symbols-of : (f : List ℕ) (elf : Elf) → IsElfOf f elf → (k : ℕ) → place_of_symbols elf ≡ Some k →
    AreSymbols f (section_header f k) (symbol_count (section_header f k)) elf.symbols.items
symbols-of f elf read k place =
    subst (λ (o : Option SectionHeader). AreSymbolsOf f o elf.symbols.items) (table-found f elf read k place) read.symbols

-- The table of a file without a fault.
module _ (f : List ℕ) (elf : Elf) (read : IsElfOf f elf) (sound : IsSound f) (k : ℕ) (x : Section)
    (place : place_of_symbols elf ≡ Some k) (at_x : slice_get elf.sections.items k ≡ Some x) where
  abbrev h : SectionHeader
  h = section_header f k

  abbrev olds : List Symbol
  olds = elf.symbols.items

  abbrev bytes : List ℕ
  bytes = section_bytes f x

  -- the offset of the name of a symbol
  abbrev pub name_at : ℕ → ℕ
  name_at j = number_at bytes (SYM_SIZE * j) 4

  is-readable : IsReadable f
  is-readable = readable f sound

  x-is : IsSectionAt f k x
  x-is = read.sections.each k x at_x

  symbols-are : AreSymbols f h (symbol_count h) olds
  symbols-are = symbols-of f elf read k place

  pub kind-is : x.kind ≡ SHT_SYMTAB
  kind-is =
      let is = first-at is_table elf.sections.items k place in
      subst (λ (y : Section). y.kind ≡ SHT_SYMTAB) (same_Some is.x x (sym is.at ∙ at_x)) (eqb-true is.x.kind SHT_SYMTAB is.passes)

  pub section-is : symbols_section elf ≡ Some x
  section-is = find-from_position is_table elf.sections.items k place ∙ at_x

  has-names : HasSymbolNames f h
  has-names = subst (λ (o : Option SectionHeader). IfSome o (HasSymbolNames f)) (table-found f elf read k place)
      is-readable.symbol_names

  bytes-are : bytes ≡ take x.size (drop x.offset f)
  bytes-are = ap (λ (m : ℕ). if m == SHT_NOBITS then [] else take x.size (drop x.offset f)) kind-is

  -- fewer bytes than a symbol has are after the last one
  pub rest-small : length (drop (SYM_SIZE * length olds) bytes) < SYM_SIZE
  rest-small =
      let count = symbols-are.count_is in
      let left = length-drop (SYM_SIZE * length olds) bytes in
      let are = ap length bytes-are in
      let most = length-take x.size (drop x.offset f) in
      let size = x-is.size in
      omega (arith, count, left, are, most, size)

  -- A symbol.
  module _ (j : ℕ) (s : Symbol) (at_s : slice_get olds j ≡ Some s) where
    inside : x.offset + x.size ≤ length f
    inside =
        let below = slice_get_within olds j s at_s in
        let count = symbols-are.count_is in
        let kind = kind-is in
        let same = x-is.kind in
        let size = x-is.size in
        let from = x-is.offset in
        ⊎_elim (λ (none : h.kind ≡ SHT_NOBITS). absurd (omega (arith, kind, same, none)))
        (λ whole. ⊎_elim (λ (empty : h.size ≡ 0). absurd (omega (arith, below, count, empty)))
        (λ (in_file : h.offset + h.size ≤ length f). omega (arith, size, from, in_file)) whole)
        has-names.0

    stands : Stands f x.offset bytes
    stands = subst (Stands f x.offset) (sym bytes-are) (stands-taken f x.offset x.size inside)

    name_at-read : number_at f (symbol_place h j) 4 ≡ name_at j
    name_at-read =
        let below = slice_get_within olds j s at_s in
        let count = symbols-are.count_is in
        let size = x-is.size in
        let are = ap length bytes-are in
        let within = inside in
        let left = length-drop x.offset f in
        let most = length-take x.size (drop x.offset f) in
        ap (λ (o : ℕ). number_at f (o + SYM_SIZE * j) 4) (sym x-is.offset)
        ∙ number_at-stands f x.offset bytes (SYM_SIZE * j) 4 stands
        (omega (arith, below, count, size, are, within, left, most))

    pub name-read : s.name.now ≡ text_of (symbol_names f h) (name_at j)
    name-read = (symbols-are.each j s at_s).name ∙ ap (text_of (symbol_names f h)) name_at-read

    -- its name is ended in its table
    pub name-ended : IsUnended (symbol_names f h) (name_at j) → ⊥
    name-ended none =
        let below = slice_get_within olds j s at_s in
        let count = symbols-are.count_is in
        let unnamed : IsUnnamedSymbolOf f (Some h) (symbol_place h j) = (
          has-names,
          (
            j,
            omega (arith, below, count),
            (subst (IsUnended (symbol_names f h)) (sym name_at-read) none, refl),
          ),
        ) in
        sound Truncated (symbol_place h j) (inr (
          is-readable.header,
          inr (inr (
            is-readable.sections,
            inr (inr (subst (λ (o : Option SectionHeader). IsUnnamedSymbolOf f o (symbol_place h j))
                (sym (table-found f elf read k place)) unnamed)),
          )),
        ))

  -- If there are symbols, their names have a table.
  pub names-there : 0 < length olds → h.link < e_shnum f
  names-there some = cases (nat_lt h.link (e_shnum f)) refl
    where
      cases : (b : Bool) → nat_lt h.link (e_shnum f) ≡ b → h.link < e_shnum f
      cases true e = ltb-true h.link (e_shnum f) e
      cases false e =
          let (s, at_s) = slice_get_found olds 0 some in
          let none : symbol_names f h ≡ [] =
          ap (λ (b : Bool). if b then contents f (section_header f h.link) else []) e in
          absurd (name-ended 0 s at_s (subst (λ (t : List ℕ). IsUnended t (name_at 0)) (sym none)
          (λ i from below. absurd (omega (arith, below)))))

  pub names-at : 0 < length olds → place_of_names elf ≡ Some x.link
  names-at some =
      let there = names-there some in
      let link = x-is.link in
      let count = read.sections.count_is in
      let more : (length olds == 0) ≡ false = ne_eqb (length olds) 0 (λ none. absurd (omega (arith, some, none))) in
      ap (λ (b : Bool). if b then None else option_and_then (λ s. among elf.sections.items s.link) (symbols_section elf)) more
      ∙ ap (option_and_then (λ s. among elf.sections.items s.link)) section-is
      ∙ ap (λ (b : Bool). if b then Some x.link else None)
      (lt-ltb x.link (length elf.sections.items) (omega (arith, there, link, count)))
