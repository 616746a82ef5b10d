-- The symbols of a file that was made are those that it must have, by what is read of it.
use Rattle.std.proofs.Common.{◌≡◌, ◌∙◌, sym, ap, subst, refl, ℕ, ◌+◌, ◌*◌, ◌<◌, List, [], ◌∷◌, ◌++◌, Option}
use Rattle.std.proofs.Common.{Some, None, Bool, false, cond, length, length-append, take, drop, arith}
use Rattle.std.specs.Prelude.{Contains, IfSome, MatchOption, is_some, option_and_then, slice_get, ◌&&◌, ◌==◌}
use Rattle.std.proofs.lemmas.List.{drop_at, length-take, take_at}
use Rattle.std.proofs.lemmas.Option.{get_or_from_slice_get, none-some, slice_get_within}
use Rattle.addr_map.specs.declared.span.Span.{Span}
use Rattle.addr_map.specs.Spans.{moved}
use Rattle.rv_code.specs.declared.placed.Func.{Func}
use Rattle.elf_image.specs.declared.elf.Elf.{Elf}
use Rattle.elf_image.specs.declared.section.Section.{Section}
use Rattle.elf_image.specs.declared.section.SectionHeader.{SectionHeader}
use Rattle.elf_image.specs.declared.symbol.Symbol.{Symbol}
use Rattle.elf_image.specs.declared.symbol.TheConstants.{SYM_SIZE}
use Rattle.elf_image.specs.file.Cuts.{names_function}
use Rattle.elf_image.specs.file.Header.{number_at}
use Rattle.elf_image.specs.file.ParsedFile.{AreSymbols}
use Rattle.elf_image.specs.file.Sections.{text_of}
use Rattle.elf_image.specs.file.Symbols.{symbol_count, symbol_names, symbol_place}
use Rattle.elf_parts.specs.declared.spell.SymbolEntry.{SymbolEntry}
use Rattle.elf_parts.specs.Patches.{Stands}
use Rattle.elf_parts.specs.Spellings.{symbol_entries}
use Rattle.elf_parts.proofs.Spellings.{stands-first}
use Rattle.elf_parts.proofs.TablesRead.{symbol-stands}
use Rattle.elf_plan.specs.ColdSymbols.{cold_name, first_named, named_around, start_around}
use Rattle.elf_plan.specs.Contents.{section_bytes}
use Rattle.elf_make.specs.NewSymbols.{AreNewSymbols, IsColdSymbol, IsMoved, IsNewSymbol, IsUnmoved, bytes_behind, local_count}
use Rattle.elf_make.specs.NewSymbols.{named_parts, new_info}
use Rattle.elf_plan.specs.Fragments.{IsFragmentAt}
use Rattle.elf_plan.specs.NewNames.{ended}
use Rattle.elf_plan.specs.PairedLists.{GoTogether}
use Rattle.rb_bytes.proofs.Searches.{find-found}
use Rattle.elf_make.specs.SymbolTable.{AreEntriesOf, IsColdEntry, IsEntryOf, IsTableOf, with_entry}
use Rattle.elf_make.proofs.NamesRead.{IsClean, clean-cold, text-there}
use Rattle.elf_make.proofs.SymbolEntries.{length-symbol_entries, slice_get-dropped, slice_get-taken, together-by, together-drop}
use Rattle.elf_make.proofs.SymbolEntries.{together-take}

-- Symbols of entries.

-- the symbol `n` says what an entry does, and has the name that is in the table `names` at its offset
pub record SaysEntry (names : List ℕ) (e : SymbolEntry) (n : Symbol) : Type 0 where
  pub name : n.name.now ≡ text_of names e.name
  pub info : n.info ≡ e.info
  pub other : n.other ≡ e.other
  pub section : n.section ≡ e.section
  pub value : n.value ≡ e.value
  pub size : n.size ≡ e.size

-- A symbol of the input, whose entry keeps the offset of its name.
module _ (funcs : List Func) (spans : List Span) (text at : ℕ) (names : List ℕ) (s n : Symbol) (e : SymbolEntry)
    (is : IsEntryOf funcs spans text at s e) (said : SaysEntry names e n) (same : text_of names at ≡ s.name.now) where
  placed : (o : Option ℕ) →
      MatchOption o (IsUnmoved s (with_entry s e)) (λ to. IsMoved funcs spans text to s (with_entry s e)) →
      MatchOption o (IsUnmoved s n) (λ to. IsMoved funcs spans text to s n)
  placed None stays = record {
    value = said.value ∙ stays.value;
    shndx = said.section ∙ stays.shndx;
    size = said.size ∙ stays.size;
  }
  placed (Some to) moves = record {
    value = said.value ∙ moves.value;
    shndx = said.section ∙ moves.shndx;
    size = λ other. said.size ∙ moves.size other;
    fragment = λ func. subst (IsFragmentAt funcs spans s.value to) (sym said.size) (moves.fragment func);
  }

  pub new-symbol : IsNewSymbol funcs spans text s n
  new-symbol = record {
    name = said.name ∙ ap (text_of names) is.name ∙ same;
    info = said.info ∙ is.is.info;
    other = said.other ∙ is.is.other;
    place = placed (moved spans s.value) is.is.place;
  }

-- The symbol of a cold part.
pub cold-symbol : (funcs : List Func) (spans : List Span) (text address : ℕ) (names table : List ℕ) (symbols : List Symbol) (n : Symbol)
    (e : SymbolEntry) → IsColdEntry table symbols funcs spans text address e → SaysEntry names e n →
    ((s : Symbol) → named_around symbols funcs address ≡ Some s → (names ≡ table) × IsClean s.name.now) →
    IsColdSymbol symbols funcs spans text address n
cold-symbol funcs spans text address names table symbols n e is said known = record {
  name = named (named_around symbols funcs address) known is.name;
  info = said.info ∙ is.place.info;
  other = said.other ∙ is.place.other;
  value = is.place.value ∙ ap Some (sym said.value);
  shndx = said.section ∙ is.place.section;
  fragment =
      subst (λ (to : ℕ). IsFragmentAt funcs spans address to n.size) (sym said.value)
      (subst (IsFragmentAt funcs spans address e.value) (sym said.size) is.place.fragment);
}
  where
    named : (o : Option Symbol) → ((s : Symbol) → o ≡ Some s → (names ≡ table) × IsClean s.name.now) →
        IfSome o (λ s. Stands table e.name (ended (cold_name s.name.now))) → IfSome o (λ s. n.name.now ≡ cold_name s.name.now)
    named None gives there = tt
    named (Some s) gives there =
        let (same, clean) = gives s refl in
        said.name ∙ ap (λ (ts : List ℕ). text_of ts e.name) same
        ∙ text-there table (cold_name s.name.now) e.name (clean-cold s.name.now clean) there

-- the symbol that names a cold part is one of the symbols
pub named-among : (symbols : List Symbol) (funcs : List Func) (a : ℕ) (s : Symbol) → named_around symbols funcs a ≡ Some s →
    Contains symbols s
named-among symbols funcs a s is = cases (start_around funcs a) is
  where
    cases : (o : Option ℕ) → option_and_then (first_named symbols) o ≡ Some s → Contains symbols s
    cases None none = absurd (none-some s none)
    cases (Some start) found = (find-found (λ t. names_function t && (t.value == start)) symbols s found).1

-- without symbols there is none
pub no-parts : (symbols : List Symbol) (funcs : List Func) (cold : List ℕ) → symbols ≡ [] → named_parts symbols funcs cold ≡ []
no-parts symbols funcs [] none = refl
no-parts symbols funcs (a ∷ cold) none =
    let rest = no-parts symbols funcs cold none in
    ap (λ (b : Bool). cond b (a ∷ named_parts symbols funcs cold) (named_parts symbols funcs cold)) unnamed ∙ rest
  where
    cases : (o : Option ℕ) → is_some (option_and_then (first_named []) o) ≡ false
    cases None = refl
    cases (Some start) = refl

    unnamed : is_some (named_around symbols funcs a) ≡ false
    unnamed = ap (λ (ss : List Symbol). is_some (named_around ss funcs a)) none ∙ cases (start_around funcs a)

-- Symbols of a table.
module _ (elf : Elf) (x : Section) (funcs : List Func) (spans : List Span) (cold : List ℕ) (text : ℕ) (added : List SymbolEntry)
    (bytes : List ℕ) (made : IsTableOf elf x funcs spans text added bytes)
    (small : length (bytes_behind elf x) < SYM_SIZE)
    -- the table is in the file w, whose symbols are read
    (w : List ℕ) (new : Elf) (file_is : new.file.now ≡ w) (h : SectionHeader) (n : Section) (stands : Stands w n.offset bytes)
    (contents : section_bytes w n ≡ bytes) (offset_is : h.offset ≡ n.offset) (size_is : h.size ≡ length bytes)
    (read : AreSymbols w h (symbol_count h) new.symbols.items) where
  abbrev olds : List Symbol
  olds = elf.symbols.items

  abbrev news : List Symbol
  news = new.symbols.items

  abbrev local : ℕ
  local = local_count olds x

  abbrev all : List SymbolEntry
  all = made.front ++ (added ++ made.behind)

  abbrev rest : List ℕ
  rest = bytes_behind elf x

  abbrev names : List ℕ
  names = symbol_names w h

  all-sized : length (symbol_entries all) ≡ SYM_SIZE * length all
  all-sized = length-symbol_entries all

  counted : length news ≡ length all
  counted =
      let size = all-sized in
      let both = ap length made.is in
      let long = length-append (symbol_entries all) rest in
      let count = read.count_is in
      let few = small in
      let is = size_is in
      omega (arith, size, both, long, count, few, is)

  entries-stand : Stands w n.offset (symbol_entries all)
  entries-stand = stands-first w n.offset (symbol_entries all) rest (subst (Stands w n.offset) made.is stands)

  said : GoTogether (SaysEntry names) all news
  said = record { count = counted; each = each }
    where
      each : (i : ℕ) (e : SymbolEntry) (y : Symbol) → slice_get all i ≡ Some e → slice_get news i ≡ Some y → SaysEntry names e y
      each i e y at_e at_y =
          let below = slice_get_within all i e at_e in
          let here = symbol-stands all w n.offset i e below made.fits entries-stand in
          let is = get_or_from_slice_get all i e e at_e in
          let was = read.each i y at_y in
          let at : symbol_place h i ≡ n.offset + SYM_SIZE * i = ap (λ (o : ℕ). o + SYM_SIZE * i) offset_is in
          record {
            name =
                was.name ∙ ap (λ (o : ℕ). text_of names (number_at w o 4)) at
                ∙ ap (text_of names) (here.name ∙ ap (λ (f : SymbolEntry). f.name) is);
            info =
                was.info ∙ ap (λ (o : ℕ). number_at w (o + 4) 1) at ∙ here.info ∙ ap (λ (f : SymbolEntry). f.info) is;
            other =
                was.other ∙ ap (λ (o : ℕ). number_at w (o + 5) 1) at ∙ here.other ∙ ap (λ (f : SymbolEntry). f.other) is;
            section =
                was.shndx ∙ ap (λ (o : ℕ). number_at w (o + 6) 2) at ∙ here.section
                ∙ ap (λ (f : SymbolEntry). f.section) is;
            value =
                was.value ∙ ap (λ (o : ℕ). number_at w (o + 8) 8) at ∙ here.value ∙ ap (λ (f : SymbolEntry). f.value) is;
            size =
                was.size ∙ ap (λ (o : ℕ). number_at w (o + 16) 8) at ∙ here.size ∙ ap (λ (f : SymbolEntry). f.size) is;
          }

  pub rest-same : bytes_behind new n ≡ rest
  rest-same =
      let count = counted in
      let size = all-sized in
      ap (λ (f : List ℕ). drop (SYM_SIZE * length news) (section_bytes f n)) file_is
      ∙ ap (drop (SYM_SIZE * length news)) (contents ∙ made.is)
      ∙ drop_at (symbol_entries all) rest (SYM_SIZE * length news) (omega (arith, count, size))

  front-sized : length made.front ≡ local
  front-sized =
      let count = made.front_are.count in
      let long = length-take local olds in
      omega (arith, count, long)

  -- If the names of the input's symbols are at their offsets in the new table, and the symbols are added in their order.
  module _ (named : (j : ℕ) (s : Symbol) → slice_get olds j ≡ Some s →
      text_of names (number_at (section_bytes elf.file.now x) (SYM_SIZE * j) 4) ≡ s.name.now)
      (table : List ℕ) (parts : GoTogether (IsColdEntry table olds funcs spans text) (named_parts olds funcs cold) added)
      (same : 0 < length olds → names ≡ table) (cleans : (s : Symbol) → Contains olds s → IsClean s.name.now)
      (new_x : Section) (info : new_x.info ≡ new_info olds (length added) x) where
    abbrev New : Symbol → Symbol → Type 0
    New = IsNewSymbol funcs spans text

    abbrev EntryOf : ℕ → ℕ → Symbol → SymbolEntry → Type 0
    EntryOf first i = IsEntryOf funcs spans text (number_at (section_bytes elf.file.now x) (SYM_SIZE * (first + i)) 4)

    -- some of the input's symbols
    part : (first : ℕ) (xs : List Symbol) (es : List SymbolEntry) (ys : List Symbol) →
        AreEntriesOf funcs spans text (section_bytes elf.file.now x) first xs es →
        ((i : ℕ) (s : Symbol) → slice_get xs i ≡ Some s → slice_get olds (first + i) ≡ Some s) →
        GoTogether (SaysEntry names) es ys → GoTogether New xs ys
    part first xs es ys are within say =
        together-by (EntryOf first) (SaysEntry names) New xs es ys are.count are.each say
        (λ i s e y at is tells. new-symbol funcs spans text _ names s y e is tells (named (first + i) s (within i s at)))

    behind-entries : drop local all ≡ added ++ made.behind
    behind-entries = drop_at made.front (added ++ made.behind) local front-sized

    added-entries : take (length added) (drop local all) ≡ added
    added-entries = ap (take (length added)) behind-entries ∙ take_at added made.behind (length added) refl

    last-entries : drop (length added) (drop local all) ≡ made.behind
    last-entries = ap (drop (length added)) behind-entries ∙ drop_at added made.behind (length added) refl

    said-behind : GoTogether (SaysEntry names) (drop local all) (drop local news)
    said-behind = together-drop (SaysEntry names) local all news said

    known : (a : ℕ) (s : Symbol) → named_around olds funcs a ≡ Some s → (names ≡ table) × IsClean s.name.now
    known a s is =
        let there = named-among olds funcs a s is in
        let low = there.1 in
        (same (omega (arith, low)), cleans s there)

    pub are-new : AreNewSymbols olds news funcs spans cold text x new_x
    are-new = record {
      info = info ∙ ap (λ (k : ℕ). new_info olds k x) parts.count;
      front = part 0 (take local olds) made.front (take local news) made.front_are
          (λ i s at. first-at i s (slice_get-taken local olds i s at).1)
          (subst (λ (es : List SymbolEntry). GoTogether (SaysEntry names) es (take local news))
          (take_at made.front (added ++ made.behind) local front-sized) (together-take (SaysEntry names) local all news said));
      added = subst (λ (k : ℕ). GoTogether (IsColdSymbol olds funcs spans text) (named_parts olds funcs cold)
          (take k (drop local news))) parts.count
          (together-by (λ i. IsColdEntry table olds funcs spans text) (SaysEntry names) (IsColdSymbol olds funcs spans text)
          (named_parts olds funcs cold) added (take (length added) (drop local news)) parts.count parts.each
          (subst (λ (es : List SymbolEntry). GoTogether (SaysEntry names) es (take (length added) (drop local news)))
          added-entries (together-take (SaysEntry names) (length added) (drop local all) (drop local news) said-behind))
          (λ i a e y at is tells. cold-symbol funcs spans text a names table olds y e is tells (known a)));
      behind = subst (λ (k : ℕ). GoTogether New (drop local olds) (drop k (drop local news))) parts.count
          (part local (drop local olds) made.behind (drop (length added) (drop local news)) made.behind_are
          (λ i s at. slice_get-dropped local olds i s at)
          (subst (λ (es : List SymbolEntry). GoTogether (SaysEntry names) es (drop (length added) (drop local news)))
          last-entries (together-drop (SaysEntry names) (length added) (drop local all) (drop local news) said-behind)));
    }
      where
        first-at : (i : ℕ) (s : Symbol) → slice_get olds i ≡ Some s → slice_get olds (0 + i) ≡ Some s
        first-at i s at = let start : i ≡ 0 + i = omega arith in subst (λ (k : ℕ). slice_get olds k ≡ Some s) start at
