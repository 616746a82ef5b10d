-- Entries that are put into a symbol table.
use Rattle.std.proofs.Common.{◌≡◌, ◌∙◌, sym, ap, subst, refl, ℕ, ◌+◌, ◌*◌, ◌≤◌, ◌<◌, List, [], ◌∷◌, ◌++◌, Bool, Option}
use Rattle.std.proofs.Common.{Some, None, length, length-append, take, drop, get_or, arith}
use Rattle.std.specs.Prelude.{All, IfSome, codes, is_some, slice_get}
use Rattle.std.proofs.lemmas.List.{append-nil, append_assoc, flat_map_more, take_more}
use Rattle.std.proofs.lemmas.List.Elements.{All-append, All-push}
use Rattle.std.proofs.lemmas.Option.{get_or_from_slice_get, none-some, slice_get_within}
use Rattle.addr_map.specs.declared.span.Span.{Span}
use Rattle.rv_code.specs.declared.placed.Func.{Func}
use Rattle.elf_image.specs.declared.elf.Elf.{Elf}
use Rattle.elf_image.specs.declared.section.Section.{Section}
use Rattle.elf_image.specs.declared.section.SectionHeader.{SectionHeader}
use Rattle.elf_image.specs.declared.symbol.Symbol.{Symbol}
use Rattle.elf_image.specs.declared.symbol.TheConstants.{SYM_SIZE}
use Rattle.elf_image.specs.file.Header.{number_at}
use Rattle.elf_parts.specs.declared.spell.SymbolEntry.{SymbolEntry}
use Rattle.elf_parts.specs.Patches.{Stands}
use Rattle.elf_parts.specs.Spellings.{SymbolFits, symbol_entries, symbol_entry_bytes}
use Rattle.elf_parts.proofs.Patches.{stands-behind, stands-front}
use Rattle.elf_plan.specs.declared.area.Shift.{Shift}
use Rattle.elf_plan.specs.declared.name_tables.OwnSections.{OwnSections}
use Rattle.elf_plan.specs.declared.sections.Contents.{Contents}
use Rattle.elf_plan.specs.declared.sections.Contents.TheVariants.{Symbols}
use Rattle.elf_plan.specs.ColdSymbols.{cold_name, named_around}
use Rattle.elf_plan.specs.Contents.{section_bytes}
use Rattle.elf_plan.specs.KnownSections.{IsOwnOf}
use Rattle.elf_plan.specs.NameTables.{place_of_names, place_of_symbols}
use Rattle.elf_plan.specs.NewNames.{cold_names, ended, name_behind}
use Rattle.elf_plan.specs.PairedLists.{GoTogether}
use Rattle.elf_plan.proofs.Pairs.{each-pushed, filter-left, filter-taken}
use Rattle.elf_make.specs.NewSymbols.{local_count, named_parts}
use Rattle.elf_make.specs.declared.headers.NewContents.{NewContents}
use Rattle.elf_make.specs.PlacedContents.{set_header}
use Rattle.elf_make.specs.SymbolTable.{Appends, AreEntriesOf, HasSymbols, HasTable, IsColdEntry, IsColdPlace, IsEntryOf}
use Rattle.elf_make.specs.SymbolTable.{IsTableOf, SaysInfo}
use Rattle.elf_make.proofs.SymbolEntries.{symbol_entries-append, symbol_entries-more, symbol_entries-none, together-also, together-pushed}

-- The entries of the first `n` symbols.
pub record AreFirst (funcs : List Func) (spans : List Span) (text : ℕ) (table : List ℕ) (first n : ℕ) (symbols : List Symbol)
    (entries : List SymbolEntry) : Type 0 where
  pub count : length entries ≡ n
  pub within : n ≤ length symbols
  pub each : (i : ℕ) (s : Symbol) (e : SymbolEntry) → slice_get symbols i ≡ Some s → slice_get entries i ≡ Some e →
      IsEntryOf funcs spans text (number_at table (SYM_SIZE * (first + i)) 4) s e

module _ (funcs : List Func) (spans : List Span) (text : ℕ) (table : List ℕ) (first : ℕ) (symbols : List Symbol) where
  pub none-put : (bytes : List ℕ) → Appends (AreFirst funcs spans text table first 0 symbols) bytes bytes
  none-put bytes = record {
    entries = [];
    are = record { count = refl; within = omega arith; each = λ i s e at none. absurd (none-some e none) };
    fits = λ k d below. absurd (omega (arith, below));
    bytes = sym (ap (λ (xs : List ℕ). bytes ++ xs) symbol_entries-none ∙ append-nil bytes);
  }

  pub one-put : (i at : ℕ) (d : Symbol) (e : SymbolEntry) (old mid new : List ℕ) → i < length symbols →
      Appends (AreFirst funcs spans text table first i symbols) old mid →
      at ≡ number_at table (SYM_SIZE * (first + i)) 4 → IsEntryOf funcs spans text at (get_or symbols i d) e → SymbolFits e →
      new ≡ mid ++ symbol_entry_bytes e → Appends (AreFirst funcs spans text table first (i + 1) symbols) old new
  one-put i at d e old mid new below before place here fit is = record {
    entries = before.entries ++ e ∷ [];
    are = record {
      count = let long = length-append before.entries (e ∷ []) in let count = before.are.count in omega (arith, long, count);
      within = omega (arith, below);
      each = each-pushed (λ k s f. IsEntryOf funcs spans text (number_at table (SYM_SIZE * (first + k)) 4) s f) symbols
          before.entries i e before.are.count before.are.each
          (λ s is_s. subst (λ (t : Symbol). IsEntryOf funcs spans text (number_at table (SYM_SIZE * (first + i)) 4) t e)
          (get_or_from_slice_get symbols i s d is_s)
          (subst (λ (n : ℕ). IsEntryOf funcs spans text n (get_or symbols i d) e) place here));
    };
    fits = All-push SymbolFits before.entries e before.fits fit;
    bytes =
        is ∙ ap (λ (xs : List ℕ). xs ++ symbol_entry_bytes e) before.bytes
        ∙ append_assoc old (symbol_entries before.entries) (symbol_entry_bytes e)
        ∙ ap (λ (xs : List ℕ). old ++ xs) (sym (symbol_entries-more before.entries e));
  }

  pub all-put : (n : ℕ) (old new : List ℕ) → length symbols ≤ n → Appends (AreFirst funcs spans text table first n symbols) old new →
      Appends (AreEntriesOf funcs spans text table first symbols) old new
  all-put n old new whole put = record {
    entries = put.entries;
    are = record {
      count = let count = put.are.count in let within = put.are.within in omega (arith, count, within, whole);
      each = put.are.each;
    };
    fits = put.fits;
    bytes = put.bytes;
  }

-- The bytes of a table, by what each step puts.
pub table-made : (elf : Elf) (x : Section) (funcs : List Func) (spans : List Span) (text local : ℕ) (added : List SymbolEntry)
    (table rest : List ℕ) (symbols front behind : List Symbol) (b0 b1 b2 b3 b4 : List ℕ) → table ≡ section_bytes elf.file.now x →
    symbols ≡ elf.symbols.items → local ≡ local_count symbols x → front ≡ take local symbols → behind ≡ drop local symbols →
    rest ≡ drop (SYM_SIZE * length symbols) table → b0 ≡ [] →
    Appends (AreEntriesOf funcs spans text table 0 front) b0 b1 → b2 ≡ b1 ++ symbol_entries added → All SymbolFits added →
    Appends (AreEntriesOf funcs spans text table local behind) b2 b3 → b4 ≡ b3 ++ rest →
    IsTableOf elf x funcs spans text added b4
table-made elf x funcs spans text local added table rest symbols front behind b0 b1 b2 b3 b4 is_table is_symbols is_local is_front
    is_behind is_rest none first second fit third last =
    let locals : local ≡ local_count elf.symbols.items x = is_local ∙ ap (λ (ss : List Symbol). local_count ss x) is_symbols in
    let F : List ℕ = symbol_entries first.entries in
    let A : List ℕ = symbol_entries added in
    let B : List ℕ = symbol_entries third.entries in
    let joined : b3 ≡ symbol_entries (first.entries ++ (added ++ third.entries)) =
    third.bytes ∙ ap (λ (xs : List ℕ). xs ++ B)
    (second ∙ ap (λ (xs : List ℕ). xs ++ A) (first.bytes ∙ ap (λ (xs : List ℕ). xs ++ F) none))
    ∙ append_assoc F A B ∙ ap (λ (xs : List ℕ). F ++ xs) (sym (symbol_entries-append added third.entries))
    ∙ sym (symbol_entries-append first.entries (added ++ third.entries)) in
    record {
      front = first.entries;
      behind = third.entries;
      front_are = subst (λ (t : List ℕ). AreEntriesOf funcs spans text t 0
          (take (local_count elf.symbols.items x) elf.symbols.items) first.entries) is_table
          (subst (λ (ss : List Symbol). AreEntriesOf funcs spans text table 0 ss first.entries)
          (is_front ∙ ap (λ (n : ℕ). take n symbols) locals ∙ ap (take (local_count elf.symbols.items x)) is_symbols) first.are);
      behind_are = subst (λ (t : List ℕ). AreEntriesOf funcs spans text t (local_count elf.symbols.items x)
          (drop (local_count elf.symbols.items x) elf.symbols.items) third.entries) is_table
          (subst (λ (n : ℕ). AreEntriesOf funcs spans text table n
          (drop (local_count elf.symbols.items x) elf.symbols.items) third.entries) locals
          (subst (λ (ss : List Symbol). AreEntriesOf funcs spans text table local ss third.entries)
          (is_behind ∙ ap (λ (n : ℕ). drop n symbols) locals ∙ ap (drop (local_count elf.symbols.items x)) is_symbols) third.are));
      fits = All-append SymbolFits first.entries (added ++ third.entries) first.fits
          (All-append SymbolFits added third.entries fit third.fits);
      is =
          last ∙ ap (λ (xs : List ℕ). xs ++ rest) joined
          ∙ ap (λ (xs : List ℕ). symbol_entries (first.entries ++ (added ++ third.entries)) ++ xs)
          (is_rest ∙ ap (λ (ss : List Symbol). drop (SYM_SIZE * length ss) table) is_symbols
          ∙ ap (drop (SYM_SIZE * length elf.symbols.items)) is_table);
    }

-- The entries of cold parts.
module _ (symbols : List Symbol) (funcs : List Func) (spans : List Span) (text : ℕ) (cold : List ℕ) where
  abbrev named : ℕ → Bool
  named a = is_some (named_around symbols funcs a)

  pub entries-kept : (table more : List ℕ) (parts : List ℕ) (entries : List SymbolEntry) →
      GoTogether (IsColdEntry table symbols funcs spans text) parts entries →
      GoTogether (IsColdEntry (table ++ more) symbols funcs spans text) parts entries
  entries-kept table more parts entries are = together-also (IsColdEntry table symbols funcs spans text)
      (IsColdEntry (table ++ more) symbols funcs spans text) parts entries
      (λ a e is. record { name = kept e (named_around symbols funcs a) is.name; place = is.place }) are
    where
      kept : (e : SymbolEntry) (o : Option Symbol) →
          IfSome o (λ s. Stands table e.name (ended (cold_name s.name.now))) →
          IfSome o (λ s. Stands (table ++ more) e.name (ended (cold_name s.name.now)))
      kept e None there = tt
      kept e (Some s) there = stands-front table more e.name _ there

  -- one more part, which has a name
  pub part-taken : (i : ℕ) (table more : List ℕ) (entries : List SymbolEntry) (s : Symbol) (e : SymbolEntry) → i < length cold →
      GoTogether (IsColdEntry table symbols funcs spans text) (named_parts symbols funcs (take i cold)) entries →
      named_around symbols funcs (get_or cold i 0) ≡ Some s → e.name ≡ length table →
      IsColdPlace funcs spans text (get_or cold i 0) e → more ≡ table ++ ended (s.name.now ++ codes ".cold") →
      GoTogether (IsColdEntry more symbols funcs spans text) (named_parts symbols funcs (take (i + 1) cold)) (entries ++ e ∷ [])
  part-taken i table more entries s e below are is at place grown =
      let a : ℕ = get_or cold i 0 in
      let name : List ℕ = ended (cold_name s.name.now) in
      let there : Stands (table ++ name) e.name name =
      subst (λ (o : ℕ). Stands (table ++ name) o name) (sym at) (stands-behind table name) in
      let here : IsColdEntry (table ++ name) symbols funcs spans text a e = record {
        name = subst (λ (o : Option Symbol). IfSome o (λ t. Stands (table ++ name) e.name (ended (cold_name t.name.now)))) (sym is) there;
        place = place;
      } in
      subst (λ (t : List ℕ). GoTogether (IsColdEntry t symbols funcs spans text) (named_parts symbols funcs (take (i + 1) cold))
      (entries ++ e ∷ [])) (sym grown)
      (subst (λ (parts : List ℕ). GoTogether (IsColdEntry (table ++ name) symbols funcs spans text) parts (entries ++ e ∷ []))
      (sym (filter-taken named cold i 0 below (ap is_some is)))
      (together-pushed (IsColdEntry (table ++ name) symbols funcs spans text) (named_parts symbols funcs (take i cold)) entries a e
      (entries-kept table name (named_parts symbols funcs (take i cold)) entries are) here))

  -- or none
  pub part-left : (i : ℕ) (table : List ℕ) (entries : List SymbolEntry) → i < length cold →
      GoTogether (IsColdEntry table symbols funcs spans text) (named_parts symbols funcs (take i cold)) entries →
      named_around symbols funcs (get_or cold i 0) ≡ None →
      GoTogether (IsColdEntry table symbols funcs spans text) (named_parts symbols funcs (take (i + 1) cold)) entries
  part-left i table entries below are is =
      subst (λ (parts : List ℕ). GoTogether (IsColdEntry table symbols funcs spans text) parts entries)
      (sym (filter-left named cold i 0 below (ap is_some is))) are

  -- the bytes of the table of names, in both cases
  abbrev texts : ℕ → List ℕ
  texts a = name_behind (named_around symbols funcs a)

  pub names-taken : (i : ℕ) (start table more : List ℕ) (s : Symbol) → i < length cold →
      table ≡ start ++ cold_names symbols funcs (take i cold) → named_around symbols funcs (get_or cold i 0) ≡ Some s →
      more ≡ table ++ ended (s.name.now ++ codes ".cold") → more ≡ start ++ cold_names symbols funcs (take (i + 1) cold)
  names-taken i start table more s below before is grown =
      let a : ℕ = get_or cold i 0 in
      let added : texts a ≡ ended (s.name.now ++ codes ".cold") = ap name_behind is in
      grown ∙ ap (λ (xs : List ℕ). table ++ xs) (sym added) ∙ ap (λ (xs : List ℕ). xs ++ texts a) before
      ∙ flat_map_more texts start (take i cold) a
      ∙ ap (λ (xs : List ℕ). start ++ cold_names symbols funcs xs) (sym (take_more cold i 0 below))

  pub names-left : (i : ℕ) (start table : List ℕ) → i < length cold → table ≡ start ++ cold_names symbols funcs (take i cold) →
      named_around symbols funcs (get_or cold i 0) ≡ None → table ≡ start ++ cold_names symbols funcs (take (i + 1) cold)
  names-left i start table below before is =
      let a : ℕ = get_or cold i 0 in
      sym (append-nil table) ∙ ap (λ (xs : List ℕ). table ++ xs) (sym (ap name_behind is))
      ∙ ap (λ (xs : List ℕ). xs ++ texts a) before ∙ flat_map_more texts start (take i cold) a
      ∙ ap (λ (xs : List ℕ). start ++ cold_names symbols funcs xs) (sym (take_more cold i 0 below))

-- What is put for symbols, by what was made of their table and of the headers.
module _ (elf : Elf) (funcs : List Func) (spans : List Span) (cold : List ℕ) (contents : List Contents) (shift : Shift)
    (headers set : List SectionHeader) (new : NewContents) (count : length set ≡ length headers)
    (set_to : (k : ℕ) (h : SectionHeader) (s : Section) (c : Contents) → k < length contents → k < length headers →
    k < length elf.sections.items → get_or set k h
    ≡ set_header shift (get_or contents k c) (get_or elf.sections.items k s) (get_or headers k h)) where
  abbrev Table : Option ℕ → ℕ → List ℕ → List ℕ → ℕ → Type 0
  Table names n ts bs k = HasTable elf funcs spans cold names n k ts bs (SaysInfo headers k)

  abbrev Put : ℕ → Type 0
  Put k = HasTable elf funcs spans cold (place_of_names elf) (length elf.sections.items) k new.symbol_names.now new.symbols.now
      (λ info. slice_get contents k ≡ Some Symbols → SaysInfo set k info)

  each : (k : ℕ) → Table (place_of_names elf) (length elf.sections.items) new.symbol_names.now new.symbols.now k → Put k
  each k t = record {
    section = t.section;
    at = t.at;
    added = t.added;
    named = t.named;
    none = t.none;
    table = t.table;
    info = λ at d below.
        let in_contents = slice_get_within contents k Symbols at in
        let in_sections = slice_get_within elf.sections.items k t.section t.at in
        ap (λ (h : SectionHeader). h.info)
        (set_to k d t.section Symbols in_contents (omega (arith, below, count)) in_sections
        ∙ ap (λ (c : Contents). set_header shift c (get_or elf.sections.items k t.section) (get_or headers k d))
        (get_or_from_slice_get contents k Symbols Symbols at))
        ∙ t.info d (omega (arith, below, count));
  }

  all : (o : Option ℕ) → IfSome o (Table (place_of_names elf) (length elf.sections.items) new.symbol_names.now new.symbols.now) →
      IfSome o Put
  all None none = tt
  all (Some k) t = each k t

  pub has-symbols : (own : OwnSections) (text : ℕ) (texts bytes : List ℕ) → IsOwnOf elf own → text ≡ length elf.sections.items →
      texts ≡ new.symbol_names.now → bytes ≡ new.symbols.now →
      IfSome own.symbols (λ k. HasTable elf funcs spans cold own.symbol_names text k texts bytes (SaysInfo headers k)) →
      HasSymbols elf funcs spans cold contents new set
  has-symbols own text texts bytes is is_text is_texts is_bytes has =
      all (place_of_symbols elf)
      (subst (λ (o : Option ℕ). IfSome o (Table (place_of_names elf) (length elf.sections.items) new.symbol_names.now
      new.symbols.now)) is.symbols
      (subst (λ (o : Option ℕ). IfSome own.symbols (Table o (length elf.sections.items) new.symbol_names.now new.symbols.now))
      is.symbol_names
      (subst (λ (n : ℕ). IfSome own.symbols (Table own.symbol_names n new.symbol_names.now new.symbols.now)) is_text
      (subst (λ (ts : List ℕ). IfSome own.symbols (Table own.symbol_names text ts new.symbols.now)) is_texts
      (subst (λ (bs : List ℕ). IfSome own.symbols (Table own.symbol_names text texts bs)) is_bytes has)))))
