-- What the sections of the input became in a file that was made, by what is read of it.
use Rattle.std.proofs.Common.{◌≡◌, ◌∙◌, sym, ap, subst, refl, ℕ, zero, suc, ◌+◌, ◌-◌, ◌%◌, ◌≤◌, ◌<◌, inl, inr, List, []}
use Rattle.std.proofs.Common.{Option, Some, Bool, true, false, String, Vec, length, map, min, max, take, drop, get_or}
use Rattle.std.proofs.Common.{slice_get, arith}
use Rattle.std.specs.Prelude.{All, Contains, IsSomeAnd, IsTrue, ◌||◌, ◌==◌, if◌then◌else◌}
use Rattle.std.specs.Option.{option_map_or}
use Rattle.std.proofs.lemmas.List.{get_or-map, length-map}
use Rattle.std.proofs.lemmas.List.Elements.{Contains-append_cases, Contains-append_left, Contains-get_or}
use Rattle.std.proofs.lemmas.Nat.{mod-mul-add}
use Rattle.std.proofs.lemmas.Option.{slice_get_within}
use Rattle.elf_image.specs.declared.elf.Elf.{Elf}
use Rattle.elf_image.specs.declared.section.Section.{Section}
use Rattle.elf_image.specs.declared.section.SectionHeader.{SectionHeader}
use Rattle.elf_image.specs.declared.section.TheConstants.{SHT_NOBITS}
use Rattle.elf_image.specs.faults.FileFaults.{IsSound}
use Rattle.elf_image.specs.file.Header.{e_shstrndx}
use Rattle.elf_image.specs.file.ParsedFile.{IsElfOf, IsSectionAt}
use Rattle.elf_image.specs.file.Sections.{section_header}
use Rattle.elf_image.specs.memory.Break.{rounded_up}
use Rattle.elf_parts.specs.Patches.{Stands}
use Rattle.elf_parts.proofs.Patches.{take-stands}
use Rattle.elf_plan.specs.declared.sections.Contents.{Contents}
use Rattle.elf_plan.specs.declared.sections.Contents.TheVariants.{Dropped, Inactive, Kept, Copied, SectionNames}
use Rattle.elf_plan.specs.declared.sections.Contents.TheVariants.{Symbols, SymbolNames, Given}
use Rattle.elf_plan.specs.Area.{moved_by}
use Rattle.elf_plan.specs.Contents.{contents_by, contents_of, is_at, own_contents, section_bytes, table_for}
use Rattle.elf_plan.specs.FileLayout.{PassesAt, added_ranges, is_kept_table, is_written, table_of}
use Rattle.elf_plan.specs.NameTables.{place_of_names, place_of_symbols}
use Rattle.elf_plan.specs.NewSections.{Follows, HoldsContents, IsAligned, KeepsFields, adds_ranges}
use Rattle.elf_plan.specs.NewSections.{given_bytes, kind_of_given, kind_of_own, without_code}
use Rattle.rb_bytes.proofs.ListLemmas.{slice_get_found}
use Rattle.rb_bytes.proofs.Tests.{clash}
use Rattle.elf_make.specs.FileParts.{IsMade}
use Rattle.elf_make.specs.MadeSections.{HasSections}
use Rattle.elf_make.specs.PlacedContents.{set_header, written_bytes}
use Rattle.elf_make.specs.SectionTable.{capped}
use Rattle.elf_make.specs.SetHeaders.{IsSet}
use Rattle.elf_make.specs.Source.{Source}
use Rattle.elf_make.proofs.CellPieces.{CanHoldPiece}
use Rattle.elf_make.proofs.LayoutRead.{bytes, counted, found, indices, says}
use Rattle.elf_make.proofs.MadeHeaders.{length-written}
use Rattle.elf_make.proofs.SameBreak.{rounded_up-above}
use Rattle.elf_make.proofs.SectionsRead.{SaysHeader, no_header, section-read}
use Rattle.elf_make.proofs.TailWritten.{base, start, tail-written}

-- A number that is rounded up is a multiple.
rounded_up-divides : (unit n : ℕ) → 0 < unit → rounded_up unit n % unit ≡ 0
rounded_up-divides unit n some =
    let more : rounded_up unit n ≡ rounded_up unit n + 0 = omega arith in
    ap (λ (m : ℕ). m % unit) more ∙ mod-mul-add _ unit 0 some

-- the symbol table is that, if it isn't the table of section names
pub symbols-at : (names : ℕ) (symbols symbol_names table : Option ℕ) (own : Contents) (k : ℕ) (x : Section) →
    is_at names symbols ≡ false → is_at k symbols ≡ true → contents_by names symbols symbol_names table own k x ≡ Symbols
symbols-at names symbols symbol_names table own k x apart at = grind (arith)

module _ {Y Z : Type 0} (s : Source) (tight : Bool) (w : List ℕ) (read : IsElfOf s.elf.file.now s.elf)
    (sound : IsSound s.elf.file.now) (made : IsMade s tight w) (can : All (CanHoldPiece s.elf) s.cells)
    (tables : List (String Y × Vec ℕ Z)) (has : HasSections s tables tight w made) (new : Elf) (new_read : IsElfOf w new) where
  abbrev olds : List Section
  olds = s.elf.sections.items

  abbrev pub known : ℕ → Section → Contents
  known = contents_of s.elf tables made.layout.area made.layout.shift

  abbrev written_at : List ℕ
  written_at = indices s tight w read sound made can tables has new new_read

  -- Exactly the sections whose contents are written have these placed.
  pub listed-written : (k : ℕ) (x : Section) → slice_get olds k ≡ Some x → Contains written_at k → is_written (known k x) ≡ true
  listed-written k x at there =
      elim (Contains-append_cases (map (λ (e : ℕ × ℕ). e.1) has.order) (added_ranges (adds_ranges olds tables) (length has.put.set)) k
      there) [ inl front ↦ in_order front | inr last ↦ absurd (added (adds_ranges olds tables) last) ]
    where
      in_order : Contains (map (λ (e : ℕ × ℕ). e.1) has.order) k → is_written (known k x) ≡ true
      in_order (j, below, is) =
          let long = length-map has.order (λ (e : ℕ × ℕ). e.1) in
          let inside : j < length has.order = omega (arith, below, long) in
          let e : ℕ × ℕ = get_or has.order j (0, 0) in
          let same : e.1 ≡ k = sym (get_or-map (λ (f : ℕ × ℕ). f.1) has.order j (0, 0) k inside) ∙ is in
          let passes = has.arranged.order_is.only e (Contains-get_or has.order j (0, 0) inside) in
          let here : IsSomeAnd (slice_get olds k) (λ y. (y.offset ≡ e.0) × IsTrue (is_written (known k y))) =
          subst (λ (i : ℕ). IsSomeAnd (slice_get olds i) (λ y. (y.offset ≡ e.0) × IsTrue (is_written (known i y)))) same passes in
          let found_x : (x.offset ≡ e.0) × IsTrue (is_written (known k x)) =
          subst (λ (o : Option Section). IsSomeAnd o (λ y. (y.offset ≡ e.0) × IsTrue (is_written (known k y)))) at here in
          found_x.1

      added : (b : Bool) → Contains (added_ranges b (length has.put.set)) k → ⊥
      added false (j, below, is) = absurd (omega (arith, below))
      added true (zero, below, is) =
          let inside = slice_get_within olds k x at in let more = has.put.more in absurd (omega (arith, is, inside, more))
      added true (suc j, below, is) = absurd (omega (arith, below))

  pub written-listed : (k : ℕ) (x : Section) → slice_get olds k ≡ Some x → is_written (known k x) ≡ true → Contains written_at k
  written-listed k x at is =
      let passes : PassesAt olds (λ i y. is_written (known i y)) (x.offset, k) =
      subst (λ (o : Option Section). IsSomeAnd o (λ y. (y.offset ≡ x.offset) × IsTrue (is_written (known k y)))) (sym at) (refl, is) in
      let (j, below, here) = has.arranged.order_is.each (x.offset, k) passes in
      let long = length-map has.order (λ (e : ℕ × ℕ). e.1) in
      Contains-append_left (map (λ (e : ℕ × ℕ). e.1) has.order) _ k (
        j,
        omega (arith, below, long),
        get_or-map (λ (e : ℕ × ℕ). e.1) has.order j (x.offset, k) k below ∙ ap (λ (e : ℕ × ℕ). e.1) here,
      )

  -- What a header says in the file.
  pub header-is : (k : ℕ) → k < length has.put.set →
      get_or has.headers k no_header ≡ capped (length w) (get_or has.put.placed k no_header)
  header-is k below =
      let count = has.put.are_placed.count in
      has.put.are_capped k no_header (omega (arith, below, count))
      ∙ ap (λ (n : ℕ). capped n (get_or has.put.placed k no_header)) (sym (length-written s tight w made))

  pub says-header : (k : ℕ) (n : Section) → slice_get new.sections.items k ≡ Some n →
      SaysHeader (capped (length w) (get_or has.put.placed k no_header)) n
  says-header k n at =
      let inside = slice_get_within new.sections.items k n at in
      let count = counted s tight w read sound made can tables has new new_read in
      subst (λ (h : SectionHeader). SaysHeader h n) (header-is k (omega (arith, inside, count)))
      (section-read s tight w read sound made can tables has.contents has.order has.headers has.put has.count new new_read k n
      no_header at)

  -- contents begin after the loaded bytes
  base-before : base s tight w read sound made ≤ start s tight w read sound made
  base-before = cases (made.layout.area.tight || is_kept_table s.elf made.layout.shift)
    where
      cases : (b : Bool) → base s tight w read sound made
          ≤ (if b then base s tight w read sound made
          else rounded_up 8 (base s tight w read sound made) + (table_of s.elf).size)
      cases true = omega arith
      cases false = let up = rounded_up-above 8 (base s tight w read sound made) (omega arith) in omega (arith, up)

  -- A section of the input whose contents are written.
  module _ (k : ℕ) (n : Section) (there : Contains written_at k) (at_n : slice_get new.sections.items k ≡ Some n) where
    abbrev placed : SectionHeader
    placed = get_or has.put.placed k no_header

    contents-written : Stands w n.offset (bytes s tight w read sound made can tables has new new_read k)
    contents-written =
        let place = found s tight w read sound made can tables has new new_read k n there at_n in
        let said = says s tight w read sound made can tables has new new_read k n there at_n in
        let low = base-before in
        let up = rounded_up-above (max 1 (get_or has.put.set k no_header).align) place.0 (omega arith) in
        let is = place.2.offset in
        let above = place.1 in
        let here : base s tight w read sound made + (placed.offset - base s tight w read sound made) ≡ n.offset =
        omega (arith, low, up, is, above, said.0) in
        subst (λ (o : ℕ). Stands w o (bytes s tight w read sound made can tables has new new_read k)) here
        (tail-written s tight w read sound made can (placed.offset - base s tight w read sound made) _
        (has.put.keeps _ _ place.2.stands) (omega (arith, low, up, is, above)))

    aligned : IsAligned n
    aligned =
        let place = found s tight w read sound made can tables has new new_read k n there at_n in
        let said = says s tight w read sound made can tables has new new_read k n there at_n in
        ap (λ (o : ℕ). o % max 1 n.align) (said.0 ∙ place.2.offset)
        ∙ ap (λ (a : ℕ). rounded_up (max 1 (get_or has.put.set k no_header).align) place.0 % max 1 a) said.2
        ∙ rounded_up-divides (max 1 (get_or has.put.set k no_header).align) place.0 (omega arith)

    pub sized : n.size ≡ length (bytes s tight w read sound made can tables has new new_read k)
    sized =
        let place = found s tight w read sound made can tables has new new_read k n there at_n in
        (says s tight w read sound made can tables has new new_read k n there at_n).1 ∙ place.2.size

    pub taken : take n.size (drop n.offset w) ≡ bytes s tight w read sound made can tables has new new_read k
    taken = ap (λ (m : ℕ). take m (drop n.offset w)) sized ∙ take-stands w n.offset _ contents-written

  -- A section, by where its contents are.
  module _ (k : ℕ) (x n : Section) (at_x : slice_get olds k ≡ Some x) (at_n : slice_get new.sections.items k ≡ Some n) where
    abbrev table : List ℕ
    table = has.put.new.section_names.now

    abbrev old : SectionHeader
    old = section_header s.elf.file.now k

    pub x-is : IsSectionAt s.elf.file.now k x
    x-is = read.sections.each k x at_x

    below : k < length olds
    below = slice_get_within olds k x at_x

    pub at-contents : slice_get has.contents k ≡ Some (known k x)
    at-contents =
        let low = below in
        let count = has.arranged.contents_are.count in
        let (c, at) = slice_get_found has.contents k (omega (arith, low, count)) in
        at ∙ ap (λ (b : Contents). Some b) (has.arranged.contents_are.each k x c at_x at)

    pub set-is : IsSet table made.layout.shift (is_at k (place_of_symbols s.elf)) (known k x) x old (get_or has.put.set k no_header)
    set-is = has.put.are_set.olds k x (known k x) no_header at_x at-contents

    abbrev begun : SectionHeader
    begun = record old { name = set-is.at; info = set-is.info }

    abbrev was : Contents → SectionHeader
    was c = set_header made.layout.shift c x begun

    module _ (c : Contents) (e : known k x ≡ c) where
      pub set-as : get_or has.put.set k no_header ≡ was c
      set-as = set-is.is ∙ ap was e

      -- its header, if the contents aren't written, ..
      says-unwritten : is_written c ≡ false → SaysHeader (capped (length w) (was c)) n
      says-unwritten is =
          subst (λ (h : SectionHeader). SaysHeader (capped (length w) h) n)
          (has.put.are_placed.others k no_header
          (λ j inside here. clash _ (listed-written k x at_x (j, inside, here)) (ap is_written e ∙ is)) ∙ set-as)
          (says-header k n at_n)

      -- .. and if they are
      module _ (is : is_written c ≡ true) where
        there : Contains written_at k
        there = written-listed k x at_x (ap is_written e ∙ is)

        pub says-written : SaysHeader (record (was c) { offset = n.offset; size = n.size }) n
        says-written =
            let place = found s tight w read sound made can tables has new new_read k n there at_n in
            let said = says-header k n at_n in
            let same : get_or has.put.placed k no_header ≡ record (was c) {
              offset = (get_or has.put.placed k no_header).offset;
              size = (get_or has.put.placed k no_header).size;
            } = place.2.same ∙ ap (λ (h : SectionHeader). record h {
              offset = (get_or has.put.placed k no_header).offset;
              size = (get_or has.put.placed k no_header).size;
            }) set-as in
            record {
              kind = said.kind ∙ ap (λ (h : SectionHeader). h.kind) same;
              flags = said.flags ∙ ap (λ (h : SectionHeader). h.flags) same;
              addr = said.addr ∙ ap (λ (h : SectionHeader). h.addr) same;
              offset = refl;
              size = refl;
              link = said.link ∙ ap (λ (h : SectionHeader). h.link) same;
              info = said.info ∙ ap (λ (h : SectionHeader). h.info) same;
              align = said.align ∙ ap (λ (h : SectionHeader). h.align) same;
              entsize = said.entsize ∙ ap (λ (h : SectionHeader). h.entsize) same;
            }

        bytes-are : bytes s tight w read sound made can tables has new new_read k ≡ written_bytes has.put.new s.elf.file.now c x
        bytes-are =
            ap (λ (o : Option Section). option_map_or (λ y. option_map_or (λ b. written_bytes has.put.new s.elf.file.now b y)
            (slice_get has.contents k) []) o has.put.new.ranges.now) at_x
            ∙ ap (λ (o : Option Contents). option_map_or (λ b. written_bytes has.put.new s.elf.file.now b x) o []) at-contents
            ∙ ap (λ (b : Contents). written_bytes has.put.new s.elf.file.now b x) e

        pub stands-written : Stands w n.offset (written_bytes has.put.new s.elf.file.now c x)
        stands-written = subst (Stands w n.offset) bytes-are (contents-written k n there at_n)

        pub held : (kind : ℕ) (ys : List ℕ) → n.kind ≡ kind → written_bytes has.put.new s.elf.file.now c x ≡ ys →
            (kind == SHT_NOBITS ≡ true → [] ≡ ys) → HoldsContents w ys n
        held kind ys is_kind are none = record {
          contents = cases (kind == SHT_NOBITS) refl;
          size = sized k n there at_n ∙ ap length (bytes-are ∙ are);
          aligned = aligned k n there at_n;
        }
          where
            cases : (b : Bool) → (kind == SHT_NOBITS) ≡ b → section_bytes w n ≡ ys
            cases true f =
                ap (λ (m : ℕ). if m == SHT_NOBITS then [] else take n.size (drop n.offset w)) is_kind
                ∙ ap (λ (d : Bool). if d then [] else take n.size (drop n.offset w)) f ∙ none f
            cases false f =
                ap (λ (m : ℕ). if m == SHT_NOBITS then [] else take n.size (drop n.offset w)) is_kind
                ∙ ap (λ (d : Bool). if d then [] else take n.size (drop n.offset w)) f
                ∙ taken k n there at_n ∙ bytes-are ∙ are

      -- the field `info` is kept, except for the symbol table
      info-kept : (c ≡ Symbols → ⊥) → set-is.info ≡ x.info
      info-kept other = cases (is_at k (place_of_symbols s.elf)) refl
        where
          cases : (b : Bool) → is_at k (place_of_symbols s.elf) ≡ b → set-is.info ≡ x.info
          cases true f = absurd (other (sym e ∙ symbols-at (e_shstrndx s.elf.file.now) (place_of_symbols s.elf)
              (place_of_names s.elf) (table_for tables olds k)
              (own_contents s.elf.segments.items made.layout.area made.layout.shift x) k x has.apart f))
          cases false f = set-is.same_info f ∙ sym x-is.info

      fields : n.addr ≡ old.addr → n.link ≡ old.link → n.align ≡ old.align → n.entsize ≡ old.entsize → KeepsFields x n
      fields addr link align entsize = record {
        addr = addr ∙ sym x-is.addr;
        link = link ∙ sym x-is.link;
        align = align ∙ sym x-is.align;
        entsize = entsize ∙ sym x-is.entsize;
      }

    not-more : (a : ℕ) → min (min a 18446744073709551615) (length w) ≡ min a (length w)
    not-more a =
        let small = has.put.ends.small in
        let size = length-written s tight w made in
        omega (arith, small, size)

    given-none : (kind : ℕ) (ys : List ℕ) → (kind_of_given kind == SHT_NOBITS) ≡ true → [] ≡ ys
    given-none kind ys is = absurd (grind (arith, is))

    follows : (c : Contents) → known k x ≡ c → Follows tables made.layout.shift s.elf.file.now w c x n
    follows Dropped e =
        let said = says-unwritten Dropped e refl in
        record {
          kind = said.kind;
          flags = said.flags;
          addr = said.addr;
          offset = let at = said.offset in omega (arith, at);
          size = said.size;
          link = said.link;
          info = said.info;
          align = said.align;
          entsize = said.entsize;
        }
    follows Inactive e =
        let said = says-unwritten Inactive e refl in
        record {
          kind = said.kind ∙ sym x-is.kind;
          same = record {
            fields = fields Inactive e said.addr said.link said.align said.entsize;
            flags = said.flags ∙ sym x-is.flags;
            info = said.info ∙ info-kept Inactive e (λ f. absurd (cc));
          };
          offset = said.offset ∙ ap (λ (o : ℕ). min o (length w)) (sym x-is.offset);
          size = said.size ∙ sym x-is.size;
        }
    follows Kept e =
        let said = says-unwritten Kept e refl in
        record {
          kind = said.kind ∙ sym x-is.kind;
          same = record {
            fields = fields Kept e said.addr said.link said.align said.entsize;
            flags = said.flags ∙ sym x-is.flags;
            info = said.info ∙ info-kept Kept e (λ f. absurd (cc));
          };
          offset =
              said.offset ∙ not-more _
              ∙ ap (λ (o : ℕ). min (moved_by made.layout.shift.from made.layout.shift.by o) (length w)) (sym x-is.offset);
          size = said.size ∙ sym x-is.size;
        }
    follows Copied e =
        let said = says-written Copied e refl in
        record {
          kind_is = said.kind ∙ sym x-is.kind;
          same = record {
            fields = fields Copied e said.addr said.link said.align said.entsize;
            flags = said.flags ∙ sym x-is.flags;
            info = said.info ∙ info-kept Copied e (λ f. absurd (cc));
          };
          contents = held Copied e refl x.kind (section_bytes s.elf.file.now x) (said.kind ∙ sym x-is.kind) refl
              (λ f. ap (λ (b : Bool). if b then [] else take x.size (drop x.offset s.elf.file.now)) (sym f));
        }
    follows SectionNames e =
        let said = says-written SectionNames e refl in
        record {
          own = record {
            fields = fields SectionNames e said.addr said.link said.align said.entsize;
            kind = said.kind ∙ ap kind_of_own (sym x-is.kind);
            flags = said.flags ∙ ap without_code (sym x-is.flags);
            aligned = aligned k n (there SectionNames e refl) at_n;
          };
          info = said.info ∙ info-kept SectionNames e (λ f. absurd (cc));
        }
    follows Symbols e =
        let said = says-written Symbols e refl in
        record {
          fields = fields Symbols e said.addr said.link said.align said.entsize;
          kind = said.kind ∙ ap kind_of_own (sym x-is.kind);
          flags = said.flags ∙ ap without_code (sym x-is.flags);
          aligned = aligned k n (there Symbols e refl) at_n;
        }
    follows SymbolNames e =
        let said = says-written SymbolNames e refl in
        record {
          own = record {
            fields = fields SymbolNames e said.addr said.link said.align said.entsize;
            kind = said.kind ∙ ap kind_of_own (sym x-is.kind);
            flags = said.flags ∙ ap without_code (sym x-is.flags);
            aligned = aligned k n (there SymbolNames e refl) at_n;
          };
          info = said.info ∙ info-kept SymbolNames e (λ f. absurd (cc));
        }
    follows (Given t) e =
        let said = says-written (Given t) e refl in
        let kind : n.kind ≡ kind_of_given x.kind = said.kind ∙ ap kind_of_given (sym x-is.kind) in
        record {
          kind_is = kind;
          same = record {
            fields = fields (Given t) e said.addr said.link said.align said.entsize;
            flags = said.flags ∙ sym x-is.flags;
            info = said.info ∙ info-kept (Given t) e (λ f. absurd (cc));
          };
          contents = held (Given t) e refl (kind_of_given x.kind) (given_bytes tables t) kind (has.put.given t)
              (given-none x.kind (given_bytes tables t));
        }

    -- as the input's section with its contents there
    pub section-follows : Follows tables made.layout.shift s.elf.file.now new.file.now (known k x) x n
    section-follows =
        subst (λ (f : List ℕ). Follows tables made.layout.shift s.elf.file.now f (known k x) x n) (sym new_read.file_is)
        (follows (known k x) refl)
