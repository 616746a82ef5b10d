-- The symbol table of a written file is at the index of the input's.
use Rattle.std.proofs.Common.{◌≡◌, ◌∙◌, ap, refl, ℕ, ◌+◌, ◌-◌, ◌≤◌, ◌<◌, ◌⊎◌, inl, inr, List, Option, Some, None}
use Rattle.std.proofs.Common.{Bool, true, false, String, Vec, length, subst, arith}
use Rattle.std.specs.Prelude.{IfSome, is_some, slice_get, ◌==◌, if◌then◌else◌}
use Rattle.std.proofs.lemmas.Bool.{cases_lt, eq-eqb, eqb-true}
use Rattle.std.proofs.lemmas.Option.{slice_get_within}
use Rattle.rv_code.specs.isa.Op.{flag}
use Rattle.elf_image.specs.declared.elf.Elf.{Elf}
use Rattle.elf_image.specs.declared.relocation.TheConstants.{SHT_RELA}
use Rattle.elf_image.specs.declared.section.Section.{Section}
use Rattle.elf_image.specs.declared.section.TheConstants.{SHT_NOBITS, SHT_PROGBITS, SHT_SYMTAB}
use Rattle.elf_image.specs.file.Header.{e_shstrndx}
use Rattle.elf_plan.specs.declared.area.Area.{Area}
use Rattle.elf_plan.specs.declared.area.Shift.{Shift}
use Rattle.elf_plan.specs.declared.section_bytes.TheConstants.{SHT_NULL}
use Rattle.elf_plan.specs.declared.sections.Contents.{Contents}
use Rattle.elf_plan.specs.declared.sections.Contents.TheVariants.{Dropped, Inactive, Kept, Copied, SectionNames}
use Rattle.elf_plan.specs.declared.sections.Contents.TheVariants.{Symbols, SymbolNames, Given}
use Rattle.elf_plan.specs.Contents.{contents_of, is_at, own_contents, table_for}
use Rattle.elf_plan.specs.NameTables.{place_of_names, place_of_symbols}
use Rattle.elf_plan.specs.NewSections.{AreNewSections, At, Follows, adds_ranges, kind_of_given, kind_of_own}
use Rattle.rb_bytes.proofs.ListLemmas.{if_found, slice_get_found}
use Rattle.elf_make.proofs.SectionsFollow.{symbols-at}
use Rattle.elf_make.proofs.SymbolTables.{first-at, is_table, none-passes, position-at, position-none}

flag-most : (b : Bool) → flag b ≤ 1
flag-most true = omega arith
flag-most false = omega arith

flag-true : (b : Bool) → 0 < flag b → b ≡ true
flag-true true some = refl
flag-true false some = absurd (omega (arith, some))

own-other : (kind : ℕ) → (kind == SHT_SYMTAB) ≡ false → (kind_of_own kind == SHT_SYMTAB) ≡ false
own-other kind other = cases (kind == SHT_RELA)
  where
    cases : (b : Bool) → ((if b then SHT_NULL else kind) == SHT_SYMTAB) ≡ false
    cases true = refl
    cases false = other

given-other : (kind : ℕ) → (kind == SHT_SYMTAB) ≡ false → (kind_of_given kind == SHT_SYMTAB) ≡ false
given-other kind other = cases (kind == SHT_NOBITS)
  where
    cases : (b : Bool) → ((if b then SHT_PROGBITS else kind) == SHT_SYMTAB) ≡ false
    cases true = refl
    cases false = other

module _ {Y Z : Type 0} (elf new : Elf) (tables : List (String Y × Vec ℕ Z)) (area : Area) (shift : Shift) (code : List ℕ)
    (are : AreNewSections elf new tables area shift code)
    (apart : is_at (e_shstrndx elf.file.now) (place_of_symbols elf) ≡ false) where
  abbrev olds : List Section
  olds = elf.sections.items

  abbrev news : List Section
  news = new.sections.items

  abbrev frames : ℕ
  frames = flag (is_some area.frames)

  abbrev index : ℕ
  index = flag (is_some area.index)

  kind-other : (n : Section) (kind : ℕ) → n.kind ≡ kind → (kind == SHT_SYMTAB) ≡ false → is_table n ≡ false
  kind-other n kind is other = ap (λ (k : ℕ). k == SHT_SYMTAB) is ∙ other

  -- no other section becomes a symbol table
  follows-other : (c : Contents) (x n : Section) → Follows tables shift elf.file.now new.file.now c x n → is_table x ≡ false →
      is_table n ≡ false
  follows-other Dropped x n is other = kind-other n SHT_NULL is.kind refl
  follows-other Inactive x n is other = kind-other n x.kind is.kind other
  follows-other Kept x n is other = kind-other n x.kind is.kind other
  follows-other Copied x n is other = kind-other n x.kind is.kind_is other
  follows-other SectionNames x n is other = kind-other n (kind_of_own x.kind) is.own.kind (own-other x.kind other)
  follows-other Symbols x n is other = kind-other n (kind_of_own x.kind) is.kind (own-other x.kind other)
  follows-other SymbolNames x n is other = kind-other n (kind_of_own x.kind) is.own.kind (own-other x.kind other)
  follows-other (Given t) x n is other = kind-other n (kind_of_given x.kind) is.kind_is (given-other x.kind other)

  -- and none is added
  at-some : (o : Option ℕ) (m : ℕ) (P : ℕ → Section → Type 0) → IfSome o (λ a. At news m (P a)) → 0 < flag (is_some o) →
      ((a : ℕ) (n : Section) → P a n → n.kind ≡ SHT_PROGBITS) → (n : Section) → slice_get news m ≡ Some n → n.kind ≡ SHT_PROGBITS
  at-some None m P is some gives n at = absurd (omega (arith, some))
  at-some (Some a) m P is some gives n at = gives a n (if_found (P a) (slice_get news m) n at is)

  added-kind : (j : ℕ) (n : Section) → length olds ≤ j → slice_get news j ≡ Some n → n.kind ≡ SHT_PROGBITS
  added-kind j n past at = cases (cases_lt j (length olds + 1))
    where
      count : length news ≡ (length olds + 1) + (frames + (index + flag (adds_ranges olds tables)))
      count = are.count

      below : j < length news
      below = slice_get_within news j n at

      last : (length olds + 1) + (frames + index) ≤ j → n.kind ≡ SHT_PROGBITS
      last high =
          let all = count in
          let low = below in
          let most = flag-most (adds_ranges olds tables) in
          let adds = flag-true (adds_ranges olds tables) (omega (arith, high, all, low)) in
          let here : length news - 1 ≡ j = omega (arith, high, all, low, most) in
          (if_found _ (slice_get news (length news - 1)) n (ap (slice_get news) here ∙ at) (are.ranges adds)).header.kind

      in_index : (j < (length olds + 1) + (frames + index)) ⊎ ((length olds + 1) + (frames + index) ≤ j) →
          (length olds + 1) + frames ≤ j → n.kind ≡ SHT_PROGBITS
      in_index (inr high) from = last high
      in_index (inl low) from =
          let most = flag-most (is_some area.index) in
          let here : (length olds + 1) + frames ≡ j = omega (arith, low, from, most) in
          at-some area.index ((length olds + 1) + frames) _ are.index (omega (arith, low, from)) (λ a m is. is.added.header.kind) n
          (ap (slice_get news) here ∙ at)

      in_frames : (j < (length olds + 1) + frames) ⊎ ((length olds + 1) + frames ≤ j) → length olds + 1 ≤ j →
          n.kind ≡ SHT_PROGBITS
      in_frames (inr high) from = in_index (cases_lt j ((length olds + 1) + (frames + index))) high
      in_frames (inl low) from =
          let most = flag-most (is_some area.frames) in
          let here : length olds + 1 ≡ j = omega (arith, low, from, most) in
          at-some area.frames (length olds + 1) _ are.frames (omega (arith, low, from)) (λ a m is. is.added.header.kind) n
          (ap (slice_get news) here ∙ at)

      cases : (j < length olds + 1) ⊎ (length olds + 1 ≤ j) → n.kind ≡ SHT_PROGBITS
      cases (inr high) = in_frames (cases_lt j ((length olds + 1) + frames)) high
      cases (inl low) =
          let here : length olds ≡ j = omega (arith, low, past) in
          (if_found _ (slice_get news (length olds)) n (ap (slice_get news) here ∙ at) are.text).added.header.kind

  other-at : (j : ℕ) (n : Section) → slice_get news j ≡ Some n →
      ((x : Section) → slice_get olds j ≡ Some x → is_table x ≡ false) → is_table n ≡ false
  other-at j n at others = cases (cases_lt j (length olds))
    where
      cases : (j < length olds) ⊎ (length olds ≤ j) → is_table n ≡ false
      cases (inr past) = kind-other n SHT_PROGBITS (added-kind j n past at) refl
      cases (inl low) =
          let (x, at_x) = slice_get_found olds j low in
          follows-other (contents_of elf tables area shift j x) x n (are.follows j x n at_x at) (others x at_x)

  -- the symbol table of the input
  module _ (k : ℕ) (x : Section) (place : place_of_symbols elf ≡ Some k) (at_x : slice_get olds k ≡ Some x) where
    pub known-symbols : contents_of elf tables area shift k x ≡ Symbols
    known-symbols =
        symbols-at (e_shstrndx elf.file.now) (place_of_symbols elf) (place_of_names elf) (table_for tables olds k)
        (own_contents elf.segments.items area shift x) k x apart (ap (is_at k) place ∙ eq-eqb k k refl)

  pub place-same : place_of_symbols new ≡ place_of_symbols elf
  place-same = cases (place_of_symbols elf) refl
    where
      cases : (o : Option ℕ) → place_of_symbols elf ≡ o → place_of_symbols new ≡ o
      cases None e = position-none is_table news (λ j n at. other-at j n at (none-passes is_table olds e j))
      cases (Some k) e =
          let is = first-at is_table olds k e in
          let inside = slice_get_within olds k is.x is.at in
          let all = are.count in
          let (n, at_n) = slice_get_found news k (omega (arith, inside, all)) in
          let follows = subst (λ (c : Contents). Follows tables shift elf.file.now new.file.now c is.x n)
          (known-symbols k is.x e is.at) (are.follows k is.x n is.at at_n) in
          let was : is.x.kind ≡ SHT_SYMTAB = eqb-true is.x.kind SHT_SYMTAB is.passes in
          position-at is_table news k (record {
            x = n;
            at = at_n;
            passes = ap (λ (m : ℕ). m == SHT_SYMTAB) (follows.kind ∙ ap kind_of_own was);
            before = λ j m low at. other-at j m at (λ y at_y. is.before j y low at_y);
          })
