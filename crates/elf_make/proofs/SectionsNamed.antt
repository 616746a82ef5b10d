-- The names of sections in a file that was made, and the sections that were added, by what is read of it.
use Rattle.std.proofs.Common.{◌≡◌, ◌∙◌, sym, ap, subst, refl, ℕ, ◌<◌, inl, inr, List, []}
use Rattle.std.proofs.Common.{Option, Some, Bool, true, false, String, Vec, length, take, drop, get_or}
use Rattle.std.proofs.Common.{slice_get, arith}
use Rattle.std.specs.Prelude.{All, ◌==◌, if◌then◌else◌}
use Rattle.std.proofs.lemmas.Option.{slice_get_within}
use Rattle.elf_image.specs.declared.elf.Elf.{Elf}
use Rattle.elf_image.specs.declared.section.Section.{Section}
use Rattle.elf_image.specs.declared.section.SectionHeader.{SectionHeader}
use Rattle.elf_image.specs.declared.section.TheConstants.{SHT_NOBITS}
use Rattle.elf_image.specs.faults.FileFaults.{IsSound}
use Rattle.elf_image.specs.faults.Truncation.{IsReadable}
use Rattle.elf_image.specs.file.Header.{e_shstrndx}
use Rattle.elf_image.specs.file.ParsedFile.{IsElfOf, IsSectionAt}
use Rattle.elf_image.specs.file.Sections.{contents, section_header, section_names, section_place, text_of}
use Rattle.elf_image.specs.file.StringTables.{IsUnended}
use Rattle.rb_bytes.specs.declared.fault.FaultKind.TheVariants.{Truncated}
use Rattle.elf_parts.specs.Patches.{Stands}
use Rattle.elf_plan.specs.declared.area.Shift.{Shift}
use Rattle.elf_plan.specs.declared.sections.Contents.{Contents}
use Rattle.elf_plan.specs.declared.sections.Contents.TheVariants.{Dropped, Inactive, Kept, Copied, SectionNames}
use Rattle.elf_plan.specs.declared.sections.Contents.TheVariants.{Symbols, SymbolNames, Given}
use Rattle.elf_plan.specs.Contents.{contents_by, own_contents, section_bytes, table_for}
use Rattle.elf_plan.specs.FileLayout.{is_written}
use Rattle.elf_plan.specs.NameTables.{place_of_names, place_of_symbols}
use Rattle.elf_plan.specs.NewSections.{kind_of_own}
use Rattle.elf_plan.specs.OldNames.{is_renamed, new_name, old_name}
use Rattle.rb_bytes.proofs.ListLemmas.{slice_get_found}
use Rattle.rb_bytes.proofs.Tests.{clash}
use Rattle.elf_make.specs.FileParts.{IsMade}
use Rattle.elf_make.specs.MadeSections.{HasSections}
use Rattle.elf_make.specs.PlacedContents.{set_header}
use Rattle.elf_make.specs.SetHeaders.{IsNamed}
use Rattle.elf_make.specs.Source.{Source}
use Rattle.elf_make.proofs.CellPieces.{CanHoldPiece}
use Rattle.elf_make.proofs.LayoutRead.{counted, found}
use Rattle.elf_make.proofs.MadeHeaders.{e_shstrndx-written}
use Rattle.elf_make.proofs.NamesRead.{IsClean, clean-old, clean-text, text-kept, text-there}
use Rattle.elf_make.proofs.SectionsFollow.{header-is, held, known, listed-written, says-written, set-is, written-listed, x-is}
use Rattle.elf_make.proofs.SectionsRead.{no_header, section-written}
use Rattle.elf_make.proofs.SoundFiles.{readable}

-- the section of its names is a table of names
names-at : (names : ℕ) (symbols symbol_names table : Option ℕ) (own : Contents) (x : Section) →
    contents_by names symbols symbol_names table own names x ≡ SectionNames
names-at names symbols symbol_names table own x = grind (arith)

-- what a header is set to keeps its name
set-name : (shift : Shift) (c : Contents) (x : Section) (h : SectionHeader) → (set_header shift c x h).name ≡ h.name
set-name shift Dropped x h = refl
set-name shift Inactive x h = refl
set-name shift Kept x h = refl
set-name shift Copied x h = refl
set-name shift SectionNames x h = refl
set-name shift Symbols x h = refl
set-name shift SymbolNames x h = refl
set-name shift (Given t) x h = refl

pub own-held : (kind : ℕ) (ys : List ℕ) → (kind == SHT_NOBITS) ≡ false → (kind_of_own kind == SHT_NOBITS) ≡ true → [] ≡ ys
own-held kind ys other is = absurd (grind (arith, other, is))

-- the contents of a section, by its header or by what was read of it
pub contents-read : (w : List ℕ) (k : ℕ) (n : Section) → IsSectionAt w k n → contents w (section_header w k) ≡ section_bytes w n
contents-read w k n is =
    ap (λ (m : ℕ). if m == SHT_NOBITS then [] else take (section_header w k).size (drop (section_header w k).offset w)) (sym is.kind)
    ∙ ap (λ (m : ℕ). if n.kind == SHT_NOBITS then [] else take m (drop (section_header w k).offset w)) (sym is.size)
    ∙ ap (λ (m : ℕ). if n.kind == SHT_NOBITS then [] else take n.size (drop m w)) (sym is.offset)

module _ {Y Z : Type 0} (s : Source) (tight : Bool) (w : List ℕ) (read : IsElfOf s.elf.file.now s.elf)
    (sound : IsSound s.elf.file.now) (made : IsMade s tight w) (can : All (CanHoldPiece s.elf) s.cells)
    (tables : List (String Y × Vec ℕ Z)) (has : HasSections s tables tight w made) (new : Elf) (new_read : IsElfOf w new) where
  abbrev olds : List Section
  olds = s.elf.sections.items

  abbrev file : List ℕ
  file = s.elf.file.now

  abbrev table : List ℕ
  table = has.put.new.section_names.now

  abbrev at : ℕ
  at = e_shstrndx file

  is-readable : IsReadable file
  is-readable = readable file sound

  -- The table of section names in the input ..
  names-section : (x : Section) × (slice_get olds at ≡ Some x)
  names-section =
      let there = is-readable.section_names.0 in
      let count = read.sections.count_is in
      let (x, is) = slice_get_found olds at (omega (arith, there, count)) in
      (x, is)

  -- .. has bytes, since the name of a header ends there ..
  ended-there : (k : ℕ) → k < length olds → IsUnended (section_names file) (section_header file k).name → ⊥
  ended-there k below none =
      let count = read.sections.count_is in
      sound Truncated (section_place file k) (inr (
        is-readable.header,
        inr (inr (
          is-readable.sections,
          inr (inl (is-readable.section_names, (k, omega (arith, below, count), (none, refl)))),
        )),
      ))

  with_bytes : (x : Section) → slice_get olds at ≡ Some x → (x.kind == SHT_NOBITS) ≡ false
  with_bytes x at_x = cases (x.kind == SHT_NOBITS) refl
    where
      cases : (b : Bool) → (x.kind == SHT_NOBITS) ≡ b → (x.kind == SHT_NOBITS) ≡ false
      cases false e = e
      cases true e =
          let none : section_names file ≡ [] =
          contents-read file at x (read.sections.each at x at_x)
          ∙ ap (λ (b : Bool). if b then [] else take x.size (drop x.offset file)) e in
          let low = slice_get_within olds at x at_x in
          absurd (ended-there 0 (omega (arith, low)) (subst (λ (ys : List ℕ). IsUnended ys (section_header file 0).name) (sym none)
          (λ j from below. absurd (omega (arith, below)))))

  -- .. and in the file
  pub table-read : section_names w ≡ table
  table-read =
      let (x, at_x) = names-section in
      let there = is-readable.section_names.0 in
      let count = read.sections.count_is in
      let more = has.put.more in
      let all = counted s tight w read sound made can tables has new new_read in
      let (n, at_n) = slice_get_found new.sections.items at (omega (arith, there, count, more, all)) in
      let known = names-at at (place_of_symbols s.elf) (place_of_names s.elf) (table_for tables olds at)
      (own_contents s.elf.segments.items made.layout.area made.layout.shift x) x in
      let old = x-is s tight w read sound made can tables has new new_read at x n at_x at_n in
      let said = says-written s tight w read sound made can tables has new new_read at x n at_x at_n SectionNames known refl in
      let is = held s tight w read sound made can tables has new new_read at x n at_x at_n SectionNames known refl
      (kind_of_own x.kind) table (said.kind ∙ ap kind_of_own (sym old.kind)) refl (own-held x.kind table (with_bytes x at_x)) in
      ap (λ (i : ℕ). contents w (section_header w i)) (e_shstrndx-written s tight w made)
      ∙ contents-read w at n (new_read.sections.each at n at_n) ∙ is.contents

  old-text : (k : ℕ) → k < length olds →
      text_of table (section_header file k).name ≡ text_of (section_names file) (section_header file k).name
  old-text k below =
      let (x, at_x) = names-section in
      let same : section_names file ≡ section_bytes file x = contents-read file at x (read.sections.each at x at_x) in
      text-kept (section_names file) table (section_header file k).name
      (λ o xs stands. has.put.are_set.grown x at_x o xs (subst (λ (ys : List ℕ). Stands ys o xs) same stands)) (ended-there k below)

  -- A section of the input.
  module _ (k : ℕ) (x n : Section) (at_x : slice_get olds k ≡ Some x) (at_n : slice_get new.sections.items k ≡ Some n) where
    abbrev was : SectionHeader
    was = section_header file k

    abbrev place : ℕ
    place = (set-is s tight w read sound made can tables has new new_read k x n at_x at_n).at

    below : k < length olds
    below = slice_get_within olds k x at_x

    -- its header's name isn't changed by what becomes of its contents
    name-placed : (get_or has.put.placed k no_header).name ≡ (get_or has.put.set k no_header).name
    name-placed = cases (is_written (known s tight w read sound made can tables has new new_read k x)) refl
      where
        cases : (b : Bool) → is_written (known s tight w read sound made can tables has new new_read k x) ≡ b →
            (get_or has.put.placed k no_header).name ≡ (get_or has.put.set k no_header).name
        cases true e =
            let there = written-listed s tight w read sound made can tables has new new_read k x at_x e in
            ap (λ (h : SectionHeader). h.name) (found s tight w read sound made can tables has new new_read k n there at_n).2.same
        cases false e =
            ap (λ (h : SectionHeader). h.name)
            (has.put.are_placed.others k no_header (λ j inside here.
            clash _ (listed-written s tight w read sound made can tables has new new_read k x at_x (j, inside, here)) e))

    name-set : (get_or has.put.set k no_header).name ≡ place
    name-set =
        ap (λ (h : SectionHeader). h.name)
        (set-is s tight w read sound made can tables has new new_read k x n at_x at_n).is
        ∙ set-name made.layout.shift (known s tight w read sound made can tables has new new_read k x) x _

    name-is : n.name.now ≡ text_of table place
    name-is =
        let more = has.put.more in
        let low = below in
        let count = has.put.are_placed.count in
        let all = has.put.count in
        (new_read.sections.each k n at_n).name
        ∙ ap (λ (ys : List ℕ). text_of ys (section_header w k).name) table-read
        ∙ ap (λ (h : SectionHeader). text_of table h.name)
        (section-written s tight w read sound made can tables has.contents has.order has.headers has.put has.count k no_header
        (omega (arith, low, more, count, all))
        ∙ header-is s tight w read sound made can tables has new new_read k (omega (arith, low, more)))
        ∙ ap (text_of table) (name-placed ∙ name-set)

    old-name : x.name.now ≡ text_of (section_names file) was.name
    old-name = (read.sections.each k x at_x).name

    pub section-called : n.name.now ≡ new_name x
    section-called = cases (is_renamed x) refl
      where
        named : IsNamed table x was.name place
        named = (set-is s tight w read sound made can tables has new new_read k x n at_x at_n).name

        clean : IsClean x.name.now
        clean = subst IsClean (sym old-name) (clean-text (section_names file) was.name)

        cases : (b : Bool) → is_renamed x ≡ b → n.name.now ≡ new_name x
        cases true e =
            name-is ∙ text-there table (old_name x.name.now) place (clean-old x.name.now clean) (named.renamed e)
            ∙ sym (ap (λ (b : Bool). if b then old_name x.name.now else x.name.now) e)
        cases false e =
            name-is ∙ ap (text_of table) (named.kept e) ∙ old-text k below ∙ sym old-name
            ∙ sym (ap (λ (b : Bool). if b then old_name x.name.now else x.name.now) e)
