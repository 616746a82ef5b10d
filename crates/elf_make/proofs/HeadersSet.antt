-- The headers of all sections before their contents have places, by what each step makes of them.
use Rattle.std.proofs.Common.{◌≡◌, ◌∙◌, sym, ap, refl, ℕ, ◌≤◌, ◌<◌, List, [], ◌∷◌, ◌++◌, Bool, true, false, drop, take}
use Rattle.std.proofs.Common.{Option, Some, None, String, Vec, length, get_or, slice_get, arith}
use Rattle.std.specs.Prelude.{position, ◌==◌}
use Rattle.std.proofs.Math.Seq.{take-append_seam}
use Rattle.std.proofs.lemmas.Bool.{eqb-true, false_from_ne_true}
use Rattle.std.proofs.lemmas.List.{get_or_append_left}
use Rattle.std.proofs.lemmas.List.Quantifiers.{position-Some}
use Rattle.std.proofs.lemmas.Option.{get_or_from_slice_get, slice_get_within}
use Rattle.elf_image.specs.declared.elf.Elf.{Elf}
use Rattle.elf_image.specs.declared.section.Section.{Section}
use Rattle.elf_image.specs.declared.section.SectionHeader.{SectionHeader}
use Rattle.elf_image.specs.file.Header.{e_shnum, e_shstrndx}
use Rattle.elf_image.specs.file.Sections.{section_header}
use Rattle.elf_plan.specs.declared.area.Area.{Area}
use Rattle.elf_plan.specs.declared.area.Shift.{Shift}
use Rattle.elf_plan.specs.declared.sections.Contents.{Contents}
use Rattle.elf_plan.specs.Contents.{is_at, section_bytes}
use Rattle.elf_plan.specs.NameTables.{place_of_symbols}
use Rattle.elf_plan.specs.NewSections.{adds_ranges}
use Rattle.elf_make.specs.PlacedContents.{set_header}
use Rattle.elf_make.specs.SetHeaders.{Adds, AddsAt, AddsRanges, AreAdded, AreSet, IsRenamed, IsSet, Keeps}
use Rattle.elf_make.proofs.GrownNames.{all-kept, adds-length, adds_at-more, both-keep, named-kept}

-- a list that was written over one of its length
pub written-over : (long : ℕ) (xs ys : List SectionHeader) → long ≡ length xs → take long (xs ++ drop (length xs) ys) ≡ xs
written-over long xs ys full =
    ap (λ (n : ℕ). take n (xs ++ drop (length xs) ys)) full ∙ take-append_seam xs (drop (length xs) ys)

-- no index past the sections is that of the first that passes a test
past-all : (test : Section → Bool) (sections : List Section) (k : ℕ) → length sections ≤ k → is_at k (position test sections) ≡ false
past-all test [] k past = refl
past-all test (x ∷ xs) k past = cases (position test (x ∷ xs)) refl
  where
    cases : (o : Option ℕ) → position test (x ∷ xs) ≡ o → is_at k o ≡ false
    cases None e = refl
    cases (Some i) e = false_from_ne_true (i == k)
        (λ same. let at = eqb-true i k same in let low = (position-Some test (x ∷ xs) i x e).0 in absurd (omega (arith, at, low, past)))

-- Headers that were there before others were added.
adds-front : (table text : List ℕ) (flags addr offset size align : ℕ) (old new : List SectionHeader) →
    Adds table text flags addr offset size align old new → (k : ℕ) (d : SectionHeader) → k < length old →
    get_or new k d ≡ get_or old k d
adds-front table text flags addr offset size align old new adds k d below =
    ap (λ (hs : List SectionHeader). get_or hs k d) adds.added ∙ get_or_append_left old (adds.header ∷ []) d k below

pub adds_at-front : (table text : List ℕ) (area : Area) (place : Option ℕ) (size align : ℕ) (old new : List SectionHeader) →
    AddsAt table text area place size align old new → (k : ℕ) (d : SectionHeader) → k < length old → get_or new k d ≡ get_or old k d
adds_at-front table text area None size align old new adds k d below = ap (λ (hs : List SectionHeader). get_or hs k d) adds
adds_at-front table text area (Some a) size align old new adds k d below =
    adds-front table text _ a _ size align old new adds k d below

pub ranges-front : (table : List ℕ) (ranges : Bool) (old new : List SectionHeader) → AddsRanges table ranges old new →
    (k : ℕ) (d : SectionHeader) → k < length old → get_or new k d ≡ get_or old k d
ranges-front table false old new adds k d below = ap (λ (hs : List SectionHeader). get_or hs k d) adds
ranges-front table true old new adds k d below = adds-front table _ 0 0 0 0 1 old new adds k d below

added-front : {Y Z : Type 0} (table : List ℕ) (tables : List (String Y × Vec ℕ Z)) (area : Area) (ranges : Bool)
    (old new : List SectionHeader) → AreAdded table tables area ranges old new → (k : ℕ) (d : SectionHeader) → k < length old →
    get_or new k d ≡ get_or old k d
added-front table tables area ranges old new are k d below =
    let first = adds-length table _ _ _ _ _ 16 old are.with_text are.text in
    let second = adds_at-more table _ area area.frames _ 8 are.with_text are.with_frames are.frames in
    let third = adds_at-more table _ area area.index _ 4 are.with_frames are.with_index are.index in
    ranges-front table ranges are.with_index new are.added_ranges k d (omega (arith, below, first, second, third))
    ∙ adds_at-front table _ area area.index _ 4 are.with_frames are.with_index are.index k d (omega (arith, below, first, second))
    ∙ adds_at-front table _ area area.frames _ 8 are.with_text are.with_frames are.frames k d (omega (arith, below, first))
    ∙ adds-front table _ _ _ _ _ 16 old are.with_text are.text k d below

module _ {Y Z : Type 0} (elf : Elf) (tables : List (String Y × Vec ℕ Z)) (area : Area) (shift : Shift) (contents : List Contents)
    (own : Option ℕ) (first second last : List ℕ) (more : Keeps first second) (further : Keeps second last)
    (olds added symbols set : List SectionHeader) (is_own : own ≡ place_of_symbols elf)
    (sections : length elf.sections.items ≡ e_shnum elf.file.now) (count : length contents ≡ length elf.sections.items)
    (begins : length olds ≡ e_shnum elf.file.now)
    (renamed : (k : ℕ) (s : Section) (d : SectionHeader) → k < e_shnum elf.file.now → slice_get elf.sections.items k ≡ Some s →
    IsRenamed first s (section_header elf.file.now k) (get_or olds k d))
    (are : AreAdded second tables area (adds_ranges elf.sections.items tables) olds added)
    (symbols_count : length symbols ≡ length added)
    (same_but : (k : ℕ) (d : SectionHeader) → get_or symbols k d
    ≡ record (get_or added k d) { info = (get_or symbols k d).info })
    (others : (k : ℕ) (d : SectionHeader) → is_at k own ≡ false → get_or symbols k d ≡ get_or added k d)
    (set_count : length set ≡ length symbols)
    (set_to : (k : ℕ) (h : SectionHeader) (s : Section) (c : Contents) → k < length contents → k < length symbols →
    k < length elf.sections.items → get_or set k h
    ≡ set_header shift (get_or contents k c) (get_or elf.sections.items k s) (get_or symbols k h))
    (rest : (k : ℕ) (h : SectionHeader) → length contents ≤ k → get_or set k h ≡ get_or symbols k h)
    (longer : length olds ≤ length added)
    (grown : (names : Section) → slice_get elf.sections.items (e_shstrndx elf.file.now) ≡ Some names →
    Keeps (section_bytes elf.file.now names) first) where
  module _ (k : ℕ) (s : Section) (c : Contents) (d : SectionHeader) (at_s : slice_get elf.sections.items k ≡ Some s)
      (at_c : slice_get contents k ≡ Some c) where
    abbrev old : SectionHeader
    old = section_header elf.file.now k

    abbrev now : SectionHeader
    now = get_or olds k d

    abbrev info : ℕ
    info = (get_or symbols k d).info

    below : k < length elf.sections.items
    below = slice_get_within elf.sections.items k s at_s

    front : get_or added k d ≡ now
    front = let low = below in
        added-front second tables area _ olds added are k d (omega (arith, low, sections, begins))

    is_renamed : IsRenamed first s old now
    is_renamed = let low = below in renamed k s d (omega (arith, low, sections)) at_s

    header : get_or symbols k d ≡ record old { name = now.name; info = info }
    header =
        same_but k d
        ∙ ap (λ (h : SectionHeader). record h { info = info }) (front ∙ is_renamed.same)

    old-set : IsSet last shift (is_at k (place_of_symbols elf)) c s old (get_or set k d)
    old-set = record {
      at = now.name;
      info = info;
      name = named-kept first last (both-keep first second last more further) s old.name now.name is_renamed.name;
      same_info = λ e.
          ap (λ (h : SectionHeader). h.info) (others k d (ap (is_at k) is_own ∙ e) ∙ front ∙ is_renamed.same);
      is =
          let low = below in
          set_to k d s c (omega (arith, low, count)) (omega (arith, low, sections, begins, longer, symbols_count)) low
          ∙ ap (λ (b : Contents). set_header shift b (get_or elf.sections.items k s) (get_or symbols k d))
          (get_or_from_slice_get contents k c c at_c)
          ∙ ap (λ (x : Section). set_header shift c x (get_or symbols k d))
          (get_or_from_slice_get elf.sections.items k s s at_s)
          ∙ ap (set_header shift c s) header;
    }

  pub headers-set : AreSet elf tables area shift contents last set
  headers-set = record {
    grown = λ names at. both-keep (section_bytes elf.file.now names) first last (grown names at)
        (both-keep first second last more further);
    olds = old-set;
    before = olds;
    after = added;
    begins = begins ∙ sym sections;
    count = set_count ∙ symbols_count;
    same = λ k d past.
        rest k d (omega (arith, past, count))
        ∙ others k d (ap (is_at k) is_own ∙ past-all _ elf.sections.items k past);
    added = all-kept second last further tables area _ olds added are;
  }
