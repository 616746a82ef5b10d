-- The sections that are added to a written file, and the names of debug tables that the input hasn't.
use Rattle.std.proofs.Common.{◌≡◌, ◌≢◌, ℕ, ◌+◌, ◌-◌, ◌<◌, ◌≤◌, List, length, Option, Some, None, Bool, true, false, refl, sym, ap, ◌∙◌}
use Rattle.std.proofs.Common.{subst, arith, inl, inr, ◌⊎◌}
use Rattle.std.specs.Prelude.{slice_get, is_some, IsSomeAnd, String, Vec, codes, IfSome}
use Rattle.std.specs.Str.{bytes_eq}
use Rattle.std.proofs.lemmas.Bool.{and_parts, cases_lt, cases_order, cases_Bool, false_from_ne_true}
use Rattle.std.proofs.lemmas.Option.{slice_get_within}
use Rattle.rb_bytes.proofs.ListLemmas.{find_none, if_found, slice_get_found, contains_at}
use Rattle.rb_bytes.proofs.Searches.{find-none}
use Rattle.rb_bytes.proofs.Options.{option_cases}
use Rattle.rv_code.proofs.lists.Follows.{at_contains}
use Rattle.rv_code.specs.isa.Op.{flag}
use Rattle.elf_image.specs.declared.elf.Elf.{Elf}
use Rattle.elf_image.specs.declared.section.Section.{Section}
use Rattle.elf_image.specs.declared.section.TheConstants.{SHF_ALLOC, SHF_EXECINSTR}
use Rattle.elf_image.specs.file.SectionNames.{is_called, is_meant_by, names_debug, section_called}
use Rattle.elf_plan.specs.declared.area.Area.{Area}
use Rattle.elf_plan.specs.declared.area.Shift.{Shift}
use Rattle.elf_plan.specs.Contents.{section_bytes}
use Rattle.elf_plan.specs.NewSections.{AreNewSections, IsAdded, IsInArea, adds_ranges, bytes_called}
use Rattle.elf_write.specs.TablePlaces.{Holds}
use Rattle.elf_write.proofs.GivenTables.{found_first, same_at, same_bytes}

-- the name of one of them: the unwind table if the area has it, and ranges where they are added, which come last
pub data AddedName (adds : Bool) (frames : Option ℕ) (IsLast : Type 0) (name : List ℕ) : Type 0 where
  is_text : name ≡ codes ".text" → AddedName adds frames IsLast name
  is_frames : (a : ℕ) → frames ≡ Some a → name ≡ codes ".eh_frame" → AddedName adds frames IsLast name
  is_index : name ≡ codes ".eh_frame_hdr" → AddedName adds frames IsLast name
  is_ranges : adds ≡ true → name ≡ codes ".debug_rnglists" → IsLast → AddedName adds frames IsLast name

module _ {Y Z : Type 0} (elf new : Elf) (tables : List (String Y × Vec ℕ Z)) (area : Area) (shift : Shift) (code : List ℕ)
    (are : AreNewSections elf new tables area shift code) where
  abbrev n : ℕ
  n = length elf.sections.items

  abbrev adds : Bool
  adds = adds_ranges elf.sections.items tables

  -- the section of an index has the name of one that is added
  abbrev IsNamed : ℕ → Section → Type 0
  IsNamed k z = AddedName adds area.frames (k ≡ length new.sections.items - 1) z.name.now

  text_at : (k : ℕ) (z : Section) → slice_get new.sections.items n ≡ Some z → IsNamed k z
  text_at k z at =
      let is = if_found (IsInArea new.file.now area (codes ".text") code (SHF_ALLOC + SHF_EXECINSTR) area.start 16)
      (slice_get new.sections.items n) z at are.text in
      is_text is.added.header.name_is

  frames_at : (k a : ℕ) → area.frames ≡ Some a → (z : Section) → slice_get new.sections.items (n + 1) ≡ Some z → IsNamed k z
  frames_at k a some z at =
      let is = if_found (IsInArea new.file.now area (codes ".eh_frame") (bytes_called tables (codes ".eh_frame")) SHF_ALLOC a 8)
      (slice_get new.sections.items (n + 1)) z at
      (if_found (λ x. IfSome (slice_get new.sections.items (n + 1))
      (IsInArea new.file.now area (codes ".eh_frame") (bytes_called tables (codes ".eh_frame")) SHF_ALLOC x 8)) area.frames a some
      are.frames) in
      is_frames a some is.added.header.name_is

  index_at : (k b : ℕ) → area.index ≡ Some b → (z : Section) →
      slice_get new.sections.items (n + 1 + flag (is_some area.frames)) ≡ Some z → IsNamed k z
  index_at k b some z at =
      let is = if_found
      (IsInArea new.file.now area (codes ".eh_frame_hdr") (bytes_called tables (codes ".eh_frame_hdr")) SHF_ALLOC b 4)
      (slice_get new.sections.items (n + 1 + flag (is_some area.frames))) z at
      (if_found (λ x. IfSome (slice_get new.sections.items (n + 1 + flag (is_some area.frames)))
      (IsInArea new.file.now area (codes ".eh_frame_hdr") (bytes_called tables (codes ".eh_frame_hdr")) SHF_ALLOC x 4))
      area.index b some are.index) in
      is_index is.added.header.name_is

  ranges_at : adds ≡ true → (z : Section) → slice_get new.sections.items (length new.sections.items - 1) ≡ Some z →
      IsAdded new.file.now (codes ".debug_rnglists") (bytes_called tables (codes ".debug_rnglists")) 0 0 1 z
  ranges_at some z at =
      if_found (IsAdded new.file.now (codes ".debug_rnglists") (bytes_called tables (codes ".debug_rnglists")) 0 0 1)
      (slice_get new.sections.items (length new.sections.items - 1)) z at (are.ranges some)

  at_is : (j k : ℕ) (z : Section) → j ≡ k → slice_get new.sections.items j ≡ Some z → slice_get new.sections.items k ≡ Some z
  at_is j k z e at = subst (λ (x : ℕ). slice_get new.sections.items x ≡ Some z) e at

  -- each section after those of the input is one of the four
  pub added : (k : ℕ) (z : Section) → n ≤ k → slice_get new.sections.items k ≡ Some z → IsNamed k z
  added k z past at = elim (cases_order k n) [
    | inl same ↦ text_at k z (at_is k n z same at)
    | inr apart ↦ elim (option_cases area.frames) [
      | inl none ↦ behind 0 (ap (λ (o : Option ℕ). flag (is_some o)) none) (let h = above apart in omega (arith, h))
      | inr some ↦ elim (cases_order k (n + 1)) [
        | inl same ↦ frames_at k some.0 some.1 z (at_is k (n + 1) z same at)
        | inr far ↦ behind 1 (ap (λ (o : Option ℕ). flag (is_some o)) some.1)
            (elim far [
              | inl low ↦ (let h = above apart in absurd (omega (arith, low, h)))
              | inr high ↦ omega (arith, high)
            ])
      ]
    ]
  ]
    where
      above : (k < n) ⊎ (n < k) → n < k
      above (inl low) = absurd (omega (arith, low, past))
      above (inr high) = high

      inside : k < length new.sections.items
      inside = slice_get_within new.sections.items k z at

      last : (f i : ℕ) → flag (is_some area.frames) ≡ f → flag (is_some area.index) ≡ i → n + f + i < k → IsNamed k z
      last f i is_f is_i high = elim (cases_Bool adds) [
        | inl some ↦
            let count = are.count in
            let one : flag adds ≡ 1 = ap flag some in
            let l = inside in
            let e : k ≡ length new.sections.items - 1 = omega (arith, count, one, is_f, is_i, high, l) in
            let is = ranges_at some z (at_is k (length new.sections.items - 1) z e at) in
            is_ranges some is.header.name_is e
        | inr none ↦
            let count = are.count in
            let zero_is : flag adds ≡ 0 = ap flag none in
            let l = inside in
            absurd (omega (arith, count, zero_is, is_f, is_i, high, l))
      ]

      behind : (f : ℕ) → flag (is_some area.frames) ≡ f → n + f < k → IsNamed k z
      behind f is high = elim (option_cases area.index) [
        | inl none ↦ last f 0 is (ap (λ (o : Option ℕ). flag (is_some o)) none) (omega (arith, high))
        | inr some ↦ elim (cases_order k (n + 1 + f)) [
          | inl same ↦
              index_at k some.0 some.1 z (at_is k (n + 1 + flag (is_some area.frames)) z (let e = is in omega (arith, same, e)) at)
          | inr far ↦ last f 1 is (ap (λ (o : Option ℕ). flag (is_some o)) some.1)
              (elim far [
                | inl low ↦ absurd (omega (arith, low, high))
                | inr past ↦ omega (arith, past)
              ])
        ]
      ]

  module _ (name : List ℕ) (debug : names_debug name ≡ true) (absent : section_called elf.sections.items name ≡ None) where
    old_none : (k : ℕ) (z : Section) → k < n → slice_get new.sections.items k ≡ Some z → is_called name z ≡ false
    old_none k z less at =
        let (s, at_s) = slice_get_found elf.sections.items k less in
        same_at elf new tables area shift code are name debug k s z at_s at
        ∙ false_from_ne_true (is_called name s) (λ called.
        find_none (is_called name) elf.sections.items s absent (at_contains elf.sections.items k s at_s) called)

    named : (z : Section) → is_called name z ≡ true → z.name.now ≡ name
    named z h = same_bytes z.name.now name (and_parts (bytes_eq z.name.now name) (is_meant_by name z) h).0

    -- a table that isn't added isn't there
    pub absent_stays : (adds ≡ true → name ≢ codes ".debug_rnglists") → section_called new.sections.items name ≡ None
    absent_stays differs =
        find-none (is_called name) new.sections.items (λ z is_in. let p = contains_at new.sections.items z is_in in all p.0 z p.1)
      where
        wrong : (L : Type 0) (x : List ℕ) → AddedName adds area.frames L x → x ≡ name → ⊥
        wrong L x (is_text e) is = let c : names_debug (codes ".text") ≡ true = ap names_debug (sym e ∙ is) ∙ debug in absurd (cc)
        wrong L x (is_frames a some e) is =
            let c : names_debug (codes ".eh_frame") ≡ true = ap names_debug (sym e ∙ is) ∙ debug in absurd (cc)
        wrong L x (is_index e) is =
            let c : names_debug (codes ".eh_frame_hdr") ≡ true = ap names_debug (sym e ∙ is) ∙ debug in absurd (cc)
        wrong L x (is_ranges some e last) is = differs some (sym is ∙ e)

        all : (k : ℕ) (z : Section) → slice_get new.sections.items k ≡ Some z → is_called name z ≡ false
        all k z at = elim (cases_lt k n) [
          | inl less ↦ old_none k z less at
          | inr past ↦ false_from_ne_true (is_called name z) (λ h.
              wrong (k ≡ length new.sections.items - 1) z.name.now (added k z past at) (named z h))
        ]

  -- the table of ranges that is added
  pub ranges_stand : adds ≡ true → section_called elf.sections.items (codes ".debug_rnglists") ≡ None →
      Holds new (codes ".debug_rnglists") (bytes_called tables (codes ".debug_rnglists"))
  ranges_stand some absent =
      let count = are.count in
      let (z, at) = slice_get_found new.sections.items (length new.sections.items - 1) (omega (arith, count)) in
      let is = ranges_at some z at in
      let called : is_called (codes ".debug_rnglists") z ≡ true = rw (is.header.name_is, is.header.flags_are) refl in
      let found : section_called new.sections.items (codes ".debug_rnglists") ≡ Some z =
      found_first (is_called (codes ".debug_rnglists")) new.sections.items (length new.sections.items - 1) z at called
      (λ k x less at_x. elim (cases_lt k n) [
        | inl low ↦ old_none (codes ".debug_rnglists") refl absent k x low at_x
        | inr past ↦ false_from_ne_true (is_called (codes ".debug_rnglists") x) (λ h.
            not_last k x.name.now less (added k x past at_x) (named (codes ".debug_rnglists") refl absent x h))
      ]) in
      subst (λ (o : Option Section). IsSomeAnd o (λ s. section_bytes new.file.now s
      ≡ bytes_called tables (codes ".debug_rnglists"))) (sym found) is.contents
    where
      not_last : (k : ℕ) (x : List ℕ) → k < length new.sections.items - 1 →
          AddedName adds area.frames (k ≡ length new.sections.items - 1) x → x ≡ codes ".debug_rnglists" → ⊥
      not_last k x less (is_text e) is =
          let c : names_debug (codes ".text") ≡ true = ap names_debug (sym e ∙ is) in absurd (cc)
      not_last k x less (is_frames a some_a e) is =
          let c : names_debug (codes ".eh_frame") ≡ true = ap names_debug (sym e ∙ is) in absurd (cc)
      not_last k x less (is_index e) is =
          let c : names_debug (codes ".eh_frame_hdr") ≡ true = ap names_debug (sym e ∙ is) in absurd (cc)
      not_last k x less (is_ranges some_adds e last) is = absurd (omega (arith, last, less))
