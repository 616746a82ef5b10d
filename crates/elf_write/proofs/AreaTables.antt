-- The sections of the unwind table and its index: those that the names mean in a written file are the added ones.
use Rattle.std.proofs.Common.{◌≡◌, ℕ, ◌+◌, ◌-◌, ◌<◌, List, ◌++◌, length, Option, Some, None, Bool, true, false, refl, sym, ap, ◌∙◌, subst}
use Rattle.std.proofs.Common.{arith, inl, inr}
use Rattle.std.specs.Prelude.{◌&&◌, slice_get, is_some, if◌then◌else◌, nat_eq, String, Vec, codes, IfSome, IsSomeAnd}
use Rattle.std.specs.List.{starts_with}
use Rattle.std.specs.Str.{bytes_eq}
use Rattle.std.proofs.lemmas.Bool.{and_parts, cases_lt, cases_order, or_right, false_from_ne_true}
use Rattle.rb_bytes.proofs.ListLemmas.{slice_get_found, contains_at}
use Rattle.rb_bytes.proofs.Searches.{find-none}
use Rattle.rv_code.specs.isa.Op.{flag}
use Rattle.elf_image.specs.declared.elf.Elf.{Elf}
use Rattle.elf_image.specs.declared.section.Section.{Section}
use Rattle.elf_image.specs.declared.section.TheConstants.{SHF_ALLOC, SHF_EXECINSTR}
use Rattle.elf_image.specs.file.SectionNames.{is_called, is_meant_by, names_frames, section_called}
use Rattle.elf_image.specs.file.Sections.{holds_code}
use Rattle.elf_plan.specs.declared.area.Area.{Area}
use Rattle.elf_plan.specs.declared.area.Shift.{Shift}
use Rattle.elf_plan.specs.NewSections.{AreNewSections, IsInArea, adds_ranges, bytes_called}
use Rattle.elf_plan.specs.OldNames.{is_renamed, new_name, old_name}
use Rattle.elf_write.specs.TablePlaces.{HoldsAt, IsLoadedAt}
use Rattle.elf_write.proofs.AddedSections.{AddedName, added, is_text, is_frames, is_index, is_ranges}
use Rattle.rb_bytes.proofs.Tests.{clash}
use Rattle.elf_write.proofs.GivenTables.{found_first, same_bytes}

old_frames : (x : List ℕ) → bytes_eq (old_name x) (codes ".eh_frame") ≡ false
old_frames x = by (starts_with nat_eq x (codes "."))
  where
    by : (b : Bool) → bytes_eq (if b then codes ".old" ++ x else codes ".old." ++ x) (codes ".eh_frame") ≡ false
    by true = refl
    by false = refl

old_index : (x : List ℕ) → bytes_eq (old_name x) (codes ".eh_frame_hdr") ≡ false
old_index x = by (starts_with nat_eq x (codes "."))
  where
    by : (b : Bool) → bytes_eq (if b then codes ".old" ++ x else codes ".old." ++ x) (codes ".eh_frame_hdr") ≡ false
    by true = refl
    by false = refl

-- the section that a name means, by its place
pub holds_at : (new : Elf) (name bytes : List ℕ) (a : ℕ) (m : Section) → section_called new.sections.items name ≡ Some m →
    IsLoadedAt a bytes new.file.now m → HoldsAt new name a bytes
holds_at new name bytes a m found is =
    subst (λ (o : Option Section). IsSomeAnd o (IsLoadedAt a bytes new.file.now)) (sym found) is

module _ {Y Z : Type 0} (elf new : Elf) (tables : List (String Y × Vec ℕ Z)) (area : Area) (shift : Shift) (code : List ℕ)
    (are : AreNewSections elf new tables area shift code) where
  abbrev n : ℕ
  n = length elf.sections.items

  -- no section of the input keeps the name of an unwind table
  none_kept : (name : List ℕ) → names_frames name ≡ true → ((x : List ℕ) → bytes_eq (old_name x) name ≡ false) →
      (s m : Section) → m.name.now ≡ new_name s → bytes_eq m.name.now name ≡ false
  none_kept name frames old s m named = by (is_renamed s) refl
    where
      by : (b : Bool) → is_renamed s ≡ b → bytes_eq m.name.now name ≡ false
      by true e = ap (λ (x : List ℕ). bytes_eq x name) (named ∙ rw e refl) ∙ old s.name.now
      by false e =
          false_from_ne_true (bytes_eq m.name.now name) (λ same.
          let kept : m.name.now ≡ s.name.now = named ∙ rw e refl in
          let is : s.name.now ≡ name = sym kept ∙ same_bytes m.name.now name same in
          clash (is_renamed s) (or_right (holds_code s.flags) (names_frames s.name.now) (ap names_frames is ∙ frames)) e)

  none_before : (name : List ℕ) → names_frames name ≡ true → ((x : List ℕ) → bytes_eq (old_name x) name ≡ false) →
      (k : ℕ) (m : Section) → k < n → slice_get new.sections.items k ≡ Some m → is_called name m ≡ false
  none_before name frames old k m less at =
      let (s, at_s) = slice_get_found elf.sections.items k less in
      ap (λ (b : Bool). b && is_meant_by name m) (none_kept name frames old s m (are.called k s m at_s at))

  if_at : (i : ℕ) (P : Section → Type 0) (m : Section) → IfSome (slice_get new.sections.items i) P →
      slice_get new.sections.items i ≡ Some m → P m
  if_at i P m h at = subst (λ (o : Option Section). IfSome o P) at h

  text_other : (m : Section) → slice_get new.sections.items n ≡ Some m → m.name.now ≡ codes ".text"
  text_other m at =
      let is = if_at n (IsInArea new.file.now area (codes ".text") code (SHF_ALLOC + SHF_EXECINSTR) area.start 16) m are.text at in
      is.added.header.name_is

  module _ (a : ℕ) (frames_at : area.frames ≡ Some a) where
    frames_in : IfSome (slice_get new.sections.items (n + 1))
        (IsInArea new.file.now area (codes ".eh_frame") (bytes_called tables (codes ".eh_frame")) SHF_ALLOC a 8)
    frames_in = subst (λ (o : Option ℕ). IfSome o (λ x. IfSome (slice_get new.sections.items (n + 1))
        (IsInArea new.file.now area (codes ".eh_frame") (bytes_called tables (codes ".eh_frame")) SHF_ALLOC x 8)))
        frames_at are.frames

    frames_there : n + 1 < length new.sections.items
    frames_there =
        let count = are.count in
        let one : flag (is_some area.frames) ≡ 1 = ap (λ (o : Option ℕ). flag (is_some o)) frames_at in
        omega (arith, count, one)

    pub frames_stand : HoldsAt new (codes ".eh_frame") a (bytes_called tables (codes ".eh_frame"))
    frames_stand =
        let (m, at) = slice_get_found new.sections.items (n + 1) frames_there in
        let is = if_at (n + 1)
        (IsInArea new.file.now area (codes ".eh_frame") (bytes_called tables (codes ".eh_frame")) SHF_ALLOC a 8) m frames_in at in
        let called : is_called (codes ".eh_frame") m ≡ true = rw (is.added.header.name_is, is.added.header.flags_are) refl in
        let found : section_called new.sections.items (codes ".eh_frame") ≡ Some m =
        found_first (is_called (codes ".eh_frame")) new.sections.items (n + 1) m at called
        (λ k z less at_z. elim (cases_lt k n) [
          | inl before ↦ none_before (codes ".eh_frame") refl old_frames k z before at_z
          | inr past ↦
              let same : k ≡ n = omega (arith, less, past) in
              let name = text_other z (subst (λ (j : ℕ). slice_get new.sections.items j ≡ Some z) same at_z) in
              ap (λ (x : List ℕ). bytes_eq x (codes ".eh_frame") && is_meant_by (codes ".eh_frame") z) name
        ]) in
        holds_at new (codes ".eh_frame") (bytes_called tables (codes ".eh_frame")) a m found
        (record { addr = is.added.header.addr_is; contents = is.added.contents })

    module _ (b : ℕ) (index_at : area.index ≡ Some b) where
      index_in : IfSome (slice_get new.sections.items (n + 1 + 1))
          (IsInArea new.file.now area (codes ".eh_frame_hdr") (bytes_called tables (codes ".eh_frame_hdr")) SHF_ALLOC b 4)
      index_in =
          let one : flag (is_some area.frames) ≡ 1 = ap (λ (o : Option ℕ). flag (is_some o)) frames_at in
          subst (λ (k : ℕ). IfSome (slice_get new.sections.items (n + 1 + k))
          (IsInArea new.file.now area (codes ".eh_frame_hdr") (bytes_called tables (codes ".eh_frame_hdr")) SHF_ALLOC b 4)) one
          (subst (λ (o : Option ℕ). IfSome o (λ x. IfSome (slice_get new.sections.items (n + 1 + flag (is_some area.frames)))
          (IsInArea new.file.now area (codes ".eh_frame_hdr") (bytes_called tables (codes ".eh_frame_hdr")) SHF_ALLOC x 4)))
          index_at are.index)

      index_there : n + 1 + 1 < length new.sections.items
      index_there =
          let count = are.count in
          let one : flag (is_some area.frames) ≡ 1 = ap (λ (o : Option ℕ). flag (is_some o)) frames_at in
          let two : flag (is_some area.index) ≡ 1 = ap (λ (o : Option ℕ). flag (is_some o)) index_at in
          omega (arith, count, one, two)

      frames_other : (m : Section) → slice_get new.sections.items (n + 1) ≡ Some m → m.name.now ≡ codes ".eh_frame"
      frames_other m at =
          let is = if_at (n + 1)
          (IsInArea new.file.now area (codes ".eh_frame") (bytes_called tables (codes ".eh_frame")) SHF_ALLOC a 8) m frames_in at in
          is.added.header.name_is

      pub index_stands : HoldsAt new (codes ".eh_frame_hdr") b (bytes_called tables (codes ".eh_frame_hdr"))
      index_stands =
          let (m, at) = slice_get_found new.sections.items (n + 1 + 1) index_there in
          let is = if_at (n + 1 + 1)
          (IsInArea new.file.now area (codes ".eh_frame_hdr") (bytes_called tables (codes ".eh_frame_hdr")) SHF_ALLOC b 4)
          m index_in at in
          let called : is_called (codes ".eh_frame_hdr") m ≡ true =
          rw (is.added.header.name_is, is.added.header.flags_are) refl in
          let found : section_called new.sections.items (codes ".eh_frame_hdr") ≡ Some m =
          found_first (is_called (codes ".eh_frame_hdr")) new.sections.items (n + 1 + 1) m at called
          (λ k z less at_z. elim (cases_order k (n + 1)) [
            | inl same ↦
                let name = frames_other z (subst (λ (j : ℕ). slice_get new.sections.items j ≡ Some z) same at_z) in
                ap (λ (x : List ℕ). bytes_eq x (codes ".eh_frame_hdr") && is_meant_by (codes ".eh_frame_hdr") z) name
            | inr apart ↦ elim (cases_lt k n) [
              | inl before ↦ none_before (codes ".eh_frame_hdr") refl old_index k z before at_z
              | inr past ↦ elim apart [
                | inl low ↦
                    let same : k ≡ n = omega (arith, low, past) in
                    let name = text_other z (subst (λ (j : ℕ). slice_get new.sections.items j ≡ Some z) same at_z) in
                    ap (λ (x : List ℕ). bytes_eq x (codes ".eh_frame_hdr") && is_meant_by (codes ".eh_frame_hdr") z) name
                | inr high ↦ absurd (omega (arith, high, less))
              ]
            ]
          ]) in
          holds_at new (codes ".eh_frame_hdr") (bytes_called tables (codes ".eh_frame_hdr")) b m found
          (record { addr = is.added.header.addr_is; contents = is.added.contents })

  -- if none is added, there is none
  pub no_frames_stand : area.frames ≡ None → section_called new.sections.items (codes ".eh_frame") ≡ None
  no_frames_stand none =
      find-none (is_called (codes ".eh_frame")) new.sections.items
      (λ z is_in. let p = contains_at new.sections.items z is_in in all p.0 z p.1)
    where
      wrong : (L : Type 0) (x : List ℕ) → AddedName (adds_ranges elf.sections.items tables) area.frames L x →
          x ≡ codes ".eh_frame" → ⊥
      wrong L x (is_text e) is =
          let c : bytes_eq (codes ".text") (codes ".eh_frame") ≡ true =
          ap (λ (y : List ℕ). bytes_eq y (codes ".eh_frame")) (sym e ∙ is) in absurd (cc)
      wrong L x (is_frames a some e) is = absurd (let c : None ≡ Some a = sym none ∙ some in cc)
      wrong L x (is_index e) is =
          let c : bytes_eq (codes ".eh_frame_hdr") (codes ".eh_frame") ≡ true =
          ap (λ (y : List ℕ). bytes_eq y (codes ".eh_frame")) (sym e ∙ is) in absurd (cc)
      wrong L x (is_ranges some e last) is =
          let c : bytes_eq (codes ".debug_rnglists") (codes ".eh_frame") ≡ true =
          ap (λ (y : List ℕ). bytes_eq y (codes ".eh_frame")) (sym e ∙ is) in absurd (cc)

      all : (k : ℕ) (z : Section) → slice_get new.sections.items k ≡ Some z → is_called (codes ".eh_frame") z ≡ false
      all k z at = elim (cases_lt k n) [
        | inl less ↦ none_before (codes ".eh_frame") refl old_frames k z less at
        | inr past ↦ false_from_ne_true (is_called (codes ".eh_frame") z) (λ h.
            wrong (k ≡ length new.sections.items - 1) z.name.now
            (added elf new tables area shift code are k z past at)
            (same_bytes z.name.now (codes ".eh_frame")
            (and_parts (bytes_eq z.name.now (codes ".eh_frame")) (is_meant_by (codes ".eh_frame") z) h).0))
      ]
