-- The first range that contains the bytes of a header is the range of the first section that contains them.
use Rattle.std.proofs.Common.{◌≡◌, ◌∙◌, sym, ap, subst, refl, ℕ, ◌+◌, ◌<◌, ◌≤◌, ◌⊎◌, inl, inr, ◌&&◌, Bool, true, false, not, List, Option}
use Rattle.std.proofs.Common.{Some, None, length, get_or, arith}
use Rattle.std.specs.Prelude.{find, nat_le, nat_lt, map, option_map, slice_get, unwrap_or, if◌then◌else◌, IsSomeAnd}
use Rattle.std.specs.List.{list_any, position_or_len}
use Rattle.std.proofs.lemmas.Bool.{and_parts, and_right, lt-leb, ltb-true}
use Rattle.std.proofs.lemmas.List.Folds.{find_at}
use Rattle.std.proofs.lemmas.List.Sums.{fails_before_first, passes_at_first}
use Rattle.std.proofs.lemmas.Option.{get_or_from_slice_get, slice_get-get_or, slice_get-map, slice_get_cases, slice_get_past}
use Rattle.std.proofs.lemmas.Option.{slice_get_within, unwrap_or-slice_get}
use Rattle.elf_image.specs.declared.section.Section.{Section}
use Rattle.elf_image.specs.declared.extent.Extent.{Extent}
use Rattle.elf_image.specs.declared.segment.Segment.{Segment}
use Rattle.elf_image.specs.memory.Image.{is_load}
use Rattle.elf_plan.specs.declared.sections.Contents.{Contents}
use Rattle.elf_plan.specs.declared.sections.Contents.TheVariants.{Dropped}
use Rattle.elf_plan.specs.HeaderPlaces.{HasNone, IsFirst, IsHome, can_hold, section_holds, is_unloaded}
use Rattle.elf_plan.specs.Homes.{AreContents, AreExtents, AreHomes, extent_of, first_for}
use Rattle.elf_plan.specs.LoadedRanges.{HaveLoaded, meets}
use Rattle.elf_plan.specs.RangeTree.{covers}
use Rattle.elf_plan.proofs.KnownContents.{length-map_same}

no_extent : Extent
no_extent = record { start = 0; end = 0; place = 0 }

abbrev chosen : Bool → ℕ → Section → Extent
chosen b i s =
    if b
    then record { start = s.offset; end = s.offset + s.size; place = i }
    else record { start = 0; end = 0; place = i }

place-is : (i : ℕ) (c : Contents) (s : Section) → (extent_of i c s).place ≡ i
place-is i c s = cases (can_hold c s)
  where
    cases : (b : Bool) → (chosen b i s).place ≡ i
    cases true = refl
    cases false = refl

module _ (p : Segment) (some : 0 < p.filesz) where
  abbrev test : Extent → Bool
  test = covers p.offset (p.offset + p.filesz)

  -- An empty range contains no bytes.
  covers-extent : (i : ℕ) (c : Contents) (s : Section) → test (extent_of i c s) ≡ section_holds c s p
  covers-extent i c s = cases (can_hold c s)
    where
      cases : (b : Bool) →
          test (chosen b i s)
          ≡ (b && (nat_le s.offset p.offset && nat_le (p.offset + p.filesz) (s.offset + s.size)))
      cases true = refl
      cases false = and_right (nat_le 0 p.offset) (nat_le (p.offset + p.filesz) 0) (lt-leb (p.offset + p.filesz) 0 (omega arith))

  module _ (contents : ℕ → Section → Contents) (sections : List Section) (found : List Contents) (extents : List Extent)
      (are : AreContents contents sections found) (have : AreExtents sections found extents) where
    extent-at : (i : ℕ) (s : Section) → slice_get sections i ≡ Some s → slice_get extents i ≡ Some (extent_of i (contents i s) s)
    extent-at i s is =
        let within = slice_get_within sections i s is in
        let count = have.count in
        let there = slice_get-get_or extents i no_extent (omega arith) in
        there ∙ ap Some (have.each i s _ is there ∙ ap (λ (c : Contents). extent_of i c s) known)
      where
        known : unwrap_or (slice_get found i) Dropped ≡ contents i s
        known =
            let within = slice_get_within sections i s is in
            let count = are.count in
            unwrap_or-slice_get found i Dropped ∙ are.each i s _ is (slice_get-get_or found i Dropped (omega arith))

    test-at : (i : ℕ) (s : Section) → slice_get sections i ≡ Some s →
        test (get_or extents i no_extent) ≡ section_holds (contents i s) s p
    test-at i s is =
        ap test (get_or_from_slice_get extents i _ no_extent (extent-at i s is)) ∙ covers-extent i (contents i s) s

    abbrev first : ℕ
    first = position_or_len test extents

    none-before : (n : ℕ) → n ≤ first → HasNone contents sections p n
    none-before n within i s below is =
        sym (test-at i s is) ∙ fails_before_first test extents i no_extent (omega arith)

    first-is : IsFirst contents sections p (option_map (λ e. e.place) (find test extents))
    first-is =
        subst (λ (o : Option Extent). IsFirst contents sections p (option_map (λ e. e.place) o)) (sym (find_at test extents))
        (cases (slice_get_cases sections first).1)
      where
        cases : ((s : Section) × (first < length sections) × (slice_get sections first ≡ Some s) × (get_or sections first s ≡ s))
            ⊎ ((length sections ≤ first) × (slice_get sections first ≡ None)) →
            IsFirst contents sections p (option_map (λ e. e.place) (slice_get extents first))
        cases (inl (s, inside, is, at)) =
            let count = have.count in
            let passes = passes_at_first test extents no_extent (omega arith) in
            subst (λ (o : Option Extent). IsFirst contents sections p (option_map (λ e. e.place) o)) (sym (extent-at first s is))
            (subst (λ (k : ℕ). IsFirst contents sections p (Some k)) (sym (place-is first (contents first s) s)) (
              subst (λ (o : Option Section). IsSomeAnd o (λ t. section_holds (contents first t) t p ≡ true)) (sym is)
                  (sym (test-at first s is) ∙ passes),
              none-before first (omega arith),
            ))
        cases (inr (past, is)) =
            let count = have.count in
            subst (λ (o : Option Extent). IsFirst contents sections p (option_map (λ e. e.place) o))
            (sym (slice_get_past extents first (omega arith))) (none-before (length sections) past)

-- The index of the first range that contains the bytes of a header.
abbrev place_of : List Extent → Segment → Option ℕ
place_of extents p = option_map (λ e. e.place) (find (covers p.offset (p.offset + p.filesz)) extents)

-- The section that the bytes of a header move with.
pub home-is : (contents : ℕ → Section → Contents) (segments : List Segment) (sections : List Section) (found : List Contents)
    (loaded extents : List Extent) → AreContents contents sections found → AreExtents sections found extents →
    HaveLoaded segments loaded → (p : Segment) → IsHome contents segments sections p (first_for loaded extents p)
home-is contents segments sections found loaded extents are have bytes p = record {
  unloaded = λ free.
      let parts = and_parts _ _ free in
      let some : 0 < p.filesz = ltb-true _ _ (and_parts _ _ parts.1).0 in
      subst (λ (b : Bool). IsFirst contents sections p (if b then place_of extents p else None)) (sym (same ∙ free))
      (first-is p some contents sections found extents are have);
  loaded = λ taken. ap (λ (b : Bool). if b then place_of extents p else None) (same ∙ taken);
}
  where
    same : (not (is_load p) && (nat_lt 0 p.filesz && not (list_any (meets p.offset (p.offset + p.filesz)) loaded)))
        ≡ is_unloaded segments p
    same = ap (λ (b : Bool). not (is_load p) && (nat_lt 0 p.filesz && not b)) (bytes p.offset (p.offset + p.filesz))

-- The sections for all headers.
pub homes-are : (segments : List Segment) (sections : List Section) (found : List Contents) (loaded extents : List Extent) →
    AreExtents sections found extents → HaveLoaded segments loaded → (homes : List (Option ℕ)) →
    homes ≡ map (first_for loaded extents) segments → AreHomes segments sections found homes
homes-are segments sections found loaded extents have bytes homes same = record {
  count = ap length same ∙ length-map_same (first_for loaded extents) segments;
  each = λ contents are i p home is_p is_home.
      let there : Some home ≡ Some (first_for loaded extents p) =
      sym is_home ∙ ap (λ (hs : List (Option ℕ)). slice_get hs i) same ∙ slice_get-map (first_for loaded extents) segments i
      ∙ ap (option_map (first_for loaded extents)) is_p in
      subst (IsHome contents segments sections p) (sym (ap (λ (o : Option (Option ℕ)). unwrap_or o home) there))
      (home-is contents segments sections found loaded extents are have bytes p);
}
