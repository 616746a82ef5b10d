-- The headers that are added to those of the input, by their indices.
use Rattle.std.proofs.Common.{◌≡◌, ◌∙◌, sym, ap, subst, refl, ℕ, ◌+◌, ◌-◌, ◌<◌, List, [], ◌∷◌, Bool, true, false}
use Rattle.std.proofs.Common.{Option, Some, None, String, Vec, length, get_or, arith}
use Rattle.std.specs.Prelude.{IfSome, codes, find, is_some, option_map, string_bytes, unwrap_or}
use Rattle.std.specs.Option.{option_map_or}
use Rattle.std.specs.Str.{bytes_eq}
use Rattle.std.proofs.lemmas.List.{get_or-append_right}
use Rattle.elf_image.specs.declared.section.SectionHeader.{SectionHeader}
use Rattle.elf_image.specs.declared.section.TheConstants.{SHF_ALLOC, SHF_EXECINSTR}
use Rattle.rv_code.specs.isa.Op.{flag}
use Rattle.elf_plan.specs.declared.area.Area.{Area}
use Rattle.elf_plan.specs.Area.{area_offset}
use Rattle.elf_plan.specs.NewSections.{bytes_called}
use Rattle.elf_plan.specs.TableSizes.{table_size}
use Rattle.elf_make.specs.SetHeaders.{Adds, AddsAt, AddsRanges, AreAdded, IsNew}
use Rattle.elf_make.proofs.GrownNames.{adds-length}
use Rattle.elf_make.proofs.HeadersSet.{adds_at-front, ranges-front}

-- the size of a table is that of its bytes
pub table-sized : {Y Z : Type 0} (tables : List (String Y × Vec ℕ Z)) (name : List ℕ) →
    unwrap_or (table_size tables name) 0 ≡ length (bytes_called tables name)
table-sized {Y} {Z} tables name = cases (find (λ t. bytes_eq (string_bytes t.0) name) tables)
  where
    cases : (o : Option (String Y × Vec ℕ Z)) →
        unwrap_or (option_map (λ t. length t.1.items) o) 0 ≡ length (option_map_or (λ t. t.1.items) o [])
    cases None = refl
    cases (Some t) = refl

adds-here : (table text : List ℕ) (flags addr offset size align : ℕ) (old new : List SectionHeader) →
    Adds table text flags addr offset size align old new → (d : SectionHeader) →
    IsNew table text flags addr offset size align (get_or new (length old) d)
adds-here table text flags addr offset size align old new adds d =
    let none : length old - length old ≡ 0 = omega arith in
    subst (IsNew table text flags addr offset size align)
    (sym (ap (λ (hs : List SectionHeader). get_or hs (length old) d) adds.added
    ∙ get_or-append_right old (adds.header ∷ []) (length old) (length old) d refl (omega arith)
    ∙ ap (λ (k : ℕ). get_or (adds.header ∷ []) k d) none)) adds.is

adds_at-length : (table text : List ℕ) (area : Area) (place : Option ℕ) (size align : ℕ) (old new : List SectionHeader) →
    AddsAt table text area place size align old new → length new ≡ length old + flag (is_some place)
adds_at-length table text area None size align old new adds = let same = ap length adds in omega (arith, same)
adds_at-length table text area (Some a) size align old new adds = adds-length table text _ a _ size align old new adds

ranges-length : (table : List ℕ) (ranges : Bool) (old new : List SectionHeader) → AddsRanges table ranges old new →
    length new ≡ length old + flag ranges
ranges-length table false old new adds = let same = ap length adds in omega (arith, same)
ranges-length table true old new adds = adds-length table _ 0 0 0 0 1 old new adds

-- the header of a table, in a list that keeps it
at-index : (table text : List ℕ) (area : Area) (place : Option ℕ) (size align : ℕ) (old new all : List SectionHeader) →
    AddsAt table text area place size align old new →
    ((d : SectionHeader) → length old < length new → get_or all (length old) d ≡ get_or new (length old) d) →
    IfSome place (λ a. (d : SectionHeader) →
    IsNew table text SHF_ALLOC a (area_offset area a) size align (get_or all (length old) d))
at-index table text area None size align old new all adds keeps = tt
at-index table text area (Some a) size align old new all adds keeps = λ d.
    let more = adds-length table text _ a _ size align old new adds in
    subst (IsNew table text SHF_ALLOC a (area_offset area a) size align) (sym (keeps d (omega (arith, more))))
    (adds-here table text _ a _ size align old new adds d)

module _ {Y Z : Type 0} (table : List ℕ) (tables : List (String Y × Vec ℕ Z)) (area : Area) (ranges : Bool)
    (before after : List SectionHeader) (are : AreAdded table tables area ranges before after) where
  text-count : length are.with_text ≡ length before + 1
  text-count = adds-length table _ _ _ _ _ 16 before are.with_text are.text

  frames-count : length are.with_frames ≡ length are.with_text + flag (is_some area.frames)
  frames-count = adds_at-length table _ area area.frames _ 8 are.with_text are.with_frames are.frames

  index-count : length are.with_index ≡ length are.with_frames + flag (is_some area.index)
  index-count = adds_at-length table _ area area.index _ 4 are.with_frames are.with_index are.index

  all-count : length after ≡ length are.with_index + flag ranges
  all-count = ranges-length table ranges are.with_index after are.added_ranges

  pub added-count : length after ≡ (length before + 1)
      + (flag (is_some area.frames) + (flag (is_some area.index) + flag ranges))
  added-count =
      let first = text-count in
      let second = frames-count in
      let third = index-count in
      let last = all-count in
      omega (arith, first, second, third, last)

  index-front : (k : ℕ) (d : SectionHeader) → k < length are.with_index → get_or after k d ≡ get_or are.with_index k d
  index-front k d below = ranges-front table ranges are.with_index after are.added_ranges k d below

  frames-front : (k : ℕ) (d : SectionHeader) → k < length are.with_frames → get_or after k d ≡ get_or are.with_frames k d
  frames-front k d below =
      let more = index-count in
      index-front k d (omega (arith, below, more))
      ∙ adds_at-front table _ area area.index _ 4 are.with_frames are.with_index are.index k d below

  text-front : (k : ℕ) (d : SectionHeader) → k < length are.with_text → get_or after k d ≡ get_or are.with_text k d
  text-front k d below =
      let more = frames-count in
      frames-front k d (omega (arith, below, more))
      ∙ adds_at-front table _ area area.frames _ 8 are.with_text are.with_frames are.frames k d below

  pub text-added : (d : SectionHeader) → IsNew table (codes ".text") (SHF_ALLOC + SHF_EXECINSTR) area.start
      (area_offset area area.start) (area.code_end - area.start) 16 (get_or after (length before) d)
  text-added d =
      let more = text-count in
      subst (IsNew table (codes ".text") _ area.start _ (area.code_end - area.start) 16)
      (sym (text-front (length before) d (omega (arith, more))))
      (adds-here table _ _ area.start _ _ 16 before are.with_text are.text d)

  pub frames-added : IfSome area.frames (λ a. (d : SectionHeader) → IsNew table (codes ".eh_frame") SHF_ALLOC a
      (area_offset area a) (length (bytes_called tables (codes ".eh_frame"))) 8 (get_or after (length before + 1) d))
  frames-added =
      subst (λ (k : ℕ). IfSome area.frames (λ a. (d : SectionHeader) → IsNew table (codes ".eh_frame") SHF_ALLOC a
      (area_offset area a) (length (bytes_called tables (codes ".eh_frame"))) 8 (get_or after k d))) text-count
      (subst (λ (n : ℕ). IfSome area.frames (λ a. (d : SectionHeader) → IsNew table (codes ".eh_frame") SHF_ALLOC a
      (area_offset area a) n 8 (get_or after (length are.with_text) d))) (table-sized tables (codes ".eh_frame"))
      (at-index table _ area area.frames _ 8 are.with_text are.with_frames after are.frames
      (λ d below. frames-front (length are.with_text) d below)))

  pub index-added : IfSome area.index (λ a. (d : SectionHeader) → IsNew table (codes ".eh_frame_hdr") SHF_ALLOC a
      (area_offset area a) (length (bytes_called tables (codes ".eh_frame_hdr"))) 4
      (get_or after ((length before + 1) + flag (is_some area.frames)) d))
  index-added =
      subst (λ (k : ℕ). IfSome area.index (λ a. (d : SectionHeader) → IsNew table (codes ".eh_frame_hdr") SHF_ALLOC a
      (area_offset area a) (length (bytes_called tables (codes ".eh_frame_hdr"))) 4 (get_or after k d)))
      (frames-count ∙ ap (λ (n : ℕ). n + flag (is_some area.frames)) text-count)
      (subst (λ (n : ℕ). IfSome area.index (λ a. (d : SectionHeader) → IsNew table (codes ".eh_frame_hdr") SHF_ALLOC a
      (area_offset area a) n 4 (get_or after (length are.with_frames) d))) (table-sized tables (codes ".eh_frame_hdr"))
      (at-index table _ area area.index _ 4 are.with_frames are.with_index after are.index
      (λ d below. index-front (length are.with_frames) d below)))

  pub ranges-added : ranges ≡ true → (d : SectionHeader) →
      IsNew table (codes ".debug_rnglists") 0 0 0 0 1 (get_or after (length after - 1) d)
  ranges-added e d =
      let adds = subst (λ (b : Bool). AddsRanges table b are.with_index after) e are.added_ranges in
      let more = adds-length table _ 0 0 0 0 1 are.with_index after adds in
      let last : length are.with_index ≡ length after - 1 = omega (arith, more) in
      subst (λ (k : ℕ). IsNew table (codes ".debug_rnglists") 0 0 0 0 1 (get_or after k d)) last
      (adds-here table _ 0 0 0 0 1 are.with_index after adds d)
