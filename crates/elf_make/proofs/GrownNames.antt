-- Tables of names to which names were added, and headers of sections whose names are in them.
use Rattle.std.proofs.Common.{◌≡◌, ◌∙◌, sym, ap, subst, ℕ, ◌+◌, ◌-◌, ◌≤◌, ◌<◌, ◌⊎◌, inl, inr, List, [], ◌∷◌, ◌++◌, Bool, true, false}
use Rattle.std.proofs.Common.{Option, Some, None, String, Vec, length, length-append, get_or, refl, slice_get, arith}
use Rattle.std.proofs.lemmas.Bool.{cases_lt}
use Rattle.std.proofs.lemmas.List.{get_or_append_left, get_or-append_right}
use Rattle.elf_image.specs.declared.section.Section.{Section}
use Rattle.elf_image.specs.declared.section.SectionHeader.{SectionHeader}
use Rattle.elf_parts.specs.Patches.{Stands}
use Rattle.elf_parts.proofs.Patches.{stands-front}
use Rattle.elf_plan.specs.declared.area.Area.{Area}
use Rattle.elf_make.specs.SetHeaders.{Adds, AddsAt, AddsRanges, AreAdded, IsNamed, IsNew, IsRenamed, Keeps}

pub added-keeps : (xs name ys : List ℕ) → ys ≡ xs ++ name → Keeps xs ys
added-keeps xs name ys is o zs stands = subst (λ (table : List ℕ). Stands table o zs) (sym is) (stands-front xs name o zs stands)

pub both-keep : (xs ys zs : List ℕ) → Keeps xs ys → Keeps ys zs → Keeps xs zs
both-keep xs ys zs first second o bytes stands = second o bytes (first o bytes stands)

-- Headers whose names are in a table that is kept.
module _ (table more : List ℕ) (keeps : Keeps table more) where
  pub named-kept : (s : Section) (old new : ℕ) → IsNamed table s old new → IsNamed more s old new
  named-kept s old new is = record { renamed = λ e. keeps new _ (is.renamed e); kept = is.kept }

  pub renamed-kept : (s : Section) (h n : SectionHeader) → IsRenamed table s h n → IsRenamed more s h n
  renamed-kept s h n is = record { name = named-kept s h.name n.name is.name; same = is.same }

  pub new-kept : (text : List ℕ) (flags addr offset size align : ℕ) (h : SectionHeader) →
      IsNew table text flags addr offset size align h → IsNew more text flags addr offset size align h
  new-kept text flags addr offset size align h is = record { named = keeps h.name _ is.named; is = is.is }

  pub adds-kept : (text : List ℕ) (flags addr offset size align : ℕ) (old new : List SectionHeader) →
      Adds table text flags addr offset size align old new → Adds more text flags addr offset size align old new
  adds-kept text flags addr offset size align old new adds = record {
    header = adds.header;
    is = new-kept text flags addr offset size align adds.header adds.is;
    added = adds.added;
  }

  pub adds_at-kept : (text : List ℕ) (area : Area) (place : Option ℕ) (size align : ℕ) (old new : List SectionHeader) →
      AddsAt table text area place size align old new → AddsAt more text area place size align old new
  adds_at-kept text area None size align old new adds = adds
  adds_at-kept text area (Some a) size align old new adds = adds-kept text _ a _ size align old new adds

  pub ranges-kept : (ranges : Bool) (old new : List SectionHeader) → AddsRanges table ranges old new → AddsRanges more ranges old new
  ranges-kept false old new adds = adds
  ranges-kept true old new adds = adds-kept _ 0 0 0 0 1 old new adds

  pub all-kept : {Y Z : Type 0} (tables : List (String Y × Vec ℕ Z)) (area : Area) (ranges : Bool) (old new : List SectionHeader) →
      AreAdded table tables area ranges old new → AreAdded more tables area ranges old new
  all-kept tables area ranges old new are = record {
    with_text = are.with_text;
    with_frames = are.with_frames;
    with_index = are.with_index;
    text = adds-kept _ _ _ _ _ 16 old are.with_text are.text;
    frames = adds_at-kept _ area area.frames _ 8 are.with_text are.with_frames are.frames;
    index = adds_at-kept _ area area.index _ 4 are.with_frames are.with_index are.index;
    added_ranges = ranges-kept ranges are.with_index new are.added_ranges;
  }

  -- one more header of the input
  pub renamed-more : (sections : List Section) (header : ℕ → SectionHeader) (headers : List SectionHeader) (i : ℕ)
      (h : SectionHeader) → length headers ≡ i → ((k : ℕ) (s : Section) (d : SectionHeader) → k < i → slice_get sections k ≡ Some s →
      IsRenamed table s (header k) (get_or headers k d)) →
      ((s : Section) → slice_get sections i ≡ Some s → IsRenamed more s (header i) h) →
      (k : ℕ) (s : Section) (d : SectionHeader) → k < i + 1 → slice_get sections k ≡ Some s →
      IsRenamed more s (header k) (get_or (headers ++ h ∷ []) k d)
  renamed-more sections header headers i h long before last k s d below at = cases (cases_lt k i)
    where
      cases : (k < i) ⊎ (i ≤ k) → IsRenamed more s (header k) (get_or (headers ++ h ∷ []) k d)
      cases (inl low) =
          subst (IsRenamed more s (header k)) (sym (get_or_append_left headers (h ∷ []) d k (omega (arith, low, long))))
          (renamed-kept s (header k) (get_or headers k d) (before k s d low at))
      cases (inr high) =
          let here : i ≡ k = omega (arith, high, below) in
          let none : k - length headers ≡ 0 = omega (arith, here, long) in
          let there : get_or (headers ++ h ∷ []) k d ≡ h =
          get_or-append_right headers (h ∷ []) (length headers) k d refl (omega (arith, long, high))
          ∙ ap (λ (j : ℕ). get_or (h ∷ []) j d) none in
          subst (IsRenamed more s (header k)) (sym there)
          (subst (λ (j : ℕ). IsRenamed more s (header j) h) here (last s (subst (λ (j : ℕ). slice_get sections j ≡ Some s) (sym here) at)))

-- what an added header makes of the list
pub adds-length : (table text : List ℕ) (flags addr offset size align : ℕ) (old new : List SectionHeader) →
    Adds table text flags addr offset size align old new → length new ≡ length old + 1
adds-length table text flags addr offset size align old new adds = ap length adds.added ∙ length-append old (adds.header ∷ [])

pub adds_at-more : (table text : List ℕ) (area : Area) (place : Option ℕ) (size align : ℕ) (old new : List SectionHeader) →
    AddsAt table text area place size align old new → length old ≤ length new
adds_at-more table text area None size align old new adds = let same = ap length adds in omega (arith, same)
adds_at-more table text area (Some a) size align old new adds =
    let more = adds-length table text _ a _ size align old new adds in omega (arith, more)

pub ranges-more : (table : List ℕ) (ranges : Bool) (old new : List SectionHeader) → AddsRanges table ranges old new →
    length old ≤ length new
ranges-more table false old new adds = let same = ap length adds in omega (arith, same)
ranges-more table true old new adds = let more = adds-length table _ 0 0 0 0 1 old new adds in omega (arith, more)

-- there is one at least
pub all-more : {Y Z : Type 0} (table : List ℕ) (tables : List (String Y × Vec ℕ Z)) (area : Area) (ranges : Bool)
    (old new : List SectionHeader) → AreAdded table tables area ranges old new → length old < length new
all-more table tables area ranges old new are =
    let first = adds-length table _ _ _ _ _ 16 old are.with_text are.text in
    let second = adds_at-more table _ area area.frames _ 8 are.with_text are.with_frames are.frames in
    let third = adds_at-more table _ area area.index _ 4 are.with_frames are.with_index are.index in
    let last = ranges-more table ranges are.with_index new are.added_ranges in
    omega (arith, first, second, third, last)
