-- Whether one of some ranges overlaps a range of numbers: it contains the first number, or starts among them.
use Rattle.std.proofs.Common.{◌≡◌, ◌∙◌, sym, ℕ, ◌+◌, ◌<◌, ◌≤◌, ◌⊎◌, inl, inr, ⊎_elim, true, false, List, length, get_or, arith}
use Rattle.std.specs.Prelude.{nat_lt, slice_index_or}
use Rattle.std.specs.List.{list_any}
use Rattle.std.proofs.lemmas.Bool.{cases_lt, lt-ltb, le-ltb}
use Rattle.std.proofs.lemmas.List.Folds.{list_any-from_Any, list_any_none}
use Rattle.std.proofs.lemmas.List.{get_or_default}
use Rattle.std.proofs.lemmas.List.Elements.{Contains-get_or}
use Rattle.elf_image.specs.declared.extent.Extent.{Extent}
use Rattle.elf_image.specs.internal.Extents.{IsInOneExtent}
use Rattle.elf_plan.specs.LoadedRanges.{AreInOrder, meets}

module _ (sorted reaches : List Extent) (start end : ℕ) (are : AreInOrder sorted reaches) (some : start < end) where
  -- A range that contains the first number.
  pub meets-first : IsInOneExtent reaches start (start + 1) → list_any (meets start end) sorted ≡ true
  meets-first held =
      let (s, (k, below, at), low, high) = (are.reach.covered start (start + 1) (omega arith)).0 held in
      list_any-from_Any (meets start end) sorted (k, s, below, at, lt-ltb _ _ (omega arith))

  -- A range that starts after the first number.
  meets-later : (from before : ℕ) → before ≤ length sorted → from < before →
      ((k : ℕ) (d : Extent) → from ≤ k → k < length sorted → start < (slice_index_or sorted k d).start) →
      ((k : ℕ) (d : Extent) → k < before → (slice_index_or sorted k d).start < end) →
      list_any (meets start end) sorted ≡ true
  meets-later from before bound less above below =
      let d : Extent = record { start = 0; end = 0; place = 0 } in
      let s : Extent = get_or sorted from d in
      let inside : from < length sorted = omega arith in
      let low : start < s.start = above from d (omega arith) inside in
      let high : s.start < end = below from d less in
      let full : s.start < s.end = are.full from d inside in
      let there = sym (get_or_default sorted from d s inside) in
      list_any-from_Any (meets start end) sorted (from, s, inside, there, lt-ltb _ _ (omega arith))

  -- No range of either kind.
  meets-none : (from before : ℕ) → before ≤ from →
      (IsInOneExtent reaches start (start + 1) → ⊥) →
      ((k : ℕ) (d : Extent) → k < from → (slice_index_or sorted k d).start ≤ start) →
      ((k : ℕ) (d : Extent) → before ≤ k → k < length sorted → end ≤ (slice_index_or sorted k d).start) →
      list_any (meets start end) sorted ≡ false
  meets-none from before less none below above = list_any_none (meets start end) sorted
      (λ k d inside. apart k d inside (cases_lt start (get_or sorted k d).start))
    where
      apart : (k : ℕ) (d : Extent) → k < length sorted →
          (start < (get_or sorted k d).start) ⊎ ((get_or sorted k d).start ≤ start) →
          meets start end (get_or sorted k d) ≡ false
      apart k d inside (inl later) = ⊎_elim
          (λ (first : k < from). let low = below k d first in absurd (omega arith))
          (λ (last : from ≤ k). let high = above k d (omega arith) inside in le-ltb _ _ (omega arith))
          (cases_lt k from)
      apart k d inside (inr early) = ⊎_elim
          (λ (holds : start < (get_or sorted k d).end).
          let one : IsInOneExtent sorted start (start + 1) =
          (get_or sorted k d, Contains-get_or sorted k d inside, early, omega arith) in
          absurd (none ((are.reach.covered start (start + 1) (omega arith)).1 one)))
          (λ (ends : (get_or sorted k d).end ≤ start). le-ltb _ _ (omega arith))
          (cases_lt start (get_or sorted k d).end)

  -- By the number of ranges that start at or before the first number, and before the end.
  pub meets-is : (from before : ℕ) → before ≤ length sorted → (IsInOneExtent reaches start (start + 1) → ⊥) →
      ((k : ℕ) (d : Extent) → k < from → (slice_index_or sorted k d).start ≤ start) →
      ((k : ℕ) (d : Extent) → from ≤ k → k < length sorted → start < (slice_index_or sorted k d).start) →
      ((k : ℕ) (d : Extent) → k < before → (slice_index_or sorted k d).start < end) →
      ((k : ℕ) (d : Extent) → before ≤ k → k < length sorted → end ≤ (slice_index_or sorted k d).start) →
      nat_lt from before ≡ list_any (meets start end) sorted
  meets-is from before bound none from_below from_above before_below before_above = ⊎_elim
      (λ (less : from < before). lt-ltb _ _ less ∙ sym (meets-later from before bound less from_above before_below))
      (λ (more : before ≤ from). le-ltb _ _ more ∙ sym (meets-none from before more none from_below before_above))
      (cases_lt from before)
