-- The ranges of chosen items of a list.
use Rattle.std.proofs.Common.{◌≡◌, sym, subst, ap, true, ℕ, ◌+◌, ◌<◌, ◌≤◌, ◌↔◌, Bool, IsTrue, List, map, arith}
use Rattle.std.specs.List.{Any, filter}
use Rattle.std.specs.List.Sorted.{IsPermutation}
use Rattle.std.proofs.lemmas.List.Elements.{All-contains, filter_passes}
use Rattle.std.proofs.lemmas.List.Sorted.{IsPermutation-sym}
use Rattle.elf_image.specs.declared.elf.Elf.{Elf}
use Rattle.elf_image.specs.declared.extent.Extent.{Extent}
use Rattle.elf_image.specs.file.Cuts.{names_function}
use Rattle.elf_image.specs.file.Sections.{holds_code}
use Rattle.elf_code.specs.Parts.{IsCovered, IsInCode, IsInTabled}
use Rattle.elf_image.specs.internal.Extents.{IsInOneExtent}
use Rattle.rb_bytes.proofs.Searches.{Contains-filter, Contains-from_filter}
use Rattle.rb_bytes.proofs.ListLemmas.{from_map, in_map}
use Rattle.elf_image.proofs.ReachLemmas.{IsCovered-permutation}
use Rattle.code_starts.specs.Ranges.{section_extent, symbol_extent, tabled_extent}

-- The range of a chosen item contains the given range.
HasRange : {X : Type 0} → (X → Bool) → (X → Extent) → List X → ℕ → ℕ → Type 0
HasRange p f xs start end = Any (λ x. IsTrue (p x) × ((f x).start ≤ start) × (end ≤ (f x).end)) xs

IsInOneExtent-from_chosen : {X : Type 0} (p : X → Bool) (f : X → Extent) (xs : List X) (start end : ℕ) →
    IsInOneExtent (map f (filter p xs)) start end → HasRange p f xs start end
unfolding HasRange
IsInOneExtent-from_chosen p f xs start end (s, is_in, low, high) =
    let (x, kept, same) = from_map f (filter p xs) s is_in in
    let (k, within, is) = Contains-from_filter p xs x kept in
    let starts = ap (λ (t : Extent). t.start) same in
    let ends = ap (λ (t : Extent). t.end) same in
    (k, x, within, is, (All-contains (λ z. p z ≡ true) (filter p xs) x (filter_passes p xs) kept, omega arith, omega arith))

IsInOneExtent-to_chosen : {X : Type 0} (p : X → Bool) (f : X → Extent) (xs : List X) (start end : ℕ) → HasRange p f xs start end →
    IsInOneExtent (map f (filter p xs)) start end
unfolding HasRange
IsInOneExtent-to_chosen p f xs start end (k, x, within, is, (chosen, low, high)) =
    (f x, in_map f (filter p xs) x (Contains-filter p xs x (k, within, is) chosen), low, high)

-- The result of a search in these ranges.
chosen : {X : Type 0} (p : X → Bool) (f : X → Extent) (xs : List X) (reaches extents : List Extent) →
    ((a e : ℕ) → a < e → IsInOneExtent reaches a e ↔ IsInOneExtent extents a e) →
    extents ≡ map f (filter p xs) → (a e : ℕ) → a < e → IsInOneExtent reaches a e ↔ HasRange p f xs a e
chosen p f xs reaches extents same are a e some = (
  (λ covered. IsInOneExtent-from_chosen p f xs a e
      (subst (λ (ss : List Extent). IsInOneExtent ss a e) are ((same a e some).0 covered))),
  (λ has. (same a e some).1
      (subst (λ (ss : List Extent). IsInOneExtent ss a e) (sym are) (IsInOneExtent-to_chosen p f xs a e has))),
)

pub IsInOneExtent-code : (elf : Elf) (reaches extents : List Extent) →
    ((a e : ℕ) → a < e → IsInOneExtent reaches a e ↔ IsInOneExtent extents a e) →
    extents ≡ map section_extent (filter (λ s. holds_code s.flags) elf.sections.items) → (a : ℕ) →
    IsInOneExtent reaches a (a + 1) ↔ IsInCode elf a
unfolding HasRange
IsInOneExtent-code elf reaches extents same are a =
    let (from, to) =
    chosen (λ s. holds_code s.flags) section_extent elf.sections.items reaches extents same are a (a + 1) (omega arith) in (
      (λ covered. let (k, s, within, is, (code, low, high)) = from covered in (k, s, within, is, (code, low, omega arith))),
      (λ (k, s, within, is, (code, low, high)). to (k, s, within, is, (code, low, omega arith))),
    )

pub IsInOneExtent-functions : (elf : Elf) (reaches extents : List Extent) →
    ((a e : ℕ) → a < e → IsInOneExtent reaches a e ↔ IsInOneExtent extents a e) →
    extents ≡ map symbol_extent (filter names_function elf.symbols.items) → (start end : ℕ) → start < end →
    IsInOneExtent reaches start end ↔ IsCovered elf start end
unfolding HasRange
IsInOneExtent-functions elf reaches extents same are start end some =
    chosen names_function symbol_extent elf.symbols.items reaches extents same are start end some

-- Ranges that were sorted and extended.
pub IsInOneExtent-sorted : (extents sorted reaches : List Extent) → IsPermutation extents sorted →
    ((a e : ℕ) → a < e → IsInOneExtent reaches a e ↔ IsInOneExtent sorted a e) → (a e : ℕ) → a < e →
    IsInOneExtent reaches a e ↔ IsInOneExtent extents a e
IsInOneExtent-sorted extents sorted reaches order same a e some = (
  (λ covered. IsCovered-permutation sorted extents a e (IsPermutation-sym extents sorted order) ((same a e some).0 covered)),
  (λ covered. (same a e some).1 (IsCovered-permutation extents sorted a e order covered)),
)

pub IsInOneExtent-tabled : (tabled : List (ℕ × ℕ)) (reaches extents : List Extent) →
    ((a e : ℕ) → a < e → IsInOneExtent reaches a e ↔ IsInOneExtent extents a e) → extents ≡ map tabled_extent tabled → (a : ℕ) →
    IsInOneExtent reaches a (a + 1) ↔ Any (IsInTabled a) tabled
IsInOneExtent-tabled tabled reaches extents same are a =
    let (from, to) = same a (a + 1) (omega arith) in (
      (λ covered.
          let (s, is_in, low, high) = subst (λ (ss : List Extent). IsInOneExtent ss a (a + 1)) are (from covered) in
          let (x, (k, within, is), span) = from_map tabled_extent tabled s is_in in
          let starts = ap (λ (t : Extent). t.start) span in
          let ends = ap (λ (t : Extent). t.end) span in
          (k, x, within, is, (omega arith, omega arith))),
      (λ (k, x, within, is, (low, high)).
          to (subst (λ (ss : List Extent). IsInOneExtent ss a (a + 1)) (sym are)
          (tabled_extent x, in_map tabled_extent tabled x (k, within, is), low, omega arith))),
    )
