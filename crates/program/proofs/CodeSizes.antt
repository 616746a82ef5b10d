-- The size of the code of a file that was read.
use Rattle.std.proofs.Common.{◌≡◌, ◌∙◌, sym, ap, subst, refl, ℕ, suc, ◌+◌, ◌-◌, ◌≤◌, ◌<◌, List, [], ◌∷◌, Some, length, map, take}
use Rattle.std.proofs.Common.{get_or, arith, cond}
use Rattle.std.proofs.lemmas.List.{take_all}
use Rattle.std.proofs.lemmas.List.Sums.{sum_by-cons, sum_by_more, sum_by_more_le}
use Rattle.std.specs.List.{slice_get, range_with_len, sum_by}
use Rattle.elf_image.specs.declared.elf.Elf.{Elf}
use Rattle.elf_image.specs.declared.section.Section.{Section}
use Rattle.elf_image.specs.file.ParsedFile.{IsSectionAt, IsElfOf}
use Rattle.elf_image.specs.file.Sections.{section_header, section_headers, holds_code}
use Rattle.program.specs.Limits.{code_size_limit, header_code_bytes}
use Rattle.program.specs.internal.ReadSections.{section_code_bytes}

-- the code size of a section that was read is the code size by its header
same_code : (file : List ℕ) (index : ℕ) (s : Section) → IsSectionAt file index s → section_code_bytes s ≡ header_code_bytes
    (section_header file index)
same_code file index s is = ap (λ (f : ℕ). cond (holds_code f) s.size 0) is.flags ∙ ap
    (λ (n : ℕ). cond (holds_code (section_header file index).flags) n 0) is.size

sums_from : (file : List ℕ) (k : ℕ) (xs : List Section) → ((i : ℕ) (s : Section) → slice_get xs i ≡ Some s → IsSectionAt file
    (k + i) s)
    → sum_by section_code_bytes xs ≡ sum_by header_code_bytes (map (section_header file) (range_with_len k (length xs)))
sums_from file k [] each = refl
sums_from file k (s ∷ ss) each =
    let first : IsSectionAt file k s = subst (λ (i : ℕ). IsSectionAt file i s) (omega arith) (each 0 s refl) in
    let rest = sums_from file (k + 1) ss (λ i t is. subst (λ (j : ℕ). IsSectionAt file j t) (omega arith) (each (suc i) t is)) in
    sum_by-cons section_code_bytes s ss
    ∙ ap (λ (n : ℕ). n + sum_by section_code_bytes ss) (same_code file k s first)
    ∙ ap (λ (n : ℕ). header_code_bytes (section_header file k) + n) rest
    ∙ sym (sum_by-cons header_code_bytes (section_header file k) (map (section_header file) (range_with_len (k + 1) (length ss))))

pub code_size : (file : List ℕ) (elf : Elf) → IsElfOf file elf →
    sum_by section_code_bytes elf.sections.items ≡ sum_by header_code_bytes (section_headers file)
code_size file elf is =
    sums_from file 0 elf.sections.items (λ i s at. subst (λ (j : ℕ). IsSectionAt file j s) (omega arith)
    (is.sections.each i s at))
    ∙ ap (λ (n : ℕ). sum_by header_code_bytes (map (section_header file) (range_with_len 0 n))) is.sections.count_is

-- The rest of the limit after the sections before an index: one more section; one that doesn't fit; and all of them.
module _ (items seen : List Section) (same : seen ≡ items) (i room : ℕ)
    (left : room + sum_by section_code_bytes (take i items) ≡ code_size_limit) where
  module _ (size : ℕ) (d : Section) (within : i < length seen) (is : size ≡ section_code_bytes (get_or seen i d)) where
    inside : i < length items
    inside = subst (λ (xs : List Section). i < length xs) same within

    size_is : size ≡ section_code_bytes (get_or items i d)
    size_is = subst (λ (xs : List Section). size ≡ section_code_bytes (get_or xs i d)) same is

    pub left_after : size ≤ room → room - size + sum_by section_code_bytes (take (i + 1) items) ≡ code_size_limit
    left_after fits = let more = sum_by_more section_code_bytes items i d inside in let e = size_is in omega arith

    pub passes : room < size → code_size_limit < sum_by section_code_bytes items
    passes over = let some = sum_by_more_le section_code_bytes items i d inside in let e = size_is in omega arith

  pub all_fit : length seen ≤ i → sum_by section_code_bytes items ≤ code_size_limit
  all_fit past =
      let beyond : length items ≤ i = subst (λ (xs : List Section). length xs ≤ i) same past in
      let whole : sum_by section_code_bytes (take i items) ≡ sum_by section_code_bytes items = ap (sum_by section_code_bytes)
      (take_all i items beyond) in
      omega arith
