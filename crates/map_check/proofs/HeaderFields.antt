-- Hidden fields of a file's headers, by the header that has them.
use Rattle.std.proofs.Common.{◌≡◌, ◌≢◌, ◌∙◌, ◌+◌, ◌*◌, ◌<◌, ◌≤◌, ◌⊎◌, ℕ, Bool, true, false, List, [], ◌∷◌, ◌++◌}
use Rattle.std.proofs.Common.{⊎_elim, ap, arith, get_or, length, refl, sym}
use Rattle.std.specs.Prelude.{◌==◌, ◌||◌, flat_map, is_none, is_some, nat_le, nat_lt, not, None, Option, Some}
use Rattle.std.specs.List.{enumerate_from, list_any}
use Rattle.std.proofs.lemmas.Bool.{and_parts, cases_eq, false_from_ne_true, leb-true, ltb-true, or_cases}
use Rattle.std.proofs.lemmas.List.Folds.{list_any-append}
use Rattle.std.proofs.lemmas.List.FromFn.{get_or-enumerate_from, length-enumerate_from}
use Rattle.std.proofs.lemmas.List.Recursion.{or_is}
use Rattle.elf_image.specs.declared.elf.Elf.{Elf}
use Rattle.elf_image.specs.declared.segment.Segment.{Segment}
use Rattle.elf_image.specs.declared.segment.TheConstants.{PHDR_SIZE, PT_GNU_EH_FRAME}
use Rattle.elf_image.specs.memory.CodeSegment.{executable_end}
use Rattle.elf_image.specs.memory.HiddenFields.{hidden_in_segment, is_executable_segment, only, p_offset_field, place_fields, size_fields}
use Rattle.elf_image.specs.memory.LoadedBytes.{Range, is_in_range}

-- Lists of fields with one more field.

pub joined : (f : Range → Bool) (xs ys : List Range) (a b : Bool) → a ≡ list_any f xs → b ≡ (a || list_any f ys) →
    b ≡ list_any f (xs ++ ys)
joined f xs ys a b first more = more ∙ ap (λ t. t || list_any f ys) first ∙ sym (list_any-append f xs ys)

pub under : (f : Range → Bool) (range : Range) (s t a b : Bool) → s ≡ t → b ≡ (a || list_any f (only s range)) →
    b ≡ (a || list_any f (only t range))
under f range s t a b same is = is ∙ ap (λ u. a || list_any f (only u range)) same

pub none_from_some : {X : Type 0} (o : Option X) (b : Bool) → is_some o ≡ not b → b ≡ is_none o
none_from_some None true is = refl
none_from_some None false is = absurd (cc)
none_from_some (Some x) true is = absurd (cc)
none_from_some (Some x) false is = refl

any_flat : {X : Type 0} (f : Range → Bool) (g : X → List Range) (xs : List X) →
    list_any f (flat_map g xs) ≡ list_any (λ x. list_any f (g x)) xs
any_flat f g [] = refl
any_flat f g (x ∷ xs) = list_any-append f (g x) (flat_map g xs) ∙ ap (λ t. list_any f (g x) || t) (any_flat f g xs)

-- An offset in a program header.

in_range : (o : ℕ) (range : Range) → is_in_range o range ≡ true → (range.start ≤ o) × (o < range.start + range.size)
in_range o range is =
    let parts = and_parts (nat_le range.start o) (nat_lt o (range.start + range.size)) is in
    (leb-true range.start o parts.0, ltb-true o (range.start + range.size) parts.1)

in_only : (o : ℕ) (test : Bool) (range : Range) → list_any (is_in_range o) (only test range) ≡ true →
    (range.start ≤ o) × (o < range.start + range.size)
in_only o false range is = absurd (cc)
in_only o true range is = ⊎_elim
    (λ (here : is_in_range o range ≡ true). in_range o range here)
    (λ (there : false ≡ true). absurd (cc))
    (or_cases (is_in_range o range) false is)

either : (o : ℕ) (xs ys : List Range) → list_any (is_in_range o) (xs ++ ys) ≡ true →
    (list_any (is_in_range o) xs ≡ true) ⊎ (list_any (is_in_range o) ys ≡ true)
either o xs ys is =
    or_cases (list_any (is_in_range o) xs) (list_any (is_in_range o) ys) (sym (list_any-append (is_in_range o) xs ys) ∙ is)

abbrev header_at : Elf → ℕ → ℕ
header_at elf k = elf.phoff + PHDR_SIZE * k

abbrev sizes : Elf → ℕ → List Range
sizes elf k = only (is_executable_segment elf k) (size_fields (header_at elf k))

abbrev offsets : Elf → ℕ → Segment → List Range
offsets elf k p = only (nat_le (executable_end elf.segments.items) p.offset) (p_offset_field (header_at elf k))

abbrev places : Elf → ℕ → Segment → List Range
places elf k p = only (p.kind == PT_GNU_EH_FRAME) (place_fields (header_at elf k))

in_header : (elf : Elf) (o k : ℕ) (p : Segment) → list_any (is_in_range o) (hidden_in_segment elf (k, p)) ≡ true →
    (header_at elf k ≤ o) × (o < header_at elf k + PHDR_SIZE)
in_header elf o k p is = ⊎_elim
    (λ (front : list_any (is_in_range o) (sizes elf k ++ offsets elf k p) ≡ true). ⊎_elim
    (λ (here : list_any (is_in_range o) (sizes elf k) ≡ true).
    let r = in_only o (is_executable_segment elf k) (size_fields (header_at elf k)) here in
    (omega (arith, r.0), omega (arith, r.1)))
    (λ (here : list_any (is_in_range o) (offsets elf k p) ≡ true).
    let r = in_only o (nat_le (executable_end elf.segments.items) p.offset) (p_offset_field (header_at elf k)) here in
    (omega (arith, r.0), omega (arith, r.1)))
    (either o (sizes elf k) (offsets elf k p) front))
    (λ (here : list_any (is_in_range o) (places elf k p) ≡ true).
    let r = in_only o (p.kind == PT_GNU_EH_FRAME) (place_fields (header_at elf k)) here in
    (omega (arith, r.0), omega (arith, r.1)))
    (either o (sizes elf k ++ offsets elf k p) (places elf k p) is)

-- All program headers.

module _ (elf : Elf) (o : ℕ) where
  has : ℕ × Segment → Bool
  has e = list_any (is_in_range o) (hidden_in_segment elf e)

  header_is : (k : ℕ) (d : Segment) → k < length elf.segments.items →
      get_or (enumerate_from 0 elf.segments.items) k (0, d) ≡ (k, get_or elf.segments.items k d)
  header_is k d within =
      get_or-enumerate_from 0 elf.segments.items k (0, d) within
      ∙ ap (λ (n : ℕ). (n, get_or elf.segments.items k d)) (omega arith)

  -- an offset in one program header is in no other one
  far : (i k : ℕ) (p : Segment) → header_at elf i ≤ o → o < header_at elf i + PHDR_SIZE → k ≢ i → has (k, p) ≡ false
  unfolding has
  far i k p low high other = false_from_ne_true (list_any (is_in_range o) (hidden_in_segment elf (k, p))) (λ is.
      let r = in_header elf o k p is in
      let from = r.0 in
      let to = r.1 in
      other (omega (arith, from, to)))

  pub in_one : (i : ℕ) (d p : Segment) (b : Bool) → i < length elf.segments.items → p ≡ get_or elf.segments.items i d →
      header_at elf i ≤ o → o < header_at elf i + PHDR_SIZE → b ≡ list_any (is_in_range o) (hidden_in_segment elf (i, p)) →
      b ≡ list_any (is_in_range o) (flat_map (hidden_in_segment elf) (enumerate_from 0 elf.segments.items))
  unfolding has
  in_one i d p b within here low high is =
      or_is (list_any has) has refl (λ _ _. refl) (enumerate_from 0 elf.segments.items) (0, d) b yes_it no_it
      ∙ sym (any_flat (is_in_range o) (hidden_in_segment elf) (enumerate_from 0 elf.segments.items))
    where
      yes_it : b ≡ true → (k : ℕ) × (k < length (enumerate_from 0 elf.segments.items)) ×
          (has (get_or (enumerate_from 0 elf.segments.items) k (0, d)) ≡ true)
      yes_it found = (
        i,
        omega (arith, length-enumerate_from 0 elf.segments.items),
        ap has (header_is i d within ∙ ap (λ (q : Segment). (i, q)) (sym here)) ∙ sym is ∙ found,
      )

      no_it : b ≡ false → (k : ℕ) → k < length (enumerate_from 0 elf.segments.items) →
          has (get_or (enumerate_from 0 elf.segments.items) k (0, d)) ≡ false
      no_it missing k inside =
          let inside_k : k < length elf.segments.items = omega (arith, length-enumerate_from 0 elf.segments.items) in
          ap has (header_is k d inside_k) ∙ ⊎_elim
          (λ (same : k ≡ i).
          ap (λ (j : ℕ). has (j, get_or elf.segments.items j d)) same ∙ ap (λ (q : Segment). has (i, q)) (sym here)
          ∙ sym is ∙ missing)
          (λ (other : k ≢ i). far i k (get_or elf.segments.items k d) low high other)
          (cases_eq k i)

  pub in_none : (o < elf.phoff) ⊎ (header_at elf (length elf.segments.items) ≤ o) →
      false ≡ list_any (is_in_range o) (flat_map (hidden_in_segment elf) (enumerate_from 0 elf.segments.items))
  unfolding has
  in_none out =
      or_is (list_any has) has refl (λ _ _. refl) (enumerate_from 0 elf.segments.items) (0, no_segment) false
      (λ never. absurd (cc)) no_it
      ∙ sym (any_flat (is_in_range o) (hidden_in_segment elf) (enumerate_from 0 elf.segments.items))
    where
      no_segment : Segment
      no_segment = record { kind = 0; flags = 0; offset = 0; vaddr = 0; paddr = 0; filesz = 0; memsz = 0; align = 0 }

      outside : (k : ℕ) → k < length elf.segments.items → header_at elf k ≤ o → o < header_at elf k + PHDR_SIZE → ⊥
      outside k within low high = ⊎_elim
          (λ (below : o < elf.phoff). omega (arith, below, low))
          (λ (above : header_at elf (length elf.segments.items) ≤ o). omega (arith, above, high))
          out

      no_it : false ≡ false → (k : ℕ) → k < length (enumerate_from 0 elf.segments.items) →
          has (get_or (enumerate_from 0 elf.segments.items) k (0, no_segment)) ≡ false
      no_it _ k inside =
          let within : k < length elf.segments.items = omega (arith, length-enumerate_from 0 elf.segments.items) in
          ap has (header_is k no_segment within)
          ∙ false_from_ne_true (has (k, get_or elf.segments.items k no_segment)) (λ is.
          let r = in_header elf o k (get_or elf.segments.items k no_segment) is in outside k within r.0 r.1)
