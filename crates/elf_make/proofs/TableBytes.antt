-- The bytes of a table of program headers that is written over that of the input: they are the same but where it says other
-- things.
use Rattle.std.proofs.Common.{◌≡◌, ◌∙◌, sym, ap, subst, refl, ℕ, zero, suc, ◌+◌, ◌*◌, ◌-◌, ◌≤◌, ◌<◌, ◌⊎◌, inl, inr, List, [], ◌∷◌}
use Rattle.std.proofs.Common.{◌++◌, length, get_or, arith, length-append}
use Rattle.std.specs.Prelude.{slice_index}
use Rattle.std.proofs.lemmas.Bool.{cases_lt}
use Rattle.std.proofs.lemmas.List.{get_or_append_left, get_or-append_right}
use Rattle.byteorder.specs.Endian.{little_bytes}
use Rattle.byteorder.specs.Numbers.{length-bytes_low_first}
use Rattle.elf_image.specs.declared.segment.Segment.{Segment}
use Rattle.elf_image.specs.declared.segment.TheConstants.{PHDR_SIZE}
use Rattle.elf_image.specs.file.Header.{number_at, segment_at}
use Rattle.elf_parts.specs.Spellings.{Number, number, spelled, segment_numbers, segment_bytes, segment_table}
use Rattle.elf_parts.proofs.SameBytes.{little_bytes-same}
use Rattle.elf_parts.proofs.Spellings.{length-segment_bytes}

-- Two lists of numbers that are at a place agree but where it is hidden.
pub data AreSameBut (Hidden : ℕ → Type 0) : ℕ → List Number → List Number → Type 0 where
  no_numbers : (o : ℕ) → AreSameBut Hidden o [] []
  same_number : (o n v : ℕ) (ns ms : List Number) → AreSameBut Hidden (o + n) ns ms →
      AreSameBut Hidden o (number n v ∷ ns) (number n v ∷ ms)
  hidden_number : (o n v w : ℕ) (ns ms : List Number) → ((j : ℕ) → o ≤ j → j < o + n → Hidden j) →
      AreSameBut Hidden (o + n) ns ms → AreSameBut Hidden o (number n v ∷ ns) (number n w ∷ ms)

-- a byte of spelled numbers: of the first, or of the rest
first-byte : (n v : ℕ) (ns : List Number) (r : ℕ) → r < n → get_or (spelled (number n v ∷ ns)) r 0 ≡ get_or (little_bytes n v) r 0
unfolding spelled
first-byte n v ns r below =
    let size : length (little_bytes n v) ≡ n = length-bytes_low_first 0 n v in
    get_or_append_left (little_bytes n v) (spelled ns) 0 r (omega arith)

rest-byte : (n v : ℕ) (ns : List Number) (r : ℕ) → n ≤ r → get_or (spelled (number n v ∷ ns)) r 0 ≡ get_or (spelled ns) (r - n) 0
unfolding spelled
rest-byte n v ns r from =
    let size : length (little_bytes n v) ≡ n = length-bytes_low_first 0 n v in
    get_or-append_right (little_bytes n v) (spelled ns) n r 0 size from

pub spelled-same : (Hidden : ℕ → Type 0) (o : ℕ) (ns ms : List Number) → AreSameBut Hidden o ns ms → (r : ℕ) →
    (get_or (spelled ns) r 0 ≡ get_or (spelled ms) r 0) ⊎ Hidden (o + r)
spelled-same Hidden o ns ms (no_numbers _) r = inl refl
spelled-same Hidden o ns ms (same_number _ n v ks ls rest) r =
    cases (spelled-same Hidden (o + n) ks ls rest (r - n)) (cases_lt r n)
  where
    place : n ≤ r → (o + n) + (r - n) ≡ o + r
    place from = omega arith

    later : n ≤ r → (get_or (spelled ks) (r - n) 0 ≡ get_or (spelled ls) (r - n) 0) ⊎ Hidden ((o + n) + (r - n)) →
        (get_or (spelled (number n v ∷ ks)) r 0 ≡ get_or (spelled (number n v ∷ ls)) r 0) ⊎ Hidden (o + r)
    later from (inl e) = inl (rest-byte n v ks r from ∙ e ∙ sym (rest-byte n v ls r from))
    later from (inr h) = inr (subst Hidden (place from) h)

    cases : (get_or (spelled ks) (r - n) 0 ≡ get_or (spelled ls) (r - n) 0) ⊎ Hidden ((o + n) + (r - n)) → (r < n) ⊎ (n ≤ r) →
        (get_or (spelled (number n v ∷ ks)) r 0 ≡ get_or (spelled (number n v ∷ ls)) r 0) ⊎ Hidden (o + r)
    cases more (inl below) = inl (first-byte n v ks r below ∙ sym (first-byte n v ls r below))
    cases more (inr from) = later from more
spelled-same Hidden o ns ms (hidden_number _ n v w ks ls there rest) r =
    cases (spelled-same Hidden (o + n) ks ls rest (r - n)) (cases_lt r n)
  where
    place : n ≤ r → (o + n) + (r - n) ≡ o + r
    place from = omega arith

    later : n ≤ r → (get_or (spelled ks) (r - n) 0 ≡ get_or (spelled ls) (r - n) 0) ⊎ Hidden ((o + n) + (r - n)) →
        (get_or (spelled (number n v ∷ ks)) r 0 ≡ get_or (spelled (number n w ∷ ls)) r 0) ⊎ Hidden (o + r)
    later from (inl e) = inl (rest-byte n v ks r from ∙ e ∙ sym (rest-byte n w ls r from))
    later from (inr h) = inr (subst Hidden (place from) h)

    cases : (get_or (spelled ks) (r - n) 0 ≡ get_or (spelled ls) (r - n) 0) ⊎ Hidden ((o + n) + (r - n)) → (r < n) ⊎ (n ≤ r) →
        (get_or (spelled (number n v ∷ ks)) r 0 ≡ get_or (spelled (number n w ∷ ls)) r 0) ⊎ Hidden (o + r)
    cases more (inl below) = inr (there (o + r) (omega arith) (omega arith))
    cases more (inr from) = later from more

-- The numbers of a header that was read, spelled again.
data AreRead (file : List ℕ) : ℕ → List Number → Type 0 where
  no_more : (o : ℕ) → AreRead file o []
  reads : (o n q : ℕ) (ns : List Number) → q ≡ o → AreRead file (o + n) ns → AreRead file o (number n (number_at file q n) ∷ ns)

spelled-read : (file : List ℕ) (o : ℕ) (ns : List Number) → ((j : ℕ) → slice_index file j < 256) → AreRead file o ns → (r : ℕ) →
    r < length (spelled ns) → get_or (spelled ns) r 0 ≡ get_or file (o + r) 0
unfolding spelled
spelled-read file o ns bytes (no_more _) r below = absurd (omega arith)
spelled-read file o ns bytes (reads _ n q ks at rest) r below =
    cases (λ low. spelled-read file (o + n) ks bytes rest (r - n) low) (cases_lt r n)
  where
    size : length (little_bytes n (number_at file q n)) ≡ n
    size = length-bytes_low_first 0 n (number_at file q n)

    whole : length (spelled (number n (number_at file q n) ∷ ks)) ≡ n + length (spelled ks)
    whole = length-append (little_bytes n (number_at file q n)) (spelled ks) ∙ ap (λ (k : ℕ). k + length (spelled ks)) size

    place : n ≤ r → (o + n) + (r - n) ≡ o + r
    place from = omega arith

    cases : (r - n < length (spelled ks) → get_or (spelled ks) (r - n) 0 ≡ get_or file ((o + n) + (r - n)) 0) →
        (r < n) ⊎ (n ≤ r) → get_or (spelled (number n (number_at file q n) ∷ ks)) r 0 ≡ get_or file (o + r) 0
    cases more (inl low) =
        first-byte n (number_at file q n) ks r low ∙ little_bytes-same file q n r bytes low
        ∙ ap (λ (k : ℕ). get_or file (k + r) 0) at
    cases more (inr from) =
        rest-byte n (number_at file q n) ks r from
        ∙ more (omega (arith, whole))
        ∙ ap (λ (k : ℕ). get_or file k 0) (place from)

segment-read : (file : List ℕ) (o : ℕ) → AreRead file o (segment_numbers (segment_at file o))
segment-read file o =
    reads o 4 o _ refl
    (reads (o + 4) 4 (o + 4) _ refl
    (reads (o + 4 + 4) 8 (o + 8) _ (omega arith)
    (reads (o + 4 + 4 + 8) 8 (o + 16) _ (omega arith)
    (reads (o + 4 + 4 + 8 + 8) 8 (o + 24) _ (omega arith)
    (reads (o + 4 + 4 + 8 + 8 + 8) 8 (o + 32) _ (omega arith)
    (reads (o + 4 + 4 + 8 + 8 + 8 + 8) 8 (o + 40) _ (omega arith)
    (reads (o + 4 + 4 + 8 + 8 + 8 + 8 + 8) 8 (o + 48) _ (omega arith) (no_more _))))))))

-- A table in the place of the input's has the same bytes, except where it is hidden.
pub table-same : (file : List ℕ) (Hidden : ℕ → Type 0) (o : ℕ) (n : ℕ) (qs : List Segment) →
    ((j : ℕ) → slice_index file j < 256) → length qs ≡ n → ((i : ℕ) (d : Segment) → i < n → AreSameBut Hidden (o + PHDR_SIZE * i)
    (segment_numbers (get_or qs i d)) (segment_numbers (segment_at file (o + PHDR_SIZE * i)))) → (j : ℕ) → j < PHDR_SIZE * n →
    (get_or (segment_table qs) j 0 ≡ get_or file (o + j) 0) ⊎ Hidden (o + j)
unfolding segment_table
table-same file Hidden o zero qs bytes long each j below = absurd (omega arith)
table-same file Hidden o (suc n) [] bytes long each j below = absurd (omega arith)
table-same file Hidden o (suc n) (q ∷ qs) bytes long each j below =
    cases (λ low. table-same file Hidden (o + 56) n qs bytes (omega arith) next (j - 56) low) (cases_lt j 56)
  where
    size : length (segment_bytes q) ≡ 56
    size = length-segment_bytes q

    start : o + PHDR_SIZE * 0 ≡ o
    start = omega arith

    first : AreSameBut Hidden o (segment_numbers q) (segment_numbers (segment_at file o))
    first = subst (λ (k : ℕ). AreSameBut Hidden k (segment_numbers q) (segment_numbers (segment_at file k))) start
        (each 0 q (omega arith))

    here : j < 56 → (get_or (segment_bytes q) j 0 ≡ get_or (segment_bytes (segment_at file o)) j 0) ⊎ Hidden (o + j) →
        (get_or (segment_bytes q ++ segment_table qs) j 0 ≡ get_or file (o + j) 0) ⊎ Hidden (o + j)
    here low (inr h) = inr h
    here low (inl e) =
        let wide : length (segment_bytes (segment_at file o)) ≡ 56 = length-segment_bytes (segment_at file o) in
        inl (get_or_append_left (segment_bytes q) (segment_table qs) 0 j (omega (arith, size)) ∙ e
        ∙ spelled-read file o (segment_numbers (segment_at file o)) bytes (segment-read file o) j (omega (arith, wide)))

    place : 56 ≤ j → (o + 56) + (j - 56) ≡ o + j
    place from = omega arith

    there : 56 ≤ j → (get_or (segment_table qs) (j - 56) 0 ≡ get_or file ((o + 56) + (j - 56)) 0) ⊎ Hidden ((o + 56) + (j - 56)) →
        (get_or (segment_bytes q ++ segment_table qs) j 0 ≡ get_or file (o + j) 0) ⊎ Hidden (o + j)
    there from (inl e) = inl (get_or-append_right (segment_bytes q) (segment_table qs) 56 j 0 size from ∙ e
        ∙ ap (λ (k : ℕ). get_or file k 0) (place from))
    there from (inr h) = inr (subst Hidden (place from) h)

    next : (i : ℕ) (d : Segment) → i < n → AreSameBut Hidden ((o + 56) + PHDR_SIZE * i) (segment_numbers (get_or qs i d))
        (segment_numbers (segment_at file ((o + 56) + PHDR_SIZE * i)))
    next i d low =
        let at : o + PHDR_SIZE * suc i ≡ (o + 56) + PHDR_SIZE * i = omega arith in
        subst (λ (k : ℕ). AreSameBut Hidden k (segment_numbers (get_or qs i d)) (segment_numbers (segment_at file k))) at
        (each (suc i) d (omega arith))

    cases : ((j - 56 < PHDR_SIZE * n) → (get_or (segment_table qs) (j - 56) 0 ≡ get_or file ((o + 56) + (j - 56)) 0)
        ⊎ Hidden ((o + 56) + (j - 56))) → (j < 56) ⊎ (56 ≤ j) →
        (get_or (segment_bytes q ++ segment_table qs) j 0 ≡ get_or file (o + j) 0) ⊎ Hidden (o + j)
    cases rest (inl low) = here low (spelled-same Hidden o (segment_numbers q) (segment_numbers (segment_at file o)) first j)
    cases rest (inr from) = there from (rest (omega arith))
