-- A list after bytes are written over a part of it.
use Rattle.std.proofs.Common.{◌≡◌, ◌∙◌, sym, ap, refl, ℕ, ◌+◌, ◌-◌, ◌*◌, ◌/◌, ◌%◌, ◌≤◌, ◌<◌, ◌⊎◌, inl, inr}
use Rattle.std.proofs.Common.{List, ◌++◌, length, take, drop, get_or, Option, Some, None, arith}
use Rattle.std.specs.Prelude.{if◌then◌else◌}
use Rattle.std.specs.Option.{option_map}
use Rattle.std.proofs.lemmas.Grind.{common_steps}
use Rattle.std.proofs.lemmas.List.{get_or-drop, get_or-take, get_or_append_left, get_or-append_right}
use Rattle.std.proofs.lemmas.Bool.{leb-true, leb-false, ltb-true, ltb-false, cases_lt}
use Rattle.std.proofs.Math.Nat.{eq-or-lt_of_le}
use Rattle.std.proofs.Common.{[], ◌∷◌, ◌^◌, div-one, set}
use Rattle.std.proofs.lemmas.List.{take_all}
use Rattle.std.proofs.lemmas.List.Edits.{sets-eq}
use Rattle.byteorder.specs.Endian.{little_bytes}
use Rattle.byteorder.specs.Numbers.{length-bytes_low_first}
use borrow.Rule.Slice.PartMut.{put_mid}
use Rattle.rv_code.specs.machine.Machine.{low_bytes}
use Rattle.rv_code.proofs.machine.LowBytes.{length_low_bytes}
use Rattle.rv_memory.specs.Patches.{patched}
use Rattle.rv_memory.specs.Pages.{is_within}
use Rattle.rv_memory.proofs.MemoryBytes.{bytes_low_first-low_bytes}
use Rattle.rv_memory.proofs.StackLengths.{low_bytes-mod}

-- A write at the front of the bytes after an index.
patched_at : (a n : ℕ) (xs bytes : List ℕ) → take a xs
    ++ ((bytes ++ drop n (take (length xs - a) (drop a xs))) ++ drop (length xs - a) (drop a xs)) ≡ take a xs
    ++ (bytes ++ drop (a + n) xs)
patched_at a n xs bytes = grind (arith, common_steps)

pub length-patched : (at : ℕ) (ys xs : List ℕ) → at + length ys ≤ length xs → length (patched at ys xs) ≡ length xs
unfolding patched
length-patched at ys xs within = grind (arith, common_steps)

pub get_or-patched_there : (at : ℕ) (ys xs : List ℕ) (k : ℕ) → at + length ys ≤ length xs → k < length ys →
    get_or (patched at ys xs) (at + k) 0 ≡ get_or ys k 0
unfolding patched
get_or-patched_there at ys xs k within here = grind (arith, common_steps, get_or-append_right, get_or_append_left)

pub get_or-patched_beside : (at : ℕ) (ys xs : List ℕ) (k : ℕ) → at + length ys ≤ length xs → (k < at) ⊎ (at + length ys ≤ k) →
    get_or (patched at ys xs) k 0 ≡ get_or xs k 0
unfolding patched
get_or-patched_beside at ys xs k within (inl low) = grind (arith, common_steps, get_or_append_left, get_or-take)
get_or-patched_beside at ys xs k within (inr high) = grind (arith, common_steps, get_or-append_right, get_or-drop)

-- Pages are consecutive in the list, at the index of each page number.
module _ (place : ℕ → Option ℕ) (numbers xs : List ℕ) (numbered : (q i : ℕ) → place q ≡ Some i → get_or numbers i 0 ≡ q) where
  -- Bytes written inside one page.
  module _ (ys : List ℕ) (a i : ℕ) (found : place (a / 4096) ≡ Some i) (in_page : a % 4096 + length ys ≤ 4096)
      (within : i * 4096 + a % 4096 + length ys ≤ length xs) where
    there : (q : ℕ) → a ≤ q → q < a + length ys →
        option_map (λ j. get_or (patched (i * 4096 + a % 4096) ys xs) (j * 4096 + q % 4096) 0) (place (q / 4096))
        ≡ Some (get_or ys (q - a) 0)
    there q from to = grind (arith, common_steps, get_or-patched_there)

    apart : (q j : ℕ) → place (q / 4096) ≡ Some j → (q < a) ⊎ (a + length ys ≤ q) → (j * 4096 + q % 4096 < i * 4096 + a % 4096)
        ⊎ (i * 4096 + a % 4096 + length ys ≤ j * 4096 + q % 4096)
    apart q j is beside = elim (cases_lt j i) [
      | inl low ↦ inl (omega arith)
      | inr high ↦ elim (eq-or-lt_of_le high) [
        | inr above ↦ inr (omega arith)
        | inl same ↦
            let page : q / 4096 ≡ a / 4096 = sym (numbered (q / 4096) j is) ∙ ap (λ k. get_or numbers k 0) (sym same)
            ∙ numbered (a / 4096) i found in
            elim beside [ inl before ↦ inl (omega arith) | inr after ↦ inr (omega arith) ]
      ]
    ]

    elsewhere : (q : ℕ) → (q < a) ⊎ (a + length ys ≤ q) → (r : Option ℕ) → place (q / 4096) ≡ r →
        option_map (λ j. get_or (patched (i * 4096 + a % 4096) ys xs) (j * 4096 + q % 4096) 0) r
        ≡ option_map (λ j. get_or xs (j * 4096 + q % 4096) 0) r
    elsewhere q beside None is = refl
    elsewhere q beside (Some j) is =
        ap Some (get_or-patched_beside (i * 4096 + a % 4096) ys xs (j * 4096 + q % 4096) within (apart q j is beside))

    pub page_patched : (q : ℕ) →
        option_map (λ j. get_or (patched (i * 4096 + a % 4096) ys xs) (j * 4096 + q % 4096) 0) (place (q / 4096))
        ≡ (if is_within a (length ys) q then Some (get_or ys (q - a) 0)
        else option_map (λ j. get_or xs (j * 4096 + q % 4096) 0) (place (q / 4096)))
    page_patched q = grind (arith, common_steps, there, ltb-true, elsewhere, ltb-false, leb-true, leb-false)

-- The result of writing to a part of a slice.
pub mid_patched : (at k : ℕ) (xs ys zs : List ℕ) → zs ≡ ys → k ≡ length ys → at + k ≤ length xs →
    put_mid at k xs zs ≡ patched at ys xs
unfolding patched
mid_patched at k xs ys zs is size within = rw (is, size) (grind (arith, common_steps))

pub little_bytes-low_bytes : (n v : ℕ) → little_bytes n (v % 256 ^ n) ≡ low_bytes n v
little_bytes-low_bytes n v =
    let whole : take n (little_bytes n (v % 256 ^ n)) ≡ little_bytes n (v % 256 ^ n) =
    take_all n (little_bytes n (v % 256 ^ n)) (omega (arith, length-bytes_low_first 0 n (v % 256 ^ n))) in
    sym whole ∙ (rw (div-one (v % 256 ^ n)) at (bytes_low_first-low_bytes 0 n n (v % 256 ^ n) (omega arith))) ∙ low_bytes-mod n v

pub number_patched : (at n v : ℕ) (xs zs : List ℕ) → at + n ≤ length xs → zs ≡ little_bytes n (v % 256 ^ n)
    ++ drop n (take (length xs - at) (drop at xs)) → put_mid at (length xs - at) xs zs ≡ patched at (low_bytes n v) xs
unfolding patched
number_patched at n v xs zs within is = grind (arith, common_steps, patched_at, little_bytes-low_bytes, length_low_bytes)

pub set_one : (at v : ℕ) (xs : List ℕ) → at + 1 ≤ length xs → set xs at v ≡ patched at (v ∷ []) xs
unfolding patched
set_one at v xs within = let set_is = sets-eq (v ∷ []) xs at within in grind (arith, common_steps, set_is)

pub set_patched : (at v : ℕ) (xs : List ℕ) → at + 1 ≤ length xs → set xs at (v % 256) ≡ patched at (low_bytes 1 v) xs
unfolding low_bytes
set_patched at v xs within = set_one at (v % 256) xs within

pub whole_patched : (at n v : ℕ) (xs zs : List ℕ) → at + n ≤ length xs → v % 256 ^ n ≡ v → zs ≡ little_bytes n v
    ++ drop n (take (length xs - at) (drop at xs)) → put_mid at (length xs - at) xs zs ≡ patched at (low_bytes n v) xs
whole_patched at n v xs zs within fits is = grind (arith, common_steps, number_patched)
