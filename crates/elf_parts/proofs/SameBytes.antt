-- Patches that leave a byte, and headers written over themselves.
use Rattle.std.proofs.Common.{◌≡◌, ◌∙◌, sym, ap, subst, refl, ℕ, zero, suc, ◌+◌, ◌-◌, ◌*◌, ◌/◌, ◌%◌, ◌≤◌, ◌<◌, ◌^◌, ◌⊎◌, inl, inr}
use Rattle.std.proofs.Common.{List, [], ◌∷◌, length, drop, get_or, arith}
use Rattle.std.specs.Prelude.{All, slice_index}
use Rattle.std.specs.Int.{bytes_low_first}
use Rattle.std.proofs.Math.Nat.{pow-succ', div-div-eq-div-mul}
use Rattle.std.proofs.lemmas.Bool.{cases_lt}
use Rattle.std.proofs.lemmas.List.{get_or-drop}
use Rattle.elf_image.specs.file.Header.{number_at}
use Rattle.byteorder.specs.Endian.{little_from, little_bytes}
use Rattle.elf_parts.specs.Patches.{put, Patch, put_all, IsWithin, Leaves}
use Rattle.elf_parts.proofs.Patches.{length-put, get_or-put_beside, get_or-put_there}
use Rattle.rb_bytes.proofs.NumberBytes.{byte_at-power}

get_or-put_leaves : (a : ℕ) (bytes xs : List ℕ) (k : ℕ) → a + length bytes ≤ length xs →
    Leaves k (get_or xs k 0) (record { offset = a; bytes = bytes }) → get_or (put a bytes xs) k 0 ≡ get_or xs k 0
get_or-put_leaves a bytes xs k within (inl beside) = get_or-put_beside a bytes xs k within beside
get_or-put_leaves a bytes xs k within (inr (from, same)) = cases (cases_lt k (a + length bytes))
  where
    cases : (k < a + length bytes) ⊎ (a + length bytes ≤ k) → get_or (put a bytes xs) k 0 ≡ get_or xs k 0
    cases (inl inside) =
        let place : k ≡ a + (k - a) = omega arith in
        ap (λ (j : ℕ). get_or (put a bytes xs) j 0) place ∙ get_or-put_there a bytes xs (k - a) within (omega arith) ∙ same
    cases (inr beyond) = get_or-put_beside a bytes xs k within (inr beyond)

pub get_or-put_all_leaves : (ps : List Patch) (xs : List ℕ) (k : ℕ) → All (IsWithin (length xs)) ps →
    All (Leaves k (get_or xs k 0)) ps → get_or (put_all xs ps) k 0 ≡ get_or xs k 0
get_or-put_all_leaves [] xs k within leaves = refl
get_or-put_all_leaves (p ∷ ps) xs k within leaves =
    let here : p.offset + length p.bytes ≤ length xs = within 0 p (omega arith) in
    let size : length (put p.offset p.bytes xs) ≡ length xs = length-put p.offset p.bytes xs here in
    let first : get_or (put p.offset p.bytes xs) k 0 ≡ get_or xs k 0 =
    get_or-put_leaves p.offset p.bytes xs k here (leaves 0 p (omega arith)) in
    let rest : All (IsWithin (length (put p.offset p.bytes xs))) ps =
    λ j d below. subst (λ (n : ℕ). IsWithin n (get_or ps j d)) (sym size) (within (suc j) d (omega arith)) in
    get_or-put_all_leaves ps (put p.offset p.bytes xs) k rest
    (λ j d below. subst (λ (b : ℕ). Leaves k b (get_or ps j d)) (sym first) (leaves (suc j) d (omega arith))) ∙ first

-- the bytes of a number that was read are those it was read from
low_byte : (x l : ℕ) → x < 256 → (x + 256 * l) / 1 % 256 ≡ x
low_byte x l small = omega arith

high_bytes : (x l : ℕ) → x < 256 → (x + 256 * l) / 256 ≡ l
high_bytes x l small = omega arith

little_byte : (i n k : ℕ) (xs : List ℕ) → ((j : ℕ) → slice_index xs j < 256) → k < n →
    little_from i n xs / 256 ^ k % 256 ≡ get_or xs (i + k) 0
little_byte i zero k xs bytes below = absurd (omega arith)
little_byte i (suc n) zero xs bytes below =
    let here : i ≡ i + 0 = omega arith in
    low_byte (get_or xs i 0) (little_from (suc i) n xs) (bytes i) ∙ ap (λ (j : ℕ). get_or xs j 0) here
little_byte i (suc n) (suc k) xs bytes below =
    let there : suc i + k ≡ i + suc k = omega arith in
    let number : ℕ = get_or xs i 0 + 256 * little_from (suc i) n xs in
    ap (λ (p : ℕ). number / p % 256) (pow-succ' 256 k)
    ∙ ap (λ (q : ℕ). q % 256) (sym (div-div-eq-div-mul number 256 (256 ^ k)))
    ∙ ap (λ (q : ℕ). q / 256 ^ k % 256) (high_bytes (get_or xs i 0) (little_from (suc i) n xs) (bytes i))
    ∙ little_byte (suc i) n k xs bytes (omega arith)
    ∙ ap (λ (j : ℕ). get_or xs j 0) there

get_or-low_first : (i n v k : ℕ) → k < n → get_or (bytes_low_first i n v) k 0 ≡ v / 256 ^ (i + k) % 256
get_or-low_first i zero v k below = absurd (omega arith)
get_or-low_first i (suc n) v zero below =
    let here : i ≡ i + 0 = omega arith in
    byte_at-power i v ∙ ap (λ (j : ℕ). v / 256 ^ j % 256) here
get_or-low_first i (suc n) v (suc k) below =
    let there : suc i + k ≡ i + suc k = omega arith in
    get_or-low_first (suc i) n v k (omega arith) ∙ ap (λ (j : ℕ). v / 256 ^ j % 256) there

-- A number that is read and spelled again has the same bytes.
pub little_bytes-same : (file : List ℕ) (o n k : ℕ) → ((j : ℕ) → slice_index file j < 256) → k < n →
    get_or (little_bytes n (number_at file o n)) k 0 ≡ get_or file (o + k) 0
little_bytes-same file o n k bytes below =
    get_or-low_first 0 n (number_at file o n) k below
    ∙ ap (λ (j : ℕ). number_at file o n / 256 ^ j % 256) zero_more
    ∙ little_byte 0 n k (drop o file) rest below
    ∙ ap (λ (j : ℕ). get_or (drop o file) j 0) zero_more
    ∙ get_or-drop o file k 0
  where
    zero_more : 0 + k ≡ k
    zero_more = omega arith

    rest : (j : ℕ) → slice_index (drop o file) j < 256
    rest j = subst (λ (b : ℕ). b < 256) (sym (get_or-drop o file j 0)) (bytes (o + j))
