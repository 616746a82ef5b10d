-- Numbers in the memory of a file whose bytes are known.
use Rattle.std.proofs.Common.{◌≡◌, ◌∙◌, sym, ap, subst, refl, ℕ, suc, ◌+◌, ◌*◌, ◌/◌, ◌%◌, ◌<◌, ◌^◌, List, [], ◌∷◌, Option, Some}
use Rattle.std.proofs.Common.{length, get_or, arith}
use Rattle.std.specs.Prelude.{option_map}
use Rattle.std.proofs.lemmas.List.{append-nil}
use Rattle.byteorder.specs.Endian.{little_bytes, little_from}
use Rattle.byteorder.specs.Numbers.{length-bytes_low_first, little_from-cons, little_from-bytes}
use Rattle.rv_code.specs.machine.Machine.{little}
use Rattle.rv_code.specs.machine.MemoryNumbers.{and_more, bytes_in, number_in}

bytes_in-holds : (memory : ℕ → Option ℕ) (a : ℕ) (bytes : List ℕ) →
    ((j : ℕ) → j < length bytes → memory (a + j) ≡ Some (get_or bytes j 0)) → bytes_in memory a (length bytes) ≡ Some bytes
unfolding bytes_in
bytes_in-holds memory a [] holds = refl
bytes_in-holds memory a (b ∷ bytes) holds =
    let here : a + 0 ≡ a = omega arith in
    let first : memory a ≡ Some b = subst (λ (k : ℕ). memory k ≡ Some b) here (holds 0 (omega arith)) in
    let rest : bytes_in memory (a + 1) (length bytes) ≡ Some bytes =
    bytes_in-holds memory (a + 1) bytes (λ j below.
    let there : a + suc j ≡ a + 1 + j = omega arith in
    subst (λ (k : ℕ). memory k ≡ Some (get_or bytes j 0)) there (holds (suc j) (omega arith))) in
    ap (λ (o : Option ℕ). and_more o (bytes_in memory (a + 1) (length bytes))) first
    ∙ ap (λ (o : Option (List ℕ)). and_more (Some b) o) rest

-- the two ways to read bytes as a number
little-from : (bytes : List ℕ) → little bytes ≡ little_from 0 (length bytes) bytes
unfolding little
little-from [] = refl
little-from (b ∷ bytes) = ap (λ (n : ℕ). b + 256 * n) (little-from bytes ∙ sym (little_from-cons 0 (length bytes) b bytes))

-- a code cell holds its number
pub number_in-holds : (memory : ℕ → Option ℕ) (a n v : ℕ) →
    ((j : ℕ) → j < length (little_bytes n v) → memory (a + j) ≡ Some (get_or (little_bytes n v) j 0)) →
    number_in memory a n ≡ Some (v % 256 ^ n)
number_in-holds memory a n v holds =
    let size : length (little_bytes n v) ≡ n = length-bytes_low_first 0 n v in
    let read : bytes_in memory a n ≡ Some (little_bytes n v) =
    subst (λ (k : ℕ). bytes_in memory a k ≡ Some (little_bytes n v)) size (bytes_in-holds memory a (little_bytes n v) holds) in
    ap (λ (o : Option (List ℕ)). option_map little o) read
    ∙ ap (λ (x : ℕ). Some x) (little-from (little_bytes n v) ∙ ap (λ (k : ℕ). little_from 0 k (little_bytes n v)) size ∙ whole)
  where
    whole : little_from 0 n (little_bytes n v) ≡ v % 256 ^ n
    whole =
        let one : v / 1 ≡ v = omega arith in
        ap (λ (bs : List ℕ). little_from 0 n bs) (sym (append-nil (little_bytes n v))) ∙ little_from-bytes n 0 v []
        ∙ ap (λ (w : ℕ). w % 256 ^ n) one
