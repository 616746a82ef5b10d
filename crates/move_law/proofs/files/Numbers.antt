-- The bytes of a number in memory.
use Rattle.std.proofs.Common.{◌≡◌, ℕ, zero, suc, ◌+◌, ◌*◌, ◌<◌, List, ◌∷◌, length, Option, Some, None, refl, ap, ◌∙◌, subst, arith, get_or}
use Rattle.std.specs.Prelude.{option_map}
use Rattle.std.proofs.lemmas.Grind.{common_steps}
use Rattle.rv_code.specs.machine.Machine.{little}
use Rattle.byteorder.specs.Endian.{little_from}
use Rattle.rv_code.specs.machine.MemoryNumbers.{bytes_in, and_more, number_in}

-- memory has the bytes bs at the n addresses from a on
pub record BytesAt (memory : ℕ → Option ℕ) (a n : ℕ) (bs : List ℕ) : Type 0 where
  pub length_is : length bs ≡ n
  pub each : (i : ℕ) → i < n → memory (a + i) ≡ Some (get_or bs i 0)

pub bytes_at_is : (memory : ℕ → Option ℕ) (a n : ℕ) (bs : List ℕ) → bytes_in memory a n ≡ Some bs → BytesAt memory a n bs
unfolding bytes_in
bytes_at_is memory a zero bs e = grind (arith, common_steps)
bytes_at_is memory a (suc n) bs e =
    by (memory a) refl (bytes_in memory (a + 1) n) refl e (λ rest k. bytes_at_is memory (a + 1) n rest k)
  where
    by : (o : Option ℕ) → memory a ≡ o → (p : Option (List ℕ)) → bytes_in memory (a + 1) n ≡ p → and_more o p ≡ Some bs →
        ((rest : List ℕ) → bytes_in memory (a + 1) n ≡ Some rest → BytesAt memory (a + 1) n rest) → BytesAt memory a (suc n) bs
    by None k p l h f = absurd (cc)
    by (Some b) k None l h f = absurd (cc)
    by (Some b) k (Some rest) l h f =
        let same : b ∷ rest ≡ bs = cc in
        let r = f rest l in
        subst (BytesAt memory a (suc n)) same (record { length_is = ap suc r.length_is; each = each b k rest r })
      where
        each : (b : ℕ) → memory a ≡ Some b → (rest : List ℕ) → BytesAt memory (a + 1) n rest → (i : ℕ) → i < suc n →
            memory (a + i) ≡ Some (get_or (b ∷ rest) i 0)
        each b k rest r zero h = let at : a + 0 ≡ a = omega arith in ap memory at ∙ k
        each b k rest r (suc i) h = let at : a + suc i ≡ a + 1 + i = omega arith in ap memory at ∙ r.each i (omega (arith, h))

-- if n bytes of a file from offset k on are in memory, memory has their number
pub number_from : (memory : ℕ → Option ℕ) (xs : List ℕ) (a k n : ℕ) →
    ((i : ℕ) → i < n → memory (a + i) ≡ Some (get_or xs (k + i) 0)) →
    number_in memory a n ≡ Some (little_from k n xs)
unfolding bytes_in little
number_from memory xs a k zero there = refl
number_from memory xs a k (suc n) there =
    let here : memory a ≡ Some (get_or xs k 0) =
    ap memory (omega arith) ∙ there 0 (omega arith) ∙ ap (λ (i : ℕ). Some (get_or xs i 0)) (omega arith) in
    let rest = number_from memory xs (a + 1) (suc k) n (λ i inside.
    ap memory (omega arith) ∙ there (suc i) (omega (arith, inside)) ∙ ap (λ (i : ℕ). Some (get_or xs i 0)) (omega arith)) in
    rw here (by (bytes_in memory (a + 1) n) rest)
  where
    by : (o : Option (List ℕ)) → option_map little o ≡ Some (little_from (suc k) n xs) →
        option_map little (and_more (Some (get_or xs k 0)) o) ≡ Some (get_or xs k 0 + 256 * little_from (suc k) n xs)
    by None e = absurd (cc)
    by (Some bs) e = let same : little bs ≡ little_from (suc k) n xs = cc in ap (λ (v : ℕ). Some (get_or xs k 0 + 256 * v)) same
