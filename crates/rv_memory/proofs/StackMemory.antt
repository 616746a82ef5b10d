-- The memory after the stack's bytes were written at the stack pointer.
use Rattle.std.proofs.Common.{◌≡◌, ◌∙◌, ◌+◌, ◌-◌, ◌^◌, ◌<◌, ◌≤◌, ℕ, zero, suc, List, [], ◌∷◌, Bool, true, false, refl, ap, arith, length}
use Rattle.std.specs.Prelude.{if◌then◌else◌, ◌==◌, nat_le, nat_lt, slice_index, replicate}
use Rattle.std.proofs.lemmas.Bool.{eqb-true, eqb-false, leb-true, leb-false, ltb-true, ltb-false, and_parts, false_from_ne_true}
use Rattle.rv_code.specs.machine.Machine.{plus, put}
use Rattle.rv_memory.specs.Start.{in_stack, stack_end, stack_size}
use Rattle.rb_bytes.proofs.Tests.{clash}
use Rattle.rb_bytes.proofs.ListLemmas.{zeros}
use Rattle.std.proofs.lemmas.Grind.{common_steps}

plus_one : (a n : ℕ) → a + suc n < 2 ^ 64 → plus a 1 ≡ a + 1
plus_one a n h = omega arith

pub put_below : (memory : ℕ → ℕ) (a q : ℕ) (bytes : List ℕ) → a + length bytes < 2 ^ 64 → q < a → put memory a bytes q ≡ memory q
unfolding put
put_below memory a q [] room below = refl
put_below memory a q (b ∷ bytes) room below =
    let next : plus a 1 ≡ a + 1 = plus_one a (length bytes) room in
    let room' : a + 1 + length bytes < 2 ^ 64 = omega (arith, room) in
    let below' : q < a + 1 = omega (arith, below) in
    cases (q == a) refl (ap (λ p. put memory p bytes q) next ∙ put_below memory (a + 1) q bytes room' below')
  where
    cases : (t : Bool) → (q == a) ≡ t → put memory (plus a 1) bytes q ≡ memory q →
        (if t then b else put memory (plus a 1) bytes q) ≡ memory q
    cases true test rest = let same : q ≡ a = eqb-true q a test in absurd (omega (arith, same, below))
    cases false test rest = rest

pub put_there : (memory : ℕ → ℕ) (a q : ℕ) (bytes : List ℕ) → a + length bytes < 2 ^ 64 → a ≤ q → q < a + length bytes →
    put memory a bytes q ≡ slice_index bytes (q - a)
unfolding put
put_there memory a q [] room from to = absurd (omega (arith, from, to))
put_there memory a q (b ∷ bytes) room from to =
    let next : plus a 1 ≡ a + 1 = plus_one a (length bytes) room in
    let room' : a + 1 + length bytes < 2 ^ 64 = omega (arith, room) in
    let to' : q < a + 1 + length bytes = omega (arith, to) in
    cases (q == a) refl (λ after. ap (λ p. put memory p bytes q) next ∙ put_there memory (a + 1) q bytes room' after to')
  where
    cases : (t : Bool) → (q == a) ≡ t → (a + 1 ≤ q → put memory (plus a 1) bytes q ≡ slice_index bytes (q - (a + 1))) →
        (if t then b else put memory (plus a 1) bytes q) ≡ slice_index (b ∷ bytes) (q - a)
    cases true test rest =
        let same : q ≡ a = eqb-true q a test in
        let first : q - a ≡ 0 = omega (arith, same) in
        rw first refl
    cases false test rest =
        let apart : (q ≡ a → ⊥) = eqb-false q a test in
        let after : a + 1 ≤ q = omega (arith, from, apart) in
        let one : q - a ≡ suc (q - (a + 1)) = omega (arith, after) in
        rw one (rest after)

pub put_past : (memory : ℕ → ℕ) (a q : ℕ) (bytes : List ℕ) → a + length bytes < 2 ^ 64 → a + length bytes ≤ q →
    put memory a bytes q ≡ memory q
unfolding put
put_past memory a q [] room past = refl
put_past memory a q (b ∷ bytes) room past =
    let next : plus a 1 ≡ a + 1 = plus_one a (length bytes) room in
    let room' : a + 1 + length bytes < 2 ^ 64 = omega (arith, room) in
    let past' : a + 1 + length bytes ≤ q = omega (arith, past) in
    cases (q == a) refl (ap (λ p. put memory p bytes q) next ∙ put_past memory (a + 1) q bytes room' past')
  where
    cases : (t : Bool) → (q == a) ≡ t → put memory (plus a 1) bytes q ≡ memory q →
        (if t then b else put memory (plus a 1) bytes q) ≡ memory q
    cases true test rest = let same : q ≡ a = eqb-true q a test in absurd (omega (arith, same, past))
    cases false test rest = rest

pub in_stack-both : (q : ℕ) → nat_le (stack_end - stack_size) q ≡ true → nat_lt q stack_end ≡ true → in_stack q ≡ true
in_stack-both q from before = rw (from, before) refl

-- An address outside the stack.
beside : (q : ℕ) → in_stack q ≡ false → (P : Type 0) → (q < stack_end - stack_size → P) → (stack_end ≤ q → P) → P
beside q test P under over = grind (arith, common_steps, clash, in_stack-both, leb-false, ltb-false)

-- Bytes that end at the end of the stack, over zeros in the stack and the image elsewhere.
module _ (bytes : List ℕ) (pointer : ℕ) (image memory : ℕ → ℕ) (is : (q : ℕ) → memory q ≡ (if in_stack q then 0 else image q))
    (ends : pointer + length bytes ≡ stack_end) (within : stack_end - stack_size ≤ pointer) where
  low : pointer + length bytes < 2 ^ 64
  low = omega (arith, ends)

  inside : (q : ℕ) → q < stack_end → memory q ≡ 0 → (t : Bool) → nat_le pointer q ≡ t →
      put memory pointer bytes q ≡ (if t then slice_index bytes (q - pointer) else 0)
  inside q under nought true test = put_there memory pointer q bytes low (leb-true pointer q test) (omega (arith, ends, under))
  inside q under nought false test = put_below memory pointer q bytes low (leb-false pointer q test) ∙ nought

  outside : (q : ℕ) → in_stack q ≡ false → put memory pointer bytes q ≡ memory q
  outside q test = grind (arith, common_steps, beside, put_below, low, put_past)

  pub put_stack : (q : ℕ) →
      put memory pointer bytes q
      ≡ (if in_stack q then if nat_le pointer q then slice_index bytes (q - pointer) else 0 else image q)
  put_stack q = grind (arith, common_steps, inside, ltb-true, and_parts, outside)

-- The initial registers.

pub start_register : (p r : ℕ) → slice_index (0 ∷ 0 ∷ p ∷ replicate 29 0) r ≡ (if r == 2 then p else 0)
start_register p zero = refl
start_register p (suc zero) = refl
start_register p (suc (suc zero)) = refl
start_register p (suc (suc (suc n))) =
    let other : (suc (suc (suc n)) == 2) ≡ false =
    false_from_ne_true (suc (suc (suc n)) == 2)
    (λ test. let same : suc (suc (suc n)) ≡ 2 = eqb-true (suc (suc (suc n))) 2 test in omega (arith, same)) in
    rw other (zeros 29 n)
