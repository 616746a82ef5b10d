-- Facts on tests and on numbers.
use Rattle.std.proofs.Common.{◌≡◌, ◌≢◌, ◌<◌, ◌+◌, ◌-◌, ◌↔◌, ℕ, suc, Bool, true, false, not, IsTrue, refl, sym, ◌&&◌, ap, arith, nat_cmp}
use Rattle.std.proofs.Common.{ℤ, pos, negsuc, ◌≤ℤ◌}
use Rattle.std.specs.Prelude.{◌||◌}
use Rattle.std.specs.BTreeMap.{is_at}
use Rattle.std.specs.Bool.{beq}
use Rattle.std.proofs.lemmas.Grind.{common_steps}
use Rattle.std.proofs.lemmas.Int.{ints}

pub bool_same : (a b : Bool) → (a ≡ true → b ≡ true) → (b ≡ true → a ≡ true) → a ≡ b
bool_same true b h k = sym (h refl)
bool_same false true h k = k refl
bool_same false false h k = refl

pub bool_is : (a b : Bool) → beq a b ≡ true → a ≡ b
bool_is true true e = refl
bool_is true false e = absurd (cc)
bool_is false true e = absurd (cc)
bool_is false false e = refl

pub second_of : (a b : Bool) → (a && b) ≡ true → b ≡ true
second_of true b both = both
second_of false b both = absurd (cc)

pub and_false : (b : Bool) → (b && false) ≡ false
and_false true = refl
and_false false = refl

pub or_true : (b : Bool) → (b || true) ≡ true
or_true true = refl
or_true false = refl

pub or_false : (b : Bool) → (b || false) ≡ b
or_false true = refl
or_false false = refl

pub clash : (b : Bool) → b ≡ true → b ≡ false → ⊥
clash b t f = absurd (cc)

pub if_not : {C : Type 0} (b : Bool) → IsTrue b ↔ C → IsTrue (not b) ↔ (C → ⊥)
if_not true test = (λ wrong. let never : false ≡ true = wrong in cc, λ wrong. absurd (wrong (test.0 refl)))
if_not false test = (λ _ is. let never : false ≡ true = test.1 is in cc, λ _. refl)

-- The searched key, and a key that differs from it.
pub at_same : (k : ℕ) → is_at (nat_cmp k) k ≡ true
at_same k = grind (arith, common_steps)

pub at_key : (k q : ℕ) → k ≢ q → is_at (nat_cmp k) q ≡ false
at_key k q ne = grind (arith, common_steps)

-- Steps left of n before step i.
pub less_one : (n i : ℕ) → i < n → n - i ≡ suc (n - (i + 1))
less_one n i h = omega arith

pub antisym : (x y : ℤ) → x ≤ℤ y → y ≤ℤ x → x ≡ y
antisym (pos a) (pos b) h k = ap pos (omega (arith, ints, h, k))
antisym (negsuc a) (negsuc b) h k = ap negsuc (omega (arith, ints, h, k))
antisym (pos a) (negsuc b) h k = absurd (omega (arith, ints, h, k))
antisym (negsuc a) (pos b) h k = absurd (omega (arith, ints, h, k))
