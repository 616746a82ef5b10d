-- Related registers and memories of two machines, byte by byte.
use Rattle.std.proofs.Common.{◌≡◌, length, ℕ, zero, suc, ◌≤◌, List, [], ◌∷◌, Bool, true, false, refl, ap, ◌∙◌, arith}
use Rattle.std.specs.Prelude.{if◌then◌else◌, ◌==◌}
use Rattle.std.proofs.lemmas.Bool.{eqb-true, and_parts}
use Rattle.rv_code.specs.machine.Machine.{plus, set_register, all_may, memory_bytes, put}

-- Lists that are related element by element.
abbrev pub Alike : {A B : Type 0} → (A → B → Type 0) → List A → List B → Type 0
Alike R [] [] = Unit {0}
Alike R [] (y ∷ ys) = ⊥
Alike R (x ∷ xs) [] = ⊥
Alike R (x ∷ xs) (y ∷ ys) = R x y × Alike R xs ys

pub set_alike : {A B : Type 0} (R : A → B → Type 0) (r : ℕ) (v : A) (x : B) (f : ℕ → A) (g : ℕ → B) →
    ((k : ℕ) → r ≡ suc k → R v x) → ((q : ℕ) → R (f q) (g q)) → (q : ℕ) → R (set_register r v f q) (set_register r x g q)
set_alike R zero v x f g h all q = all q
set_alike {A} {B} R (suc r) v x f g h all q = cases (q == suc r)
  where
    cases : (b : Bool) → R (if b then v else f q) (if b then x else g q)
    cases true = h r refl
    cases false = all q

pub bytes_alike : {A B : Type 0} (R : A → B → Type 0) (f : ℕ → A) (g : ℕ → B) (may : ℕ → Bool) (a n : ℕ) →
    ((q : ℕ) → may q ≡ true → R (f q) (g q)) → all_may may a n ≡ true → Alike R (memory_bytes f a n) (memory_bytes g a n)
unfolding memory_bytes all_may
bytes_alike R f g may a zero all can = tt
bytes_alike R f g may a (suc n) all can =
    let parts = and_parts (may a) (all_may may (plus a 1) n) can in
    (all a parts.0, bytes_alike R f g may (plus a 1) n all parts.1)

pub put_alike : {A B : Type 0} (R : A → B → Type 0) (f : ℕ → A) (g : ℕ → B) (a q : ℕ) (xs : List A) (ys : List B) →
    Alike R xs ys → R (f q) (g q) → R (put f a xs q) (put g a ys q)
unfolding put
put_alike R f g a q [] [] h old = old
put_alike R f g a q [] (y ∷ ys) h old = absurd h
put_alike R f g a q (x ∷ xs) [] h old = absurd h
put_alike {A} {B} R f g a q (x ∷ xs) (y ∷ ys) h old = cases (q == a) (put_alike R f g (plus a 1) q xs ys h.1 old)
  where
    cases : (b : Bool) → R (put f (plus a 1) xs q) (put g (plus a 1) ys q) →
        R (if b then x else put f (plus a 1) xs q) (if b then y else put g (plus a 1) ys q)
    cases true r = h.0
    cases false r = r

-- An address that may not be written keeps its byte.
pub put_keeps : {A : Type 0} (f : ℕ → A) (may : ℕ → Bool) (a n q : ℕ) (xs : List A) → all_may may a n ≡ true →
    length xs ≤ n → (may q ≡ true → ⊥) → put f a xs q ≡ f q
unfolding put all_may
put_keeps f may a n q [] can fits not_it = refl
put_keeps f may a zero q (x ∷ xs) can fits not_it = absurd (omega (arith, fits))
put_keeps {A} f may a (suc n) q (x ∷ xs) can fits not_it =
    cases (q == a) refl (λ k. put_keeps f may (plus a 1) n q xs k (omega (arith, fits)) not_it)
  where
    parts : (may a ≡ true) × (all_may may (plus a 1) n ≡ true)
    parts = and_parts (may a) (all_may may (plus a 1) n) can

    cases : (b : Bool) → (q == a) ≡ b → (all_may may (plus a 1) n ≡ true → put f (plus a 1) xs q ≡ f q) →
        (if b then x else put f (plus a 1) xs q) ≡ f q
    cases true e rest = absurd (not_it (ap may (eqb-true q a e) ∙ parts.0))
    cases false e rest = rest parts.1

pub all_may_implied : (may could : ℕ → Bool) (a n : ℕ) → ((q : ℕ) → may q ≡ true → could q ≡ true) →
    all_may may a n ≡ true → all_may could a n ≡ true
unfolding all_may
all_may_implied may could a zero f can = refl
all_may_implied may could a (suc n) f can =
    let parts = and_parts (may a) (all_may may (plus a 1) n) can in
    rw (f a parts.0, all_may_implied may could (plus a 1) n f parts.1) refl
