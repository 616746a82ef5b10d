-- Lists of kinds of frames.
use Rattle.std.proofs.Common.{ℕ, sym, zero, suc, ◌+◌, ◌<◌, ◌≡◌, ◌==◌, ◌&&◌, List, [], ◌∷◌, Some, Bool, true, false}
use Rattle.std.proofs.Common.{refl, ◌∙◌, ap, subst, arith, length}
use Rattle.std.specs.Prelude.{slice_get}
use Rattle.std.specs.Bool.{beq}
use Rattle.std.specs.List.{AllByRecursion, IsDistinct, position_or_len}
use Rattle.std.proofs.lemmas.Bool.Decides.{nat_tests}
use Rattle.std.proofs.lemmas.Option.{same_Some}
use Rattle.rb_bytes.proofs.Tests.{bool_is, clash}
use Rattle.frame_rewrite.specs.declared.cie_key.CieKey.{CieKey}
use Rattle.frame_rewrite.specs.SpelledFrames.{is_key}
use Rattle.frame_rewrite.proofs.Appends.{pos-true, pos-false}

-- a key that passes the test is the key
parts : (a b c d f : Bool) → (a && b && c && d && f) ≡ true
    → (a ≡ true) × (b ≡ true) × (c ≡ true) × (d ≡ true) × (f ≡ true)
parts true true true true true e = (refl, refl, refl, refl, refl)
parts true true true true false e = absurd (cc)
parts true true true false f e = absurd (cc)
parts true true false d f e = absurd (cc)
parts true false c d f e = absurd (cc)
parts false b c d f e = absurd (cc)

pub same-key : (a b : CieKey) → is_key a b ≡ true → b ≡ a
same-key a b e =
    let p = parts (a.ra == b.ra) (a.handler == b.handler) (beq a.indirect b.indirect) (beq a.signal b.signal)
    (beq a.tabled b.tabled) e in
    let r : b.ra ≡ a.ra = grind (arith, nat_tests, p.0) in
    let h : b.handler ≡ a.handler = grind (arith, nat_tests, p.1) in
    let d : b.indirect ≡ a.indirect = sym (bool_is a.indirect b.indirect p.2) in
    let s : b.signal ≡ a.signal = sym (bool_is a.signal b.signal p.3) in
    let t : b.tabled ≡ a.tabled = sym (bool_is a.tabled b.tabled p.4) in
    λ i. record {
      ra = r i;
      handler = h i;
      indirect = d i;
      signal = s i;
      tabled = t i;
    }

key-first : (b : Bool) (k x : CieKey) (xs : List CieKey) → is_key k x ≡ b
    → (position_or_len (is_key k) xs < length xs → slice_get xs (position_or_len (is_key k) xs) ≡ Some k)
    → position_or_len (is_key k) (x ∷ xs) < length (x ∷ xs)
    → slice_get (x ∷ xs) (position_or_len (is_key k) (x ∷ xs)) ≡ Some k
key-first true k x xs e more h = ap (slice_get (x ∷ xs)) (pos-true (is_key k) x xs e)
    ∙ ap (λ (y : CieKey). Some y) (same-key k x e)
key-first false k x xs e more h =
    let t : position_or_len (is_key k) (x ∷ xs) ≡ 1 + position_or_len (is_key k) xs = pos-false (is_key k) x xs e in
    let u : position_or_len (is_key k) (x ∷ xs) ≡ suc (position_or_len (is_key k) xs) = omega arith in
    ap (slice_get (x ∷ xs)) u ∙ more (omega arith)

pub key-found : (k : CieKey) (ks : List CieKey) → position_or_len (is_key k) ks < length ks
    → slice_get ks (position_or_len (is_key k) ks) ≡ Some k
key-found k [] h = absurd (omega arith)
key-found k (x ∷ xs) h = key-first (is_key k x) k x xs refl (key-found k xs) h

one-itself : (b : Bool) → beq b b ≡ true
one-itself true = refl
one-itself false = refl

pub key-itself : (k : CieKey) → is_key k k ≡ true
key-itself k =
    let r : (k.ra == k.ra) ≡ true = grind (arith, nat_tests) in
    let h : (k.handler == k.handler) ≡ true = grind (arith, nat_tests) in
    rw (r, h, one-itself k.indirect, one-itself k.signal, one-itself k.tabled) refl

-- Among keys that differ, one is found at its place.

all-at : (P : CieKey → Type 0) (ks : List CieKey) (i : ℕ) (k : CieKey) → AllByRecursion P ks → slice_get ks i ≡ Some k → P k
all-at P [] i k a e = absurd (cc)
all-at P (x ∷ xs) zero k a e = subst P (same_Some x k e) a.0
all-at P (x ∷ xs) (suc i) k a e = all-at P xs i k a.1 e

pub key-place : (k : CieKey) (ks : List CieKey) (i : ℕ) → IsDistinct is_key ks → slice_get ks i ≡ Some k
    → i ≡ position_or_len (is_key k) ks
unfolding IsDistinct
key-place k [] i d e = absurd (cc)
key-place k (x ∷ xs) zero d e =
    sym (pos-true (is_key k) x xs (ap (is_key k) (same_Some x k e) ∙ key-itself k))
key-place k (x ∷ xs) (suc i) d e = one (is_key k x) refl (key-place k xs i d.1 e) where
  one : (b : Bool) → is_key k x ≡ b → i ≡ position_or_len (is_key k) xs → suc i ≡ position_or_len (is_key k) (x ∷ xs)
  one true t more =
      absurd (clash (is_key x k) (ap (λ (y : CieKey). is_key y k) (same-key k x t) ∙ key-itself k)
      (all-at (λ y. is_key x y ≡ false) xs i k d.0 e))
  one false t more =
      let p : position_or_len (is_key k) (x ∷ xs) ≡ 1 + position_or_len (is_key k) xs = pos-false (is_key k) x xs t in
      omega arith
