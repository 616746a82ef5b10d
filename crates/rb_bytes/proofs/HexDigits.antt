-- Hexadecimal digits that are written from the last to the first.
use Rattle.std.proofs.Common.{◌≡◌, ◌≢◌, ◌<◌, ◌-◌, ◌/◌, ◌%◌, ◌^◌, ℕ, zero, suc, List, [], ◌∷◌, false, arith, refl, drop}
use Rattle.std.proofs.Common.{length, slice_set, sym, ◌∙◌, ap, add-one, ◌≤◌, ◌++◌, Bool, true, cond}
use Rattle.std.specs.Prelude.{◌==◌}
use Rattle.std.specs.Fmt.{digits, digits_onto, digit_glyph}
use Rattle.std.proofs.lemmas.Grind.{common_steps}
use Rattle.std.proofs.Math.Nat.{pow-succ', pow-zero}
use Rattle.rb_bytes.specs.Text.{hexadecimal}

-- At most k digits of n, the last ones, before `text`.
pub hex_onto : ℕ → ℕ → List ℕ → List ℕ
hex_onto k n text = digits_onto k 16 false n text

pub hex_onto_start : (n : ℕ) → hex_onto 64 n [] ≡ hexadecimal n
unfolding hex_onto digits
hex_onto_start n = refl

-- The first digit.
hex_onto-last : (k n : ℕ) (text : List ℕ) → 0 < k → n / 16 ≡ 0 → hex_onto k n text ≡ digit_glyph false (n % 16) ∷ text
unfolding hex_onto
hex_onto-last zero n text h e = absurd (omega arith)
hex_onto-last (suc k) n text h e = rw e refl

-- A digit that is not the first.
hex_onto-more : (k n : ℕ) (text : List ℕ) → 0 < k → n / 16 ≢ 0
    → hex_onto k n text ≡ hex_onto (k - 1) (n / 16) (digit_glyph false (n % 16) ∷ text)
unfolding hex_onto
hex_onto-more zero n text h e = absurd (omega arith)
hex_onto-more (suc k) n text h e = grind (arith, common_steps)

-- The list from index start - 1 on, after a digit is written there.
drop_written : (text : List ℕ) (start d : ℕ) → 0 < start → start ≤ length text
    → drop (start - 1) (slice_set text (start - 1) d) ≡ d ∷ drop start text
drop_written text zero d h le = absurd (omega arith)
drop_written text (suc k) d h le = let p : suc k - 1 ≡ k = omega arith in rw p (grind (arith, common_steps, add-one))

-- The first digit is written before the others.
pub hex_onto-written_last : (k start n d : ℕ) (text : List ℕ) → 0 < k → 0 < start → start ≤ length text → n / 16 ≡ 0
    → d ≡ digit_glyph false (n % 16)
    → drop (start - 1) (slice_set text (start - 1) d) ≡ hex_onto k n (drop start text)
hex_onto-written_last k start n d text p h le e g =
    drop_written text start d h le ∙ rw g (sym (hex_onto-last k n (drop start text) p e))

-- A digit that is not the first is written before those after it.
pub hex_onto-written : (k start n d : ℕ) (text : List ℕ) → 0 < k → 0 < start → start ≤ length text → n / 16 ≢ 0
    → d ≡ digit_glyph false (n % 16)
    → hex_onto (k - 1) (n / 16) (drop (start - 1) (slice_set text (start - 1) d)) ≡ hex_onto k n (drop start text)
hex_onto-written k start n d text p h le e g =
    rw (drop_written text start d h le, g) (sym (hex_onto-more k n (drop start text) p e))

-- Digits before a concatenation.
pub hex_onto-append : (k n : ℕ) (xs ys : List ℕ) → hex_onto k n (xs ++ ys) ≡ hex_onto k n xs ++ ys
unfolding hex_onto
hex_onto-append zero n xs ys = refl
hex_onto-append (suc k) n xs ys =
    digits_before (n / 16 == 0) (digit_glyph false (n % 16)) _ _ (hex_onto-append k (n / 16) (digit_glyph false (n % 16) ∷ xs) ys)
  where
    digits_before : (b : Bool) (d : ℕ) (us vs : List ℕ) → us ≡ vs ++ ys → cond b (d ∷ (xs ++ ys)) us ≡ cond b (d ∷ xs) vs ++ ys
    digits_before true d us vs e = refl
    digits_before false d us vs e = e

pub hexadecimal_before : (n : ℕ) (text : List ℕ) → hex_onto 64 n text ≡ hexadecimal n ++ text
hexadecimal_before n text = hex_onto-append 64 n [] text ∙ ap (λ digits. digits ++ text) (hex_onto_start n)

-- One digit fewer.
pub quotient-lt : (n k : ℕ) → 0 < k → n < 16 ^ k → n / 16 < 16 ^ (k - 1)
quotient-lt n zero h lt = absurd (omega arith)
quotient-lt n (suc k) h lt = let e = pow-succ' 16 k in let p : suc k - 1 ≡ k = omega arith in rw p (omega (arith, rw e at lt))

-- At least one digit is left.
pub some_left : (n k : ℕ) → n < 16 ^ k → n ≢ 0 → 0 < k
some_left n zero lt ne = absurd (ne (omega (arith, pow-zero 16)))
some_left n (suc k) lt ne = omega arith
