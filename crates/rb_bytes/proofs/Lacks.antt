-- Texts without a byte, as those of digits.
use Rattle.std.proofs.Common.{◌≡◌, ◌<◌, ◌^◌, ℕ, zero, suc, Bool, true, false, List, [], ◌∷◌, ◌++◌, All, length, get_or, arith, refl, ap}
use Rattle.std.specs.Prelude.{◌==◌, decimal}
use Rattle.std.specs.List.{list_all}
use Rattle.std.proofs.lemmas.Bool.{eqb-true, and_parts}
use Rattle.std.proofs.lemmas.List.Elements.{All-head, All-tail}
use Rattle.rb_bytes.specs.Text.{hexadecimal, is_lower_hex_digit}
use Rattle.rb_bytes.proofs.NumberTexts.{hex_lower, decimal_lower}

-- The text doesn't have the byte c.
abbrev pub Lacks : ℕ → List ℕ → Type 0
Lacks c [] = Unit {0}
Lacks c (x ∷ xs) = ((x == c) ≡ false) × Lacks c xs

pub lacks_from : (c : ℕ) (xs : List ℕ) → All (λ x. (x == c) ≡ false) xs → Lacks c xs
lacks_from c [] all = tt
lacks_from c (x ∷ xs) all =
    (All-head (λ y. (y == c) ≡ false) x xs all, lacks_from c xs (All-tail (λ y. (y == c) ≡ false) x xs all))

pub lacks_append : (c : ℕ) (xs ys : List ℕ) → Lacks c xs → Lacks c ys → Lacks c (xs ++ ys)
lacks_append c [] ys first second = second
lacks_append c (x ∷ xs) ys first second = (first.0, lacks_append c xs ys first.1 second)

pub lacks_all : (c : ℕ) (xs : List ℕ) → Lacks c xs → (k d : ℕ) → k < length xs → (get_or xs k d == c) ≡ false
lacks_all c [] lacks k d within = absurd (omega arith)
lacks_all c (x ∷ xs) lacks zero d within = lacks.0
lacks_all c (x ∷ xs) lacks (suc k) d within = lacks_all c xs lacks.1 k d (omega arith)

-- A byte that isn't a hexadecimal digit isn't in digits.
digit_other : (c d : ℕ) (b : Bool) → (d == c) ≡ b → is_lower_hex_digit c ≡ false → is_lower_hex_digit d ≡ true → b ≡ false
digit_other c d true is other digit = let same = ap is_lower_hex_digit (eqb-true d c is) in absurd (cc)
digit_other c d false is other digit = refl

pub digits_lack : (c : ℕ) (ds : List ℕ) → is_lower_hex_digit c ≡ false → list_all is_lower_hex_digit ds ≡ true → Lacks c ds
digits_lack c [] other all = tt
digits_lack c (d ∷ ds) other all =
    let parts = and_parts (is_lower_hex_digit d) (list_all is_lower_hex_digit ds) all in
    (digit_other c d (d == c) refl other parts.0, digits_lack c ds other parts.1)

pub hex_lacks : (c n : ℕ) → is_lower_hex_digit c ≡ false → n < 2 ^ 64 → Lacks c (hexadecimal n)
hex_lacks c n other fits = digits_lack c (hexadecimal n) other (hex_lower n fits)

pub decimal_lacks : (c n : ℕ) → is_lower_hex_digit c ≡ false → n < 2 ^ 64 → Lacks c (decimal n)
decimal_lacks c n other fits = digits_lack c (decimal n) other (decimal_lower n fits)
