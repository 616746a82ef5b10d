-- The texts of numbers: their digits, and that each text is read back as its number.
use Rattle.std.proofs.Common.{◌≡◌, ◌≢◌, ◌<◌, ◌≤◌, ◌+◌, ◌-◌, ◌/◌, ◌%◌, ◌^◌, ◌∙◌, ℕ, suc, zero, Bool, true, false, List, [], ◌∷◌}
use Rattle.std.proofs.Common.{length, arith, refl, ap, subst, cond, Some, ⊎_elim}
use Rattle.std.specs.Prelude.{◌==◌, ◌&&◌, ◌||◌, nat_lt, decimal, slice_index}
use Rattle.std.specs.Char.{is_ascii_digit}
use Rattle.std.specs.Fmt.{digits, digits_onto, digit_glyph}
use Rattle.std.specs.Int.{is_in_range}
use Rattle.std.specs.List.{list_all}
use Rattle.std.specs.Str.Parse.{AllDigits, digits_value}
use Rattle.std.proofs.Math.Nat.{pow-zero}
use Rattle.std.proofs.lemmas.Bool.{eqb-true, ne_eqb, lt-ltb, le-ltb, le-leb, cases_lt}
use Rattle.std.proofs.lemmas.Fmt.{digits_is_IsNumeral, decimal_is_IsNumeral, length-decimal-le}
use Rattle.std.proofs.lemmas.Str.Parse.{digit_from_value}
use Rattle.rb_bytes.specs.Text.{hexadecimal, is_lower_hex_digit, number_of_digits, hex_number, decimal_number}
use Rattle.rb_bytes.proofs.DigitValues.{hex_from_decimal}
use Rattle.rb_bytes.proofs.HexDigits.{quotient-lt}
use Rattle.rb_bytes.proofs.Tests.{and_false, or_true}

in_range : (low high c : ℕ) → low ≤ c → c ≤ high → is_in_range low high c ≡ true
in_range low high c from to = rw (le-leb low c from, le-leb c high to) refl

-- Digits in base 16.

glyph_low : (d : ℕ) → d < 10 → digit_glyph false d ≡ 48 + d
glyph_low d less = ap (λ b. cond b (48 + d) (87 + d)) (lt-ltb d 10 less)

glyph_high : (d : ℕ) → 10 ≤ d → digit_glyph false d ≡ 87 + d
glyph_high d more = ap (λ b. cond b (48 + d) (87 + d)) (le-ltb d 10 more)

glyph_lower : (d : ℕ) → d < 16 → is_lower_hex_digit (digit_glyph false d) ≡ true
glyph_lower d less = ⊎_elim
    (λ (low : d < 10). ap is_lower_hex_digit (glyph_low d low)
    ∙ ap (λ b. b || is_in_range 97 102 (48 + d)) (in_range 48 57 (48 + d) (omega arith) (omega arith)))
    (λ (high : 10 ≤ d). ap is_lower_hex_digit (glyph_high d high) ∙ ap (λ b. is_ascii_digit (87 + d) || b)
    (in_range 97 102 (87 + d) (omega arith) (omega arith)) ∙ or_true (is_ascii_digit (87 + d)))
    (cases_lt d 10)

-- Only the digit 0 is printed as `0`.
glyph_some : (d : ℕ) → d ≢ 0 → digit_glyph false d ≢ 48
glyph_some d some = ⊎_elim
    (λ (low : d < 10). λ (e : digit_glyph false d ≡ 48). let is = glyph_low d low in some (omega (arith, e, is)))
    (λ (high : 10 ≤ d). λ (e : digit_glyph false d ≡ 48). let is = glyph_high d high in omega (arith, e, is))
    (cases_lt d 10)

lower_onto : (k n : ℕ) (text : List ℕ) → list_all is_lower_hex_digit text ≡ true →
    list_all is_lower_hex_digit (digits_onto k 16 false n text) ≡ true
lower_onto zero n text all = all
lower_onto (suc k) n text all =
    let digit : list_all is_lower_hex_digit (digit_glyph false (n % 16) ∷ text) ≡ true =
    rw (glyph_lower (n % 16) (omega arith)) all in
    at (n / 16 == 0) digit (lower_onto k (n / 16) (digit_glyph false (n % 16) ∷ text) digit)
  where
    at : (b : Bool) → list_all is_lower_hex_digit (digit_glyph false (n % 16) ∷ text) ≡ true
        → list_all is_lower_hex_digit (digits_onto k 16 false (n / 16) (digit_glyph false (n % 16) ∷ text)) ≡ true
        → list_all is_lower_hex_digit
        (cond b (digit_glyph false (n % 16) ∷ text) (digits_onto k 16 false (n / 16) (digit_glyph false (n % 16) ∷ text))) ≡ true
    at true last more = last
    at false last more = more

length_onto : (k j n : ℕ) (text : List ℕ) → n < 16 ^ j → 0 < j → length (digits_onto k 16 false n text) ≤ length text + j
length_onto zero j n text less some = omega arith
length_onto (suc k) j n text less some = at (n / 16 == 0) refl
    (λ left. length_onto k (j - 1) (n / 16) (digit_glyph false (n % 16) ∷ text) (quotient-lt n j some less) left)
  where
    left_over : (m i : ℕ) → m < 16 ^ i → 0 < m → 0 < i
    left_over m zero few some = absurd (omega (arith, pow-zero 16))
    left_over m (suc i) few some = omega arith

    at : (b : Bool) → (n / 16 == 0) ≡ b
        → (0 < j - 1 → length (digits_onto k 16 false (n / 16) (digit_glyph false (n % 16) ∷ text)) ≤ suc (length text) + (j - 1))
        → length (cond b (digit_glyph false (n % 16) ∷ text)
        (digits_onto k 16 false (n / 16) (digit_glyph false (n % 16) ∷ text))) ≤ length text + j
    at true is rest = omega arith
    at false is rest =
        let quotient : 0 < n / 16 = ⊎_elim (λ (m : 0 < n / 16). m)
        (λ (z : n / 16 ≤ 0). let e : (n / 16 == 0) ≡ true = rw (zero_is (n / 16) z) refl in absurd (cc)) (cases_lt 0 (n / 16)) in
        let left = left_over (n / 16) (j - 1) (quotient-lt n j some less) quotient in
        let bound = rest left in
        omega (arith, bound, left)
      where
        zero_is : (m : ℕ) → m ≤ 0 → m ≡ 0
        zero_is m z = omega arith

longer : (k n : ℕ) (text : List ℕ) → 0 < length text → 0 < length (digits_onto k 16 false n text)
longer zero n text has = has
longer (suc k) n text has = at (n / 16 == 0) (longer k (n / 16) (digit_glyph false (n % 16) ∷ text) (omega arith))
  where
    at : (b : Bool) → 0 < length (digits_onto k 16 false (n / 16) (digit_glyph false (n % 16) ∷ text))
        → 0 < length
        (cond b (digit_glyph false (n % 16) ∷ text) (digits_onto k 16 false (n / 16) (digit_glyph false (n % 16) ∷ text)))
    at true more = omega arith
    at false more = more

some_onto : (k n : ℕ) (text : List ℕ) → 0 < length (digits_onto (suc k) 16 false n text)
some_onto k n text = at (n / 16 == 0)
  where
    at : (b : Bool) → 0 < length
        (cond b (digit_glyph false (n % 16) ∷ text) (digits_onto k 16 false (n / 16) (digit_glyph false (n % 16) ∷ text)))
    at true = omega arith
    at false = longer k (n / 16) (digit_glyph false (n % 16) ∷ text) (omega arith)

first_onto : (k n : ℕ) (text : List ℕ) → n < 16 ^ k → 0 < n → slice_index (digits_onto k 16 false n text) 0 ≢ 48
first_onto zero n text less some = absurd (omega (arith, pow-zero 16))
first_onto (suc k) n text less some = at (n / 16 == 0) refl
    (λ quotient. first_onto k (n / 16) (digit_glyph false (n % 16) ∷ text) (let same : suc k - 1 ≡ k = omega arith in
    subst (λ j. n / 16 < 16 ^ j) same (quotient-lt n (suc k) (omega arith) less)) quotient)
  where
    at : (b : Bool) → (n / 16 == 0) ≡ b
        → (0 < n / 16 → slice_index (digits_onto k 16 false (n / 16) (digit_glyph false (n % 16) ∷ text)) 0 ≢ 48)
        → slice_index
        (cond b (digit_glyph false (n % 16) ∷ text) (digits_onto k 16 false (n / 16) (digit_glyph false (n % 16) ∷ text))) 0 ≢ 48
    at true is rest = let e : n / 16 ≡ 0 = eqb-true (n / 16) 0 is in glyph_some (n % 16) (λ z. omega (arith, e, z))
    at false is rest = rest (⊎_elim (λ (m : 0 < n / 16). m)
        (λ (z : n / 16 ≤ 0). let e : (n / 16 == 0) ≡ true = rw (zero_is (n / 16) z) refl in absurd (cc)) (cases_lt 0 (n / 16)))
      where
        zero_is : (m : ℕ) → m ≤ 0 → m ≡ 0
        zero_is m z = omega arith

-- Decimal digits.
decimal_digits : (ds : List ℕ) → AllDigits 10 ds → list_all is_ascii_digit ds ≡ true
decimal_digits [] all = refl
decimal_digits (c ∷ ds) all = let here = digit_from_value c all.0 in rw (in_range 48 57 c here.0 here.1) (decimal_digits ds all.1)

-- The digits of a number are read back as the number.
number_read : (n radix most : ℕ) (is_digit : ℕ → Bool) (ds : List ℕ) → n < 2 ^ 64 → 0 < length ds → length ds ≤ most
    → list_all is_digit ds ≡ true → digits_value radix ds ≡ n → number_of_digits radix most is_digit ds ≡ Some n
number_read n radix most is_digit ds fits some short all value =
    let small : nat_lt (digits_value radix ds) (2 ^ 64) ≡ true =
    lt-ltb (digits_value radix ds) (2 ^ 64) (omega (arith, value, fits)) in
    rw (lt-ltb 0 (length ds) some, le-leb (length ds) most short, all, small) (ap Some value)

module _ (n : ℕ) (fits : n < 2 ^ 64) where
  pub hex_lower : list_all is_lower_hex_digit (hexadecimal n) ≡ true
  unfolding digits
  hex_lower = lower_onto 64 n [] refl

  hex_short : length (hexadecimal n) ≤ 16
  unfolding digits
  hex_short = length_onto 64 16 n [] (omega (arith, fits)) (omega arith)

  hex_some : 0 < length (hexadecimal n)
  unfolding digits
  hex_some = some_onto 63 n []

  hex_first : 0 < n → slice_index (hexadecimal n) 0 ≢ 48
  unfolding digits
  hex_first some = first_onto 64 n [] (omega (arith, fits)) some

  hex_value : digits_value 16 (hexadecimal n) ≡ n
  hex_value = (digits_is_IsNumeral 16 false (omega arith) (omega arith) n (omega (arith, fits))).1

  pub hex_read : hex_number (hexadecimal n) ≡ Some n
  hex_read = number_read n 16 16 is_lower_hex_digit (hexadecimal n) fits hex_some hex_short hex_lower hex_value

  pub decimal_lower : list_all is_lower_hex_digit (decimal n) ≡ true
  decimal_lower = hex_from_decimal (decimal n) (decimal_digits (decimal n) ((decimal_is_IsNumeral n fits).0.1))

  pub decimal_read : decimal_number (decimal n) ≡ Some n
  decimal_read =
      let numeral = decimal_is_IsNumeral n fits in
      number_read n 10 20 is_ascii_digit (decimal n) fits numeral.0.0
      (length-decimal-le 20 n (omega arith) (omega (arith, fits)) fits) (decimal_digits (decimal n) numeral.0.1) numeral.1

pub zero_text : hexadecimal 0 ≡ 48 ∷ []
unfolding digits
zero_text = refl

pub positive : (n : ℕ) → n ≢ 0 → 0 < n
positive n some = ⊎_elim (λ (m : 0 < n). m) (λ (z : n ≤ 0). absurd (some (omega arith))) (cases_lt 0 n)

-- The text of a number has no leading zero.
pub no_zero_first : (text : List ℕ) → slice_index text 0 ≢ 48 → (nat_lt 1 (length text) && (slice_index text 0 == 48)) ≡ false
no_zero_first text other =
    ap (λ b. nat_lt 1 (length text) && b) (ne_eqb (slice_index text 0) 48 other) ∙ and_false (nat_lt 1 (length text))

pub hex_start : (n : ℕ) → n < 2 ^ 64 → n ≢ 0 → (nat_lt 1 (length (hexadecimal n)) && (slice_index (hexadecimal n) 0 == 48)) ≡ false
hex_start n fits some = no_zero_first (hexadecimal n) (hex_first n fits (positive n some))
