-- Digits without leading zeros are the text of the number that they write.
use Rattle.std.proofs.Common.{◌≡◌, ◌≢◌, ◌<◌, ◌≤◌, ◌+◌, ◌-◌, ◌*◌, ◌/◌, ◌%◌, ◌^◌, ◌∙◌, ℕ, suc, zero, Bool, true, false, List, [], ◌∷◌}
use Rattle.std.proofs.Common.{◌++◌, length, arith, refl, ap, sym, cond, Option, Some, None, IfSome, IfNone, ⊎_elim, append-nil, rules}
use Rattle.std.specs.Prelude.{◌==◌, ◌&&◌, nat_lt, nat_le, decimal, slice_index}
use Rattle.std.specs.Char.{is_ascii_digit, digit_value}
use Rattle.std.specs.Fmt.{digits, digits_onto, digit_glyph}
use Rattle.std.specs.Int.{is_in_range}
use Rattle.std.specs.List.{list_all}
use Rattle.std.specs.Str.Parse.{AllDigits, digits_value, digits_value_after}
use Rattle.std.proofs.lemmas.Bool.{both_ways, ne_eqb, eq-eqb, lt-ltb, le-ltb, ltb-true, leb-true, cases_lt, and_parts, or_cases}
use Rattle.std.proofs.lemmas.Fmt.{decimal-digits_value}
use Rattle.std.proofs.lemmas.Str.Parse.{IsNumeralModel}
use Rattle.std.proofs.lemmas.Str.{digit_value_digit}
use Rattle.rb_bytes.specs.Text.{hexadecimal, is_lower_hex_digit, number_of_digits, hex_number, decimal_number}
use Rattle.rb_bytes.proofs.NumberTexts.{hex_read, decimal_read}
use Rattle.map_check.specs.internal.LineNumbers.{has_leading_zero}

-- a digit from `a` to `f`
letter_value : (c : ℕ) → 97 ≤ c → c ≤ 102 → digit_value c ≡ c - 87
letter_value c low high =
    rw (
      le-ltb c 48 (omega arith),
      le-ltb c 58 (omega arith),
      le-ltb c 65 (omega arith),
      le-ltb c 91 (omega arith),
      le-ltb c 97 low,
      lt-ltb c 123 (omega arith),
    ) refl

in_range_parts : (low high c : ℕ) → is_in_range low high c ≡ true → (low ≤ c) × (c ≤ high)
in_range_parts low high c is =
    let parts = and_parts _ _ is in (leb-true low c parts.0, leb-true c high parts.1)

-- the value of a digit, and that the digit is the glyph of its value
pub record IsHexDigit (c : ℕ) : Type 0 where
  pub below : digit_value c < 16
  pub glyph : digit_glyph false (digit_value c) ≡ c
  pub some : c ≢ 48 → 0 < digit_value c

pub hex_digit : (c : ℕ) → is_lower_hex_digit c ≡ true → IsHexDigit c
hex_digit c is = ⊎_elim
    (λ (digit : is_ascii_digit c ≡ true).
    let r = in_range_parts 48 57 c digit in
    let v = digit_value_digit c r in record {
      below = omega (arith, v, r.1);
      glyph = ap (λ b. cond b (48 + digit_value c) (87 + digit_value c)) (lt-ltb (digit_value c) 10 (omega (arith, v, r.1)))
          ∙ (let e : 48 + digit_value c ≡ c = omega (arith, v) in e);
      some = λ ne. positive c (digit_value c) v ne;
    })
    (λ (letter : is_in_range 97 102 c ≡ true).
    let r = in_range_parts 97 102 c letter in
    let v = letter_value c r.0 r.1 in record {
      below = omega (arith, v, r.0, r.1);
      glyph = ap (λ b. cond b (48 + digit_value c) (87 + digit_value c)) (le-ltb (digit_value c) 10 (omega (arith, v, r.0, r.1)))
          ∙ (let e : 87 + digit_value c ≡ c = omega (arith, v, r.0, r.1) in e);
      some = λ ne. omega (arith, v, r.0, r.1);
    })
    (or_cases _ _ is)
  where
    positive : (c v : ℕ) → v + 48 ≡ c → c ≢ 48 → 0 < v
    positive c zero e ne = absurd (ne (omega (arith, e)))
    positive c (suc v) e ne = omega arith

-- digits after a number, put before a text
after_onto : (k n : ℕ) (ds text : List ℕ) → 0 < n → list_all is_lower_hex_digit ds ≡ true →
    digits_onto (k + length ds) 16 false (digits_value_after 16 n ds) text ≡ digits_onto k 16 false n (ds ++ text)
after_onto k n [] text some all = ap (λ j. digits_onto j 16 false n text) (let e : k + 0 ≡ k = omega arith in e)
after_onto k n (c ∷ cs) text some all =
    let parts = and_parts (is_lower_hex_digit c) (list_all is_lower_hex_digit cs) all in
    let digit = hex_digit c parts.0 in
    let m : ℕ = n * 16 + digit_value c in
    let below = digit.below in
    let fuel : k + suc (length cs) ≡ suc k + length cs = omega arith in
    let front : m / 16 ≡ n = omega (arith, below) in
    let last : m % 16 ≡ digit_value c = omega (arith, below) in
    let more : (m / 16 == 0) ≡ false = ne_eqb (m / 16) 0 (λ z. omega (arith, z, front, some)) in
    ap (λ j. digits_onto j 16 false (digits_value_after 16 m cs) text) fuel
    ∙ after_onto (suc k) m cs text (omega arith) parts.1
    ∙ ap (λ b. cond b (digit_glyph false (m % 16) ∷ (cs ++ text)) (digits_onto k 16 false (m / 16)
    (digit_glyph false (m % 16) ∷ (cs ++ text)))) more
    ∙ (λ i. digits_onto k 16 false (front i) (digit_glyph false (last i) ∷ (cs ++ text)))
    ∙ ap (λ d. digits_onto k 16 false n (d ∷ (cs ++ text))) digit.glyph

one_onto : (k c : ℕ) (text : List ℕ) → is_lower_hex_digit c ≡ true → digits_onto (suc k) 16 false (digit_value c) text ≡ c ∷ text
one_onto k c text is =
    let digit = hex_digit c is in
    let below = digit.below in
    let v = digit_value c in
    let front : (v / 16 == 0) ≡ true = eq-eqb (v / 16) 0 (omega (arith, below)) in
    let last : v % 16 ≡ v = omega (arith, below) in
    ap (λ b. cond b (digit_glyph false (v % 16) ∷ text) (digits_onto k 16 false (v / 16) (digit_glyph false (v % 16) ∷ text))) front
    ∙ ap (λ d. digit_glyph false d ∷ text) last ∙ ap (λ d. d ∷ text) digit.glyph

onto_value : (k : ℕ) (ds : List ℕ) → list_all is_lower_hex_digit ds ≡ true → 0 < length ds → length ds ≤ k →
    (slice_index ds 0 ≡ 48 → length ds ≡ 1) → digits_onto k 16 false (digits_value 16 ds) [] ≡ ds
onto_value k [] all some short lead = absurd (omega arith)
onto_value k (c ∷ []) all some short lead =
    let parts = and_parts (is_lower_hex_digit c) true all in
    let fuel : k ≡ suc (k - 1) = omega arith in
    let one : 0 * 16 + digit_value c ≡ digit_value c = omega arith in
    ap (λ j. digits_onto j 16 false (0 * 16 + digit_value c) []) fuel
    ∙ ap (λ v. digits_onto (suc (k - 1)) 16 false v []) one ∙ one_onto (k - 1) c [] parts.0
onto_value k (c ∷ d ∷ ds) all some short lead =
    let parts = and_parts (is_lower_hex_digit c) (list_all is_lower_hex_digit (d ∷ ds)) all in
    let first : c ≢ 48 = λ zero_first. omega (arith, lead zero_first) in
    let digit = hex_digit c parts.0 in
    let j : ℕ = k - suc (suc (length ds)) in
    let fuel : k ≡ suc j + suc (length ds) = omega arith in
    let one : 0 * 16 + digit_value c ≡ digit_value c = omega arith in
    ap (λ m. digits_onto m 16 false (digits_value_after 16 (0 * 16 + digit_value c) (d ∷ ds)) []) fuel
    ∙ ap (λ v. digits_onto (suc j + suc (length ds)) 16 false (digits_value_after 16 v (d ∷ ds)) []) one
    ∙ after_onto (suc j) (digit_value c) (d ∷ ds) [] (digit.some first) parts.1
    ∙ ap (λ t. digits_onto (suc j) 16 false (digit_value c) t) (append-nil (d ∷ ds))
    ∙ one_onto j c (d ∷ ds) parts.0

pub hexadecimal-digits_value : (ds : List ℕ) → list_all is_lower_hex_digit ds ≡ true → 0 < length ds → length ds ≤ 16 →
    (slice_index ds 0 ≡ 48 → length ds ≡ 1) → hexadecimal (digits_value 16 ds) ≡ ds
unfolding digits
hexadecimal-digits_value ds all some short lead =
    let fuel : length ds ≤ 64 = omega arith in onto_value 64 ds all some fuel lead

-- The meaning of digits as a number.
pub record IsNumberOf (radix most : ℕ) (is_digit : ℕ → Bool) (ds : List ℕ) (n : ℕ) : Type 0 where
  pub some : 0 < length ds
  pub short : length ds ≤ most
  pub all : list_all is_digit ds ≡ true
  pub small : digits_value radix ds < 2 ^ 64
  pub value : n ≡ digits_value radix ds

pub number_parts : (radix most : ℕ) (is_digit : ℕ → Bool) (ds : List ℕ) (n : ℕ) → Some n ≡ number_of_digits radix most is_digit ds →
    IsNumberOf radix most is_digit ds n
number_parts radix most is_digit ds n is =
    at (nat_lt 0 (length ds) && nat_le (length ds) most && list_all is_digit ds && nat_lt (digits_value radix ds) (2 ^ 64)) refl is
  where
    at : (b : Bool)
        → (nat_lt 0 (length ds) && nat_le (length ds) most && list_all is_digit ds && nat_lt (digits_value radix ds) (2 ^ 64)) ≡ b
        → Some n ≡ cond b (Some (digits_value radix ds)) None → IsNumberOf radix most is_digit ds n
    at true test is =
        let last = and_parts _ _ test in
        let third = and_parts _ _ last.0 in
        let first = and_parts _ _ third.0 in record {
          some = ltb-true _ _ first.0;
          short = leb-true _ _ first.1;
          all = third.1;
          small = ltb-true _ _ last.1;
          value = cc;
        }
    at false test is = absurd (cc)

leads : (ds : List ℕ) → has_leading_zero ds ≡ false → slice_index ds 0 ≡ 48 → 0 < length ds → length ds ≡ 1
leads ds none zero_first some = ⊎_elim
    (λ (long : 1 < length ds).
    let yes_it : has_leading_zero ds ≡ true = rw (lt-ltb 1 (length ds) long, eq-eqb (slice_index ds 0) 48 zero_first) refl in
    absurd (cc))
    (λ (less : length ds ≤ 1). omega arith)
    (cases_lt 1 (length ds))

pub hex_text : (ds : List ℕ) (n : ℕ) → has_leading_zero ds ≡ false → Some n ≡ hex_number ds → ds ≡ hexadecimal n
hex_text ds n none is =
    let parts = number_parts 16 16 is_lower_hex_digit ds n is in
    sym (ap hexadecimal parts.value
    ∙ hexadecimal-digits_value ds parts.all parts.some parts.short (λ first. leads ds none first parts.some))

all_digits : (ds : List ℕ) → list_all is_ascii_digit ds ≡ true → AllDigits 10 ds
all_digits [] all = tt
all_digits (c ∷ cs) all =
    let parts = and_parts (is_ascii_digit c) (list_all is_ascii_digit cs) all in
    let r = in_range_parts 48 57 c parts.0 in
    (omega (arith, digit_value_digit c r, r.1), all_digits cs parts.1)

own : IsNumeralModel (AllDigits 10) (digits_value 10)
own = record { to = λ ds d. d; from = λ ds d. d; same = λ ds d. refl }

pub decimal_text : (ds : List ℕ) (n : ℕ) → has_leading_zero ds ≡ false → Some n ≡ decimal_number ds → ds ≡ decimal n
decimal_text ds n none is =
    let parts = number_parts 10 20 is_ascii_digit ds n is in
    sym (ap decimal parts.value
    ∙ decimal-digits_value own ds (all_digits ds parts.all) parts.some (λ first. leads ds none first parts.some) parts.small)

-- The meaning of the result of a reader.

pub leads_not : (ds text : List ℕ) (r : Bool) → r ≡ has_leading_zero ds → r ≡ true → has_leading_zero text ≡ false → ds ≡ text → ⊥
leads_not ds text r is leading none same =
    both_ways (has_leading_zero text) none (ap has_leading_zero (sym same) ∙ sym is ∙ leading)

pub hex_some : (r : Option ℕ) (ds : List ℕ) (lead : Bool) → lead ≡ has_leading_zero ds → lead ≡ false → r ≡ hex_number ds →
    IfSome r (λ n. ds ≡ hexadecimal n)
hex_some None ds lead is none read = search rules
hex_some (Some n) ds lead is none read = hex_text ds n (sym is ∙ none) read

pub hex_small : (r : Option ℕ) (ds : List ℕ) → r ≡ hex_number ds → IfSome r (λ n. n < 2 ^ 64)
hex_small None ds read = search rules
hex_small (Some n) ds read =
    let parts = number_parts 16 16 is_lower_hex_digit ds n read in
    let value = parts.value in let small = parts.small in omega (arith, value, small)

pub hex_none : (r : Option ℕ) (ds : List ℕ) → r ≡ hex_number ds → IfNone r ((n : ℕ) → n < 2 ^ 64 → ds ≡ hexadecimal n → ⊥)
hex_none None ds read =
    λ n fits same. let is : None ≡ Some n = read ∙ ap hex_number same ∙ hex_read n fits in absurd (cc)
hex_none (Some n) ds read = search rules

pub decimal_none : (ds : List ℕ) → None ≡ decimal_number ds → (n : ℕ) → n < 256 → ds ≡ decimal n → ⊥
decimal_none ds read n fits same =
    let is : None ≡ Some n = read ∙ ap decimal_number same ∙ decimal_read n (omega arith) in absurd (cc)

pub decimal_other : (ds : List ℕ) (m : ℕ) → Some m ≡ decimal_number ds → 255 < m → (n : ℕ) → n < 256 → ds ≡ decimal n → ⊥
decimal_other ds m read large n fits same =
    let is : Some m ≡ Some n = read ∙ ap decimal_number same ∙ decimal_read n (omega arith) in
    let e : m ≡ n = cc in omega (arith, e, large, fits)
