-- The value of a text of digits, digit by digit.
use Rattle.std.proofs.Common.{◌≡◌, ◌<◌, ◌≤◌, ◌+◌, ◌*◌, ◌∙◌, ℕ, Bool, true, false, List, [], ◌∷◌, length, get_or, take}
use Rattle.std.proofs.Common.{arith, refl, ap, sym, ◌^◌, cond, Some, None}
use Rattle.std.specs.Prelude.{◌&&◌, ◌||◌, nat_lt, if◌then◌else◌}
use Rattle.std.proofs.lemmas.Bool.{ltb-true, ltb-false, lt-ltb, le-ltb}
use Rattle.std.specs.Char.{is_ascii_digit}
use Rattle.std.specs.Int.{is_in_range}
use Rattle.std.specs.List.{list_all}
use Rattle.rb_bytes.specs.Text.{is_lower_hex_digit}
use Rattle.std.proofs.lemmas.List.{take_all}
use Rattle.std.specs.Char.{digit_value}
use Rattle.std.specs.Str.Parse.{digits_value}
use Rattle.std.proofs.lemmas.Str.Parse.{digits_value-take-le}
use Rattle.std.proofs.lemmas.Int.Digits.{digits_value_more}

-- A decimal digit is a hexadecimal one.
pub hex_from_decimal : (ds : List ℕ) → list_all is_ascii_digit ds ≡ true → list_all is_lower_hex_digit ds ≡ true
hex_from_decimal [] all = refl
hex_from_decimal (c ∷ ds) all = both (is_ascii_digit c) (is_in_range 97 102 c) (list_all is_ascii_digit ds)
    (list_all is_lower_hex_digit ds) (hex_from_decimal ds) all
  where
    both : (a b r s : Bool) → (r ≡ true → s ≡ true) → (a && r) ≡ true → ((a || b) && s) ≡ true
    both true b r s rest all = rest all
    both false b r s rest all = absurd (cc)

-- More digits never make a smaller number.
pub too_large : (radix v d : ℕ) (ds : List ℕ) (i : ℕ) → 0 < radix → i < length ds → v ≡ digits_value radix (take i ds)
    → d ≡ digit_value (get_or ds i 0) → 2 ^ 64 ≤ v * radix + d → 2 ^ 64 ≤ digits_value radix ds
too_large radix v d ds i some within is digit large =
    let more = digits_value_more radix ds i within in
    let part = digits_value-take-le radix ds (i + 1) (omega arith) in
    let same : digits_value radix (take (i + 1) ds) ≡ v * radix + d =
    more ∙ sym (ap (λ n. n * radix + d) is ∙ ap (λ e. digits_value radix (take i ds) * radix + e) digit) in
    omega (arith, same, part, large)

some_less : (n m : ℕ) → Some m ≡ (if nat_lt n (2 ^ 64) then Some n else None) → n < 2 ^ 64
some_less n m is = at (nat_lt n (2 ^ 64)) refl is
  where
    at : (b : Bool) → nat_lt n (2 ^ 64) ≡ b → Some m ≡ cond b (Some n) None → n < 2 ^ 64
    at true test is = ltb-true n (2 ^ 64) test
    at false test is = absurd (cc)

some_small : (n m : ℕ) → Some m ≡ (if nat_lt n (2 ^ 64) then Some n else None) → m ≡ n
some_small n m is = at (nat_lt n (2 ^ 64)) is
  where
    at : (b : Bool) → Some m ≡ cond b (Some n) None → m ≡ n
    at true is = cc
    at false is = absurd (cc)

none_small : (n : ℕ) → None ≡ (if nat_lt n (2 ^ 64) then Some n else None) → 2 ^ 64 ≤ n
none_small n is = at (nat_lt n (2 ^ 64)) refl is
  where
    at : (b : Bool) → nat_lt n (2 ^ 64) ≡ b → None ≡ cond b (Some n) None → 2 ^ 64 ≤ n
    at true test is = absurd (cc)
    at false test is = ltb-false n (2 ^ 64) test

small_none : (n : ℕ) → 2 ^ 64 ≤ n → None ≡ (if nat_lt n (2 ^ 64) then Some n else None)
small_none n large = ap (λ b. cond b (Some n) None) (sym (le-ltb n (2 ^ 64) large))

small_some : (n : ℕ) → n < 2 ^ 64 → Some n ≡ (if nat_lt n (2 ^ 64) then Some n else None)
small_some n less = ap (λ b. cond b (Some n) None) (sym (lt-ltb n (2 ^ 64) less))

pub appended_none : (radix v d : ℕ) (ds : List ℕ) (i : ℕ) → 0 < radix → i < length ds → v ≡ digits_value radix (take i ds)
    → d ≡ digit_value (get_or ds i 0) → None ≡ (if nat_lt (v * radix + d) (2 ^ 64) then Some (v * radix + d) else None)
    → None ≡ (if nat_lt (digits_value radix ds) (2 ^ 64) then Some (digits_value radix ds) else None)
appended_none radix v d ds i some within is digit none =
    small_none (digits_value radix ds) (too_large radix v d ds i some within is digit (none_small (v * radix + d) none))

pub appended_some : (radix v d more : ℕ) (ds : List ℕ) (i : ℕ) → i < length ds → v ≡ digits_value radix (take i ds)
    → d ≡ digit_value (get_or ds i 0) → Some more ≡ (if nat_lt (v * radix + d) (2 ^ 64) then Some (v * radix + d) else None)
    → (more ≡ digits_value radix (take (i + 1) ds)) × (more < 2 ^ 64)
appended_some radix v d more ds i within is digit some =
    let less = some_less (v * radix + d) more some in
    let same = some_small (v * radix + d) more some in (
      same ∙ ap (λ n. n * radix + d) is ∙ ap (λ e. digits_value radix (take i ds) * radix + e) digit
          ∙ sym (digits_value_more radix ds i within),
      omega (arith, less, same),
    )

pub small_value : (radix v : ℕ) (ds : List ℕ) (i : ℕ) → length ds ≤ i → v ≡ digits_value radix (take i ds) → v < 2 ^ 64
    → Some v ≡ (if nat_lt (digits_value radix ds) (2 ^ 64) then Some (digits_value radix ds) else None)
small_value radix v ds i all is less =
    let whole : v ≡ digits_value radix ds = is ∙ ap (digits_value radix) (take_all i ds all) in
    small_some v less ∙ ap (λ n. if nat_lt n (2 ^ 64) then Some n else None) whole
