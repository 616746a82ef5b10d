-- Numbers as text.
use Rattle.std.specs.Prelude.{ℕ, ◌^◌, ◌&&◌, ◌||◌, Bool, false, List, Option, Some, None, nat_lt, nat_le, length}
use Rattle.std.specs.Prelude.{if◌then◌else◌}
use Rattle.std.specs.Char.{is_ascii_digit}
use Rattle.std.specs.Fmt.{digits}
use Rattle.std.specs.Int.{is_in_range}
use Rattle.std.specs.List.{list_all}
use Rattle.std.specs.Str.Parse.{digits_value}

-- A number of at most 64 digits in lower-case hexadecimal, with no leading zeros; zero is `0`. This is what `{:x}`
-- prints.
abbrev pub hexadecimal : ℕ → List ℕ
hexadecimal n = digits 16 false n

abbrev pub is_lower_hex_digit : ℕ → Bool
is_lower_hex_digit c = is_ascii_digit c || is_in_range 97 102 c

-- The number below 2^64 that between 1 and `most` digits write.
abbrev pub number_of_digits : (radix most : ℕ) → (ℕ → Bool) → List ℕ → Option ℕ
number_of_digits radix most is_digit digits =
    if nat_lt 0 (length digits) && nat_le (length digits) most && list_all is_digit digits
    && nat_lt (digits_value radix digits) (2 ^ 64)
    then Some (digits_value radix digits)
    else None

abbrev pub decimal_number : List ℕ → Option ℕ
decimal_number digits = number_of_digits 10 20 is_ascii_digit digits

abbrev pub hex_number : List ℕ → Option ℕ
hex_number digits = number_of_digits 16 16 is_lower_hex_digit digits
