-- Arguments that are numbers: an address, and the number of a sample.
use Rattle.std.specs.Prelude.{ℕ, ◌&&◌, List, Option, Some, None, nat_eq, nat_le, codes, drop, if◌then◌else◌}
use Rattle.std.specs.Prelude.{option_and_then}
use Rattle.std.specs.Char.{is_ascii_hexdigit}
use Rattle.std.specs.List.{starts_with}
use Rattle.rb_bytes.specs.Text.{decimal_number, number_of_digits}

-- the part of a word after `0x`, or all of a word without it
abbrev pub unprefixed : List ℕ → List ℕ
unprefixed word = if starts_with nat_eq word (codes "0x") then drop 2 word else word

-- The address that 1 to 16 hexadecimal digits write, in upper or lower case.
abbrev pub address_of : List ℕ → Option ℕ
address_of word = number_of_digits 16 16 is_ascii_hexdigit (unprefixed word)

-- There are 1000 samples.
abbrev pub sample_number_of : List ℕ → Option ℕ
sample_number_of digits =
    option_and_then (λ number. if nat_le 1 number && nat_le number 1000 then Some number else None)
    (decimal_number digits)
