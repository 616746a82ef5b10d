-- Parts of lines of the report.
use Rattle.std.specs.Prelude.{ℕ, ℤ, pos, negsuc, suc, ◌/◌, ◌%◌, ◌==◌, Bool, true, false, List, [], ◌++◌, flat_map}
use Rattle.std.specs.Prelude.{if◌then◌else◌, codes, decimal}
use Rattle.rb_bytes.specs.Text.{hexadecimal}

-- A byte in two hexadecimal digits.
abbrev pub digit : ℕ → List ℕ
digit n = hexadecimal n

abbrev pub byte_text : ℕ → List ℕ
byte_text b = digit (b / 16) ++ digit (b % 16)

-- Bytes in two hexadecimal digits each.
abbrev pub bytes_text : List ℕ → List ℕ
bytes_text bytes = flat_map byte_text bytes

-- A number with its sign, as a distance.
abbrev pub offset_text : ℤ → List ℕ
offset_text (pos n) = codes "+" ++ decimal n
offset_text (negsuc n) = codes "-" ++ decimal (suc n)

-- A register by its number.
abbrev pub register_text : ℕ → List ℕ
register_text r = codes "r" ++ decimal r

-- The text, if the flag is set.
abbrev pub if_set : Bool → List ℕ → List ℕ
if_set true text = text
if_set false text = []

-- The text, unless the number is 0.
abbrev pub unless_zero : ℕ → List ℕ → List ℕ
unless_zero n text = if n == 0 then [] else text
