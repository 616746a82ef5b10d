-- The text of a profile: lines, their fields, and the numbers in these. A line has eight fields with one blank between:
--     1 FROM OFFSET 1 TO OFFSET MISPREDICTIONS COUNT
use Rattle.std.specs.Prelude.{ℕ, ◌==◌, ◌&&◌, List, [], ◌∷◌, Option, Some, None, is_some, nat_lt, if◌then◌else◌}
use Rattle.std.specs.Prelude.{length, slice_index, option_map, bytes_eq}
use Rattle.std.specs.List.{onto_first, slice_split}
use Rattle.rb_bytes.specs.Text.{decimal_number, hex_number}

-- the size limit of a text in bytes: 64 MiB
abbrev pub most_text_bytes : ℕ
most_text_bytes = 0x4000000

-- the lines of a text: each ends with a line feed, which the last may lack
abbrev pub lines : List ℕ → List (List ℕ)
lines [] = []
lines (c ∷ rest) = if c == 10 then [] ∷ lines rest else onto_first c (lines rest)

-- the fields of a line, separated by blanks
abbrev pub fields : List ℕ → List (List ℕ)
fields line = slice_split (λ c. c == 32) line

-- the number that hexadecimal digits without leading zeros write
abbrev pub short_hex_number : List ℕ → Option ℕ
short_hex_number digits = if nat_lt 1 (length digits) && slice_index digits 0 == 48 then None else hex_number digits

-- a place in code: `offset` bytes after the address that a name means
pub record NamedPlace : Type 0 where
  pub name : List ℕ
  pub offset : ℕ

-- the meaning of a line: control went from one place to another `count` times
pub record BranchLine : Type 0 where
  pub from : NamedPlace
  pub to : NamedPlace
  pub count : ℕ

abbrev pub named_place : List ℕ → Option ℕ → Option NamedPlace
named_place name offset = option_map (λ n. record { name = name; offset = n }) offset

abbrev pub all_three : Option NamedPlace → Option NamedPlace → Option ℕ → Option BranchLine
all_three (Some from) (Some to) (Some count) = Some (record { from = from; to = to; count = count })
all_three _ _ _ = None

-- the meaning of a line with these fields
abbrev pub branch_line : List (List ℕ) → Option BranchLine
branch_line (one ∷ from ∷ from_offset ∷ other ∷ to ∷ to_offset ∷ mispredictions ∷ count ∷ []) =
    if bytes_eq one (49 ∷ []) && bytes_eq other (49 ∷ []) && is_some (decimal_number mispredictions)
    then all_three (named_place from (hex_number from_offset)) (named_place to (hex_number to_offset))
    (decimal_number count)
    else None
branch_line _ = None
