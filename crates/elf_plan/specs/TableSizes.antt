-- Tables that are given with their names.
use Rattle.std.specs.Prelude.{ℕ, List, Option, length, find, option_map, String, string_bytes, Vec}
use Rattle.std.specs.Str.{bytes_eq}

-- The size of the first table with a name, if there is one.
abbrev pub table_size : {Y Z : Type 0} → List (String Y × Vec ℕ Z) → List ℕ → Option ℕ
table_size tables name = option_map (λ t. length t.1.items) (find (λ t. bytes_eq (string_bytes t.0) name) tables)
