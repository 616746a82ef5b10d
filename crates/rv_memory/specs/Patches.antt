-- Bytes that overwrite a part of other bytes.
use Rattle.std.specs.Prelude.{ℕ, ◌+◌, ◌==◌, ◌||◌, Bool, List, ◌++◌, length, take, drop}

-- The list xs with ys written at index `at`.
unfoldable pub patched : ℕ → List ℕ → List ℕ → List ℕ
patched at ys xs = take at xs ++ (ys ++ drop (at + length ys) xs)

-- Numbers of this width are read at once.
abbrev pub is_width : ℕ → Bool
is_width n = n == 1 || n == 2 || n == 4 || n == 8
