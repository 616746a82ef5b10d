-- The lines that are printed.
use Rattle.std.specs.Prelude.{ℕ, List, ◌++◌, codes, decimal}

-- the line for a sample that was written
abbrev pub sample_line : ℕ → List ℕ
sample_line number = codes "sample " ++ decimal number ++ codes "\n"
