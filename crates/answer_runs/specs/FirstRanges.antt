-- The result of a search in an index of ranges.
use Rattle.std.specs.Prelude.{ℕ, Option, None}
use Rattle.answer_runs.specs.declared.first_range.FirstRange.{FirstRange}
use Rattle.answer_runs.specs.Pieces.{under}

-- The number of the first range that contains an address.
abbrev pub first_range : FirstRange → ℕ → Option ℕ
first_range index a = under None index.pieces.items a
