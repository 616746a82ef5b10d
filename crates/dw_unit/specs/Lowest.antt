-- The lower of a number, if it counts, and another, which may be missing.
use Rattle.std.specs.Prelude.{ℕ, Bool, if◌then◌else◌, Option, Some}
use Rattle.answer_runs.specs.Choices.{lower}

abbrev pub lower_if : Bool → ℕ → Option ℕ → Option ℕ
lower_if b n y = if b then lower (Some n) y else y
