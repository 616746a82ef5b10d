-- A value that is present only under a condition.
use Rattle.std.specs.Prelude.{Bool, Option, Some, None, if◌then◌else◌}

abbrev pub only_if : {A : Type 0} → Bool → A → Option A
only_if test x = if test then Some x else None
