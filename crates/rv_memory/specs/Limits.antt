-- Limits on the arguments of a program.
use Rattle.std.specs.Prelude.{ℕ, ◌≤◌, List, length, sum_by}

abbrev pub most_args : ℕ
most_args = 64

-- The most bytes of all arguments together, without the zero bytes at their ends.
abbrev pub most_arg_bytes : ℕ
most_arg_bytes = 65536

pub record IsWithinLimits (args : List (List ℕ)) : Type 0 where
  pub few : length args ≤ most_args
  pub short : sum_by (λ arg. length arg) args ≤ most_arg_bytes
