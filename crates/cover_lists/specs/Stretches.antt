-- Stretches of new code between whose owners no range begins or ends.
use Rattle.std.specs.Prelude.{ℕ, List, length, filter, nat_le}

-- The number of bounds that are at most an address.
abbrev pub bounds_before : List ℕ → ℕ → ℕ
bounds_before bounds a = length (filter (λ x. nat_le x a) bounds)
