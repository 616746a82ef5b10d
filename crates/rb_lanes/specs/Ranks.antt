-- The number of members of a list that are at most x.
use Rattle.std.specs.Prelude.{ℕ, List, count_by, nat_le}

abbrev pub rank : List ℕ → ℕ → ℕ
rank xs x = count_by (λ y. nat_le y x) xs
