-- Splitting counts of more than 64 bits into several lines.
use Rattle.std.specs.Prelude.{◌≡◌, ℕ, ◌*◌, ◌-◌, ◌/◌, List, [], ◌∷◌, ◌++◌, flat_map, map, replicate}
use Rattle.edge_profile.specs.PairCounts.{Counted, count_among}

-- the greatest count of a line
abbrev pub most_of_line : ℕ
most_of_line = 0xffff_ffff_ffff_ffff

-- A count is split into lines with the greatest count, and a last line with the rest, which isn't 0.
abbrev pub line_counts : ℕ → List ℕ
line_counts count =
    replicate ((count - 1) / most_of_line) most_of_line ++ (count - (count - 1) / most_of_line * most_of_line) ∷ []

-- the lines of pairs with positive counts
abbrev pub split_counts : List Counted → List Counted
split_counts pairs = flat_map (λ p. map (λ n. (p.0, p.1, n)) (line_counts p.2)) pairs

-- The lines have the counts of the pairs.
abbrev pub SplitLaw : Type 0
SplitLaw = (pairs : List Counted) (x y : ℕ) → count_among x y (split_counts pairs) ≡ count_among x y pairs
