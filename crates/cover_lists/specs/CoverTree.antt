-- What contracts see of a search tree of ranges.
use Rattle.std.specs.Prelude.{ℕ, ◌≤◌, ◌&&◌, nat_le, nat_lt, Bool, All, List, [], ◌∷◌, map, take}
use Rattle.cover_lists.specs.declared.cover_tree.Cover.{Cover}
use Rattle.cover_lists.specs.declared.cover_tree.Node.{Node}

-- The range contains the address.
abbrev pub holds : ℕ → Cover → Bool
holds a c = nat_le c.low a && nat_lt a c.high

abbrev pub covers_of : List Node → List Cover
covers_of nodes = map (λ (n : Node). n.cover) nodes

-- All ranges are between two addresses.
abbrev pub IsReachedBy : ℕ → ℕ → Cover → Type 0
IsReachedBy low high c = (low ≤ c.low) × (c.high ≤ high)

abbrev pub AreReached : ℕ → ℕ → List Cover → Type 0
AreReached low high covers = All (IsReachedBy low high) covers

-- The ranges of a node's block are between its two addresses, if these ranges follow the node's own.
abbrev pub IsBlock : Node → List Cover → Type 0
IsBlock n covers = AreReached n.low n.high (n.cover ∷ take n.more covers)

abbrev pub AreBlocks : List Node → Type 0
AreBlocks [] = Unit {0}
AreBlocks (n ∷ ns) = IsBlock n (covers_of ns) × AreBlocks ns

-- A range, as a range of another group.
abbrev pub regrouped : ℕ → Cover → Cover
regrouped group c = record { low = c.low; high = c.high; group = group }
