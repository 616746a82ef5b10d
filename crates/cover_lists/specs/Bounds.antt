-- Bounds: the addresses at which ranges begin or end.
use Rattle.std.specs.Prelude.{ℕ, List, [], ◌∷◌, flat_map}
use Rattle.cover_lists.specs.declared.cover_tree.Cover.{Cover}

-- The first addresses and the ends of ranges.
abbrev pub bounds_in : List Cover → List ℕ
bounds_in covers = flat_map (λ (c : Cover). c.low ∷ c.high ∷ []) covers
