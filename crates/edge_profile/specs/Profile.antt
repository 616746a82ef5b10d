-- The contents of a profile.
use Rattle.std.specs.Prelude.{ℕ, List}
use Rattle.edge_profile.specs.PairCounts.{Counted, count_among}
use Rattle.edge_profile.specs.declared.profile.Profile.{Profile}

-- the pairs with positive counts, in order
abbrev pub pairs_of : Profile → List Counted
pairs_of profile = profile.pairs.items

-- the count of each pair
abbrev pub profile_counts : Profile → ℕ → ℕ → ℕ
profile_counts profile from to = count_among from to (pairs_of profile)

-- the number of ignored lines
abbrev pub ignored_of : Profile → ℕ
ignored_of profile = profile.ignored
