-- Replacing counts by flows, in lists of pairs in order.
use Rattle.std.specs.Prelude.{List, [], ◌∷◌, ◌++◌, filter, nat_lt, if◌then◌else◌}
use Rattle.edge_profile.specs.PairCounts.{Counted}
use Rattle.edge_profile.specs.Pairs.{is_before}

-- a flow, unless it is 0
abbrev pub some_flow : Counted → List Counted
some_flow f = if nat_lt 0 f.2 then f ∷ [] else []

abbrev pub with_flows : List Counted → List Counted → List Counted
with_flows [] pairs = pairs
with_flows (f ∷ flows) pairs =
    filter (λ p. is_before p f) pairs ++ some_flow f ++ with_flows flows (filter (λ p. is_before f p) pairs)
