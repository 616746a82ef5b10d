-- Clusters of units, by call-chain clustering: each hot unit's cluster goes after the cluster of the unit that calls it
-- most, if both together are small enough.
use Rattle.std.specs.Prelude.{ℕ, ◌+◌, ◌==◌, ◌&&◌, if◌then◌else◌, Bool, not, nat_le, List, [], ◌∷◌, ◌++◌, Option, sum_by}
use Rattle.std.specs.Prelude.{◌≤◌, All, slice_index}
use Rattle.std.specs.List.{fold, list_any}
use Rattle.std.specs.Option.{option_map_or}
use Rattle.rv_code.specs.layout.WorstSizes.{near_limit}

-- A unit, a cluster or a band has at most this worst size.
abbrev pub AreWithinLimit : List ℕ → Type 0
AreWithinLimit sizes = All (λ size. size ≤ near_limit) sizes

abbrev pub has_unit : List ℕ → ℕ → Bool
has_unit units u = list_any (λ v. v == u) units

-- the sum of the sizes, or of the heats, of some units
abbrev pub total : List ℕ → List ℕ → ℕ
total sizes units = sum_by (λ u. slice_index sizes u) units

-- `cluster u` is the cluster of the unit u, a list of units. At first each unit is a cluster of its own.
abbrev pub alone : ℕ → List ℕ
alone u = u ∷ []

-- a and b become one cluster, in which b follows a
abbrev pub joined_clusters : List ℕ → List ℕ → (ℕ → List ℕ) → ℕ → List ℕ
joined_clusters a b cluster u = if has_unit (a ++ b) u then a ++ b else cluster u

-- u's cluster b goes after its caller's cluster a, if they are different and have at most the limit together
abbrev pub appended : List ℕ → List ℕ → List ℕ → ℕ → (ℕ → List ℕ) → ℕ → List ℕ
appended sizes a b u cluster =
    if not (has_unit a u) && nat_le (total sizes a + total sizes b) near_limit then joined_clusters a b cluster else
    cluster

-- one more unit is taken
abbrev pub take_unit : List ℕ → (ℕ → Option ℕ) → (ℕ → List ℕ) → ℕ → ℕ → List ℕ
take_unit sizes caller cluster u =
    option_map_or (λ v. appended sizes (cluster v) (cluster u) u cluster) (caller u) cluster

-- the clusters after the units of a list were taken, in its order
abbrev pub clusters_of : List ℕ → (ℕ → Option ℕ) → List ℕ → ℕ → List ℕ
clusters_of sizes caller taken = fold (take_unit sizes caller) alone taken
