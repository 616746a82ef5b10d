-- The order in which hot units are taken, and the order of clusters.
use Rattle.std.specs.Prelude.{ℕ, ◌*◌, ◌==◌, ◌&&◌, ◌||◌, Bool, false, nat_lt, List, filter, slice_index, slice_get}
use Rattle.std.specs.List.Sorted.{IsPermutation, IsSortedBy}
use Rattle.std.specs.Option.{option_map_or}
use Rattle.func_place.specs.Clusters.{total}

-- the list is a permutation of the members, and no item comes after one that it should precede
pub record IsInOrder {A : Type 0} (before : A → A → Bool) (members list : List A) : Type 0 where
  pub each : IsPermutation members list
  pub ordered : IsSortedBy before list

-- the order of units: by greater heat, then by lower number
abbrev pub hotter : List ℕ → ℕ → ℕ → Bool
hotter heats u v =
    nat_lt (slice_index heats v) (slice_index heats u) || ((slice_index heats v == slice_index heats u) && nat_lt u v)

-- u is the first unit of a cluster
abbrev pub begins : List ℕ → ℕ → Bool
begins units u = option_map_or (λ v. v == u) (slice_get units 0) false

abbrev pub cluster_heads : (ℕ → List ℕ) → List ℕ → List ℕ
cluster_heads cluster taken = filter (λ u. begins (cluster u) u) taken

-- the order of clusters: by greater density, which is heat divided by size, then by lower first unit; compared by cross
-- products
abbrev pub denser_by : ℕ → ℕ → ℕ → ℕ → ℕ → ℕ → Bool
denser_by heat size u heat' size' v =
    nat_lt (heat' * size) (heat * size') || ((heat' * size == heat * size') && nat_lt u v)

-- the order of clusters, by their first units
abbrev pub denser : List ℕ → List ℕ → (ℕ → List ℕ) → ℕ → ℕ → Bool
denser sizes heats cluster u v =
    denser_by (total heats (cluster u)) (total sizes (cluster u)) u (total heats (cluster v))
    (total sizes (cluster v)) v
