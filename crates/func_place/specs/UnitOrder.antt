-- The blocks of units in their new order. Units are numbers, with lists of their worst sizes and heats, the counts
-- between them, and the blocks of their hot and cold parts.
use Rattle.std.specs.Prelude.{ℕ, ◌≡◌, ◌==◌, List, ◌++◌, length, filter, slice_index}
use Rattle.std.specs.List.{flat_map, range_with_len}
use Rattle.func_place.specs.declared.calls.UnitCall.{UnitCall}
use Rattle.func_place.specs.Calls.{hot_units, heaviest_caller}
use Rattle.func_place.specs.Clusters.{clusters_of}
use Rattle.func_place.specs.Ranks.{IsInOrder, hotter, denser, cluster_heads}
use Rattle.func_place.specs.Bands.{order_of}

abbrev pub cold_units : List ℕ → List ℕ
cold_units heats = filter (λ u. slice_index heats u == 0) (range_with_len 0 (length heats))

-- the cluster of each unit, after the hot units were taken
abbrev pub unit_clusters : List ℕ → List ℕ → List UnitCall → List ℕ → ℕ → List ℕ
unit_clusters sizes heats calls taken = clusters_of sizes (heaviest_caller heats calls) taken

-- The hot units are taken by heat and form clusters. The clusters are in order of density, and the cold units come
-- after them, by number. This line of units is split into bands.
pub record IsUnitOrder (sizes heats : List ℕ) (calls : List UnitCall) (hot cold : ℕ → List ℕ)
    (order : List ℕ) : Type 0 where
  pub taken : List ℕ
  pub taken_is : IsInOrder (hotter heats) (hot_units heats) taken
  pub ranked : List ℕ
  pub ranked_is : let cluster = unit_clusters sizes heats calls taken in
      IsInOrder (denser sizes heats cluster) (cluster_heads cluster taken) ranked
  pub order_is : let cluster = unit_clusters sizes heats calls taken in
      order ≡ order_of sizes hot cold (flat_map cluster ranked ++ cold_units heats)
