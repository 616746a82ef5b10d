-- Clusters, in the terms of the code.
use Rattle.std.specs.Prelude.{ℕ, ◌≡◌, ◌<◌, ◌≤◌, ◌+◌, ◌^◌, List, length, sum, slice_index, slice_set}
use Rattle.func_place.specs.declared.clusters.Clusters.{Clusters}
use Rattle.rv_code.specs.layout.WorstSizes.{near_limit}
use Rattle.func_place.specs.Clusters.{total}
use Rattle.func_place.specs.internal.Groups.{Grouping, grouping_of, IsGrouped, Joins, group_of}

-- the groups of units, and the worst size and the heat of each
pub record ClusterState : Type 0 where
  pub grouping : Grouping
  pub totals : List ℕ
  pub heats : List ℕ

abbrev pub state_of : Clusters → ClusterState
state_of c = record { grouping = grouping_of c.groups; totals = c.totals.items; heats = c.heats.items }

abbrev pub count_of : ClusterState → ℕ
count_of state = length state.grouping.lists

-- the size and the heat of a unit's cluster
abbrev pub size_at : ClusterState → ℕ → ℕ
size_at state u = slice_index state.totals (slice_index state.grouping.numbers u)

abbrev pub heat_at : ClusterState → ℕ → ℕ
heat_at state u = slice_index state.heats (slice_index state.grouping.numbers u)

-- No cluster exceeds the limit, a cluster with heat has a size, and sums don't overflow.
pub record IsValidState (state : ClusterState) : Type 0 where
  pub grouped : IsGrouped state.grouping
  pub totals_len : length state.totals ≡ count_of state
  pub heats_len : length state.heats ≡ count_of state
  pub low : (q : ℕ) → q < count_of state → slice_index state.totals q ≤ near_limit
  pub some : (q : ℕ) → q < count_of state → 0 < slice_index state.heats q → 0 < slice_index state.totals q
  pub room : sum state.heats < 2 ^ 101

-- Two clusters become one, which has the sum of their sizes and of their heats.
pub record Merges (old new : ClusterState) (first second kept : ℕ) : Type 0 where
  pub joins : Joins old.grouping new.grouping first second kept
  pub totals : new.totals ≡ slice_set old.totals kept (slice_index old.totals first + slice_index old.totals second)
  pub heats : new.heats ≡ slice_set (slice_set (slice_set old.heats first 0) second 0) kept
      (slice_index old.heats first + slice_index old.heats second)

-- The state represents these clusters.
pub record Keeps (sizes heats : List ℕ) (cluster : ℕ → List ℕ) (state : ClusterState) : Type 0 where
  pub list : (u : ℕ) → u < count_of state → group_of state.grouping u ≡ cluster u
  pub size : (u : ℕ) → u < count_of state → size_at state u ≡ total sizes (cluster u)
  pub heat : (u : ℕ) → u < count_of state → heat_at state u ≡ total heats (cluster u)
