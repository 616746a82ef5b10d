-- Bands: stretches of the new code that are small enough for every branch in them to reach its target. In each band the
-- hot parts of all units come before the cold ones.
use Rattle.std.specs.Prelude.{ℕ, ◌+◌, if◌then◌else◌, nat_lt, List, [], ◌∷◌, ◌++◌, slice_index}
use Rattle.std.specs.List.{fold, flat_map}
use Rattle.rv_code.specs.layout.WorstSizes.{near_limit}
use Rattle.func_place.specs.Clusters.{total}

-- the complete bands, and the current one
abbrev pub Bands : Type 0
Bands = List (List ℕ) × List ℕ

-- a unit opens a new band if the current one would exceed the limit
abbrev pub put_unit : List ℕ → Bands → ℕ → Bands
put_unit sizes bands u =
    if nat_lt near_limit (total sizes bands.1 + slice_index sizes u)
    then (bands.0 ++ bands.1 ∷ [], u ∷ [])
    else (bands.0, bands.1 ++ u ∷ [])

abbrev pub bands_of : List ℕ → List ℕ → Bands
bands_of sizes units = fold (put_unit sizes) ([], []) units

-- a band's blocks: the hot parts of its units, then their cold parts
abbrev pub blocks_of : (ℕ → List ℕ) → (ℕ → List ℕ) → List ℕ → List ℕ
blocks_of hot cold band = flat_map hot band ++ flat_map cold band

-- the blocks of units, band by band
abbrev pub order_of : List ℕ → (ℕ → List ℕ) → (ℕ → List ℕ) → List ℕ → List ℕ
order_of sizes hot cold units =
    let bands = bands_of sizes units in
    flat_map (blocks_of hot cold) bands.0 ++ blocks_of hot cold bands.1
