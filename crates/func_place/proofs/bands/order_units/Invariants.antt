use Rattle.std.proofs.Common.{◌≡◌, ◌<◌, ◌≤◌, length, take, map}
use Rattle.std.specs.Prelude.{All}
use Rattle.std.specs.List.{flat_map}
use Rattle.rv_code.specs.layout.WorstSizes.{near_limit}
use Rattle.func_place.specs.Clusters.{total}
use Rattle.func_place.specs.internal.Groups.{list_at}
use Rattle.func_place.specs.Bands.{bands_of, blocks_of}
use Rattle.func_place.proofs.bands.order_units.Given as goal

abbrev pub invariant-loop-unit : goal.invariant-loop-unit
invariant-loop-unit l =
    let bands = bands_of l.sizes (take l.unit-index l.units) in
    (l.order.items ≡ flat_map (blocks_of (list_at (map (λ v. v.items) l.hot)) (list_at (map (λ v. v.items) l.cold))) bands.0)
    × (l.band.items ≡ bands.1)
    × (l.filled ≡ total l.sizes bands.1)
    × (l.filled ≤ near_limit)
    × All (λ u. u < length l.sizes) l.band.items
