use Rattle.std.proofs.Common.{◌≡◌, ◌++◌, drop, map}
use Rattle.std.specs.List.{flat_map}
use Rattle.func_place.specs.internal.Groups.{list_at}
use Rattle.func_place.proofs.bands.put_parts.Given as goal

abbrev pub invariant-loop-unit : goal.invariant-loop-unit
invariant-loop-unit l =
    let part = list_at (map (λ v. v.items) l.parts) in
    l.order.items ++ flat_map part (drop l.unit-index l.units) ≡ l.initial.order.items ++ flat_map part l.units
