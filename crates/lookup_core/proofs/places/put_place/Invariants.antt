use Rattle.std.proofs.Common.{◌≡◌, ◌++◌, take, flat_map, map}
use Rattle.lookup_core.specs.Report.{place_line}
use Rattle.lookup_core.proofs.places.put_place.Given as goal

abbrev pub invariant-loop-x : goal.invariant-loop-x
invariant-loop-x l = l.text.items ≡ l.initial.text.items ++ flat_map (place_line l.place.0 l.place.1)
    (map (λ x. x.items) (take l.x-index l.place.2.items))
