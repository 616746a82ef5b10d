use Rattle.std.proofs.Common.{◌≡◌, map, take, drop, reverse}
use Rattle.std.specs.Prelude.{flat_map}
use Rattle.dw_unit.specs.ListedEntries.{ListedEntry}
use Rattle.dw_unit.specs.ListedUnits.{plain, plain_unit}
use Rattle.dw_lists.specs.Faults.{ListSections}
use Rattle.cover_lists.specs.Groups.{AreNumbered}
use Rattle.list_units.specs.Placing.{ArePlaced}
use Rattle.list_units.specs.UnitLocations.{AreHeld}
use Rattle.list_units.proofs.placing.place_unit.Given as goal

abbrev pub invariant-loop-entry : goal.invariant-loop-entry
invariant-loop-entry l =
    (s : ListSections) → l.sections.info.now ≡ s.units.info → l.sections.addr.now ≡ s.units.addr → l.sections.ranges.bytes.now ≡ s.ranges →
    l.sections.locations.bytes.now ≡ s.locations → AreNumbered l.fn.groups → AreHeld l.fn.groups.count l.fn.kept →
    ArePlaced s (plain_unit l.entries) l.fn.groups l.fn.kept l.fn.named.items l.groups l.kept l.named.items l.state
    (reverse (map plain (take l.entry-index l.entries))) (map plain (drop l.entry-index l.entries))
    (flat_map (λ (e : ListedEntry). e.attrs) (take l.entry-index l.entries)) l.faults
