use Rattle.std.proofs.Common.{◌≡◌, map, take}
use Rattle.std.specs.Prelude.{flat_map}
use Rattle.dw_unit.specs.ListedEntries.{ListedEntry}
use Rattle.dw_unit.specs.ListedUnits.{plain, plain_unit}
use Rattle.dw_lists.specs.Faults.{ListSections}
use Rattle.list_units.specs.Gathering.{IsGathering}
use Rattle.cover_lists.specs.Groups.{AreNumbered, AreWithin}
use Rattle.list_units.proofs.gathering.add_unit.Given as goal

abbrev pub invariant-loop-entry : goal.invariant-loop-entry
invariant-loop-entry l =
    (s : ListSections) → l.section.bytes.now ≡ s.ranges → l.addr ≡ s.units.addr → AreNumbered l.fn.groups →
    AreWithin l.fn.groups.count l.fn.ranged.items →
    IsGathering s (plain_unit l.entries) l.fn.groups l.fn.ranged.items l.groups l.ranged.items l.known
    (map plain (take l.entry-index l.entries)) (flat_map (λ (e : ListedEntry). e.attrs) (take l.entry-index l.entries)) l.faults
