use Rattle.std.proofs.Common.{◌≡◌, take}
use Rattle.table_core.specs.DebugUnits.{walked}
use Rattle.dw_lists.specs.Faults.{ListSections}
use Rattle.list_units.specs.PlaceReading as place
use Rattle.list_units.specs.RangeReading as range
use Rattle.list_units.proofs.both_entries.read_all.Given as goal

abbrev pub invariant-loop-number : goal.invariant-loop-number
invariant-loop-number l =
    (s : ListSections) → l.sections.info.now ≡ s.units.info → l.sections.addr.now ≡ s.units.addr → l.sections.ranges.bytes.now ≡ s.ranges →
    l.sections.locations.bytes.now ≡ s.locations →
    l.reader ≡ record { units = walked 5 s.units.info; abbrevs = s.units.abbrevs; addr = s.units.addr } →
    range.IsProgress s (take l.number (walked 5 s.units.info)) l.ranged
    × place.IsProgress s (take l.number (walked 5 s.units.info)) l.placed
