use Rattle.std.proofs.Common.{◌≡◌, take}
use Rattle.table_core.specs.DebugUnits.{walked}
use Rattle.dw_lists.specs.Faults.{ListSections}
use Rattle.list_units.specs.RangeReading.{IsProgress}
use Rattle.list_units.proofs.range_entries.read_all.Given as goal

abbrev pub invariant-loop-number : goal.invariant-loop-number
invariant-loop-number l =
    (s : ListSections) → l.section.bytes.now ≡ s.ranges → l.addr ≡ s.units.addr →
    l.reader ≡ record { units = walked 5 s.units.info; abbrevs = s.units.abbrevs; addr = s.units.addr } →
    IsProgress s (take l.number (walked 5 s.units.info)) l.progress
