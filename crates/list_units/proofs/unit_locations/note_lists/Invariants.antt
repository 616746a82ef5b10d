use Rattle.std.proofs.Common.{◌++◌, List, take}
use Rattle.dw_unit.specs.declared.entry.Attr.{Attr}
use Rattle.dw_unit.specs.CompUnits.{Unit}
use Rattle.cover_lists.specs.declared.kept_list.KeptList.{KeptList}
use Rattle.dw_lists.specs.Faults.{ListSections}
use Rattle.cover_lists.specs.KeptLists.{AreNumbersOf}
use Rattle.dw_lists.specs.KnownLists.{location_list, AreNoted}
use Rattle.dw_lists.specs.Lists.{locations_kind}
use Rattle.list_units.specs.ReadLists.{offsets_in, AreListed}
use Rattle.list_units.specs.UnitLocations.{ReadsLocations, AreRead}
use Rattle.list_units.proofs.unit_locations.note_lists.Given as goal

abbrev pub invariant-loop-attr : goal.invariant-loop-attr
invariant-loop-attr l =
    ((s : ListSections) (u : Unit) (before : List Attr) → ReadsLocations s u l.unit →
    AreNumbersOf (location_list s u) l.fn.lists.items l.fn.known → AreNoted locations_kind s.locations s.units.addr u before l.fn.others →
    AreRead s u l.fn.lists.items l.lists.items l.known
    × AreNoted locations_kind s.locations s.units.addr u (before ++ take l.attr-index l.attrs) l.faults)
    × ((s : ListSections) (u : Unit) (before : List Attr) (first : List KeptList) → ReadsLocations s u l.unit →
    AreListed s u (offsets_in s u before) first l.fn.lists.items l.fn.known →
    AreListed s u (offsets_in s u (before ++ take l.attr-index l.attrs)) first l.lists.items l.known)
