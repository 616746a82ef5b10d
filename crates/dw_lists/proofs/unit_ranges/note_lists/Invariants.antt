use Rattle.std.proofs.Common.{◌≡◌, ◌++◌, List, take}
use Rattle.dw_unit.specs.declared.entry.Attr.{Attr}
use Rattle.dw_unit.specs.CompUnits.{Unit}
use Rattle.dw_lists.specs.Faults.{ListSections}
use Rattle.cover_lists.specs.Groups.{AreNumbered, Grow}
use Rattle.dw_lists.specs.KnownLists.{AreKnown, range_list, IsNoted}
use Rattle.dw_lists.specs.Lists.{ranges_kind}
use Rattle.dw_lists.specs.UnitLists.{ReadsLists}
use Rattle.dw_lists.proofs.unit_ranges.note_lists.Given as goal

abbrev pub invariant-loop-attr : goal.invariant-loop-attr
invariant-loop-attr l =
    (s : ListSections) (u : Unit) (before : List Attr) → l.section.bytes.now ≡ s.ranges → ReadsLists ranges_kind s.units.addr u l.unit →
    AreNumbered l.fn.groups → AreKnown (range_list s u) l.fn.groups l.fn.known → IsNoted s u before l.fn.others →
    Grow l.fn.groups l.groups × AreKnown (range_list s u) l.groups l.known × IsNoted s u (before ++ take l.attr-index l.attrs) l.faults
