use Rattle.std.proofs.Common.{◌≡◌, ◌-◌, length, map}
use Rattle.dw_lists.specs.ListEntries.{items_within}
use Rattle.dw_lists.specs.ListReading.{looked_up, item_of, said_from, prefixed}
use Rattle.cover_lists.specs.ListPlaces.{located_of}
use Rattle.dw_lists.proofs.list_reading.read_list.Given as goal

abbrev pub invariant-loop-i : goal.invariant-loop-i
invariant-loop-i l =
    prefixed (map located_of l.places.items)
    (said_from (looked_up l.addresses.section.now l.addresses.base) l.base (items_within (item_of l.list) (length l.bytes - l.i)
    l.cursor.left))
    ≡ said_from (looked_up l.addresses.section.now l.addresses.base) l.fn.base (items_within (item_of l.list) (length l.bytes) l.bytes)
