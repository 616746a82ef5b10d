use Rattle.std.proofs.Common.{◌≡◌, ◌+◌, length, reverse}
use Rattle.list_units.specs.OpenEntries.{closed}
use Rattle.list_units.proofs.open_entries.close.Given as goal

abbrev pub invariant-loop-count : goal.invariant-loop-count
invariant-loop-count l =
    (closed l.depth (reverse l.entries.items) ≡ closed l.depth (reverse l.fn.entries.items))
    × (length l.entries.items + l.count ≡ length l.fn.entries.items)
