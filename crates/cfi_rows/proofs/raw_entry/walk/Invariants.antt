use Rattle.std.proofs.Common.{◌≡◌, ◌+◌, ◌-◌, length}
use Rattle.cfi_rows.specs.Entries.{walked_entries, walk}
use Rattle.cfi_rows.proofs.RawEntries.{after}
use Rattle.cfi_rows.proofs.raw_entry.walk.Given as goal

abbrev pub invariant-loop-count : goal.invariant-loop-count
invariant-loop-count l = (walked_entries l.fn.debug l.fn.table ≡ after l.entries.items
    (walk l.fn.debug (l.count-end - l.count) l.place l.left))
    × (l.place + length l.left ≡ length l.fn.table)
